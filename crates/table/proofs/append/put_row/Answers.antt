-- The edition is stored, and then the length field and the body one after the other.
use Rattle.table.proofs.Names.{[], ◌+◌, ◌∙◌, ◌∷◌, ◌≡◌, ap, at, bytes_length, bytes_of, length, sets, stores_append, sym, ℕ}
use Rattle.table.specs.Appending.{edition_with}
use Rattle.table.proofs.append.put_row.Goals as goal

pub returns : goal.returns
returns c =
    let a = c.before.args in
    let body = a.body.now in
    let one = sets a.buffer.now 0 (edition_with (at a.buffer.now 0) (at body 0) ∷ []) in
    let size : length (bytes_of 2 (length body)) ≡ 2 = bytes_length 2 (length body) in
    c.put_body.ensures
    ∙ rw (
      c.put_two.ensures,
      c.put_byte.ensures,
      c.edition_with.ensures,
      c.byte_at-edition.ensures,
      c.byte_at-tag.ensures,
    )
    (ap (λ (k : ℕ). sets (sets one a.place (bytes_of 2 (length body))) (a.place + k) body) (sym size)
    ∙ sym (stores_append one a.place (bytes_of 2 (length body)) body))
