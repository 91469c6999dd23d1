-- The eight bytes of a number, first to last, are those that are stored.
use Rattle.std.specs.Int.{to_be_bytes, w64}
use Rattle.constraint.proofs.Library.{◌∙◌, ◌≡◌, List, ap, div-one, refl, sets, ℕ}
use Rattle.constraint.specs.Bytes.{bytes_of}
use Rattle.big_endian.proofs.put_eight.Goals as goal

pub returns : goal.returns
unfolding bytes_of
returns c =
    let a = c.args in
    let eight : to_be_bytes w64 a.x ≡ bytes_of 8 a.x = rw div-one refl in
    c.put.ensures ∙ ap (λ (bytes : List ℕ). sets a.buffer.now a.place bytes) (c.to_be_bytes.ensures ∙ eight)
