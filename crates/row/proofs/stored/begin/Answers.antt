-- The words are those of a row of the constraint's numbers with an empty ring, and then its constants are put into the ring.
use Rattle.constraint.proofs.Library.{List, [], ◌∙◌, ◌≡◌, ap, ap₂, get_or, refl, replicate, set, ℕ}
use Rattle.row_type.specs.Parameters.{parameters_of}
use Rattle.row_type.specs.declared.Parameters.{Parameters}
use Rattle.table_row.specs.Records.{row_read}
use Rattle.row.specs.Machine.{fresh_state, row_from}
use Rattle.row.proofs.Names.{no_row_undo, row_of, row_as_words, words_of_row}
use Rattle.row.proofs.{Nothing.undo_is}
use Rattle.row.proofs.stored.begin.Goals as goal

-- a row of some numbers with an empty ring
empty : Parameters → List (List ℕ)
empty p = words_of_row (row_from p (replicate 64 0) (fresh_state p)) no_row_undo

-- its ring is empty
ring_is : (p : Parameters) → get_or (empty p) 0 [] ≡ replicate 64 0
unfolding empty words_of_row row_as_words
ring_is p = refl

pub returns : goal.returns
unfolding row_of empty words_of_row row_as_words
returns c =
    let a = c.args in
    let p = parameters_of (row_read a.tag a.values.now) in
    let blank : c.encode_row.result ≡ empty p = c.encode_row.ensures
    ∙ ap₂ words_of_row (c.blank.ensures ∙ ap (λ (n : Parameters). row_from n (replicate 64 0) (fresh_state n)) c.parameters_of-parameters.ensures)
    (undo_is c.default.result c.default.ensures) in
    ap₂ (λ (words : List (List ℕ)) (times : List ℕ). set words 0 times) blank
    (c.put_constants.ensures (ap (λ (words : List (List ℕ)). get_or words 0 []) blank ∙ ring_is p))
