-- What the row is becomes its past, and its state that of a broken row.
use Rattle.row_type.proofs.Names.{List, [], ◌∙◌, ap, get_or, undo_of, refl, row_as_words, set, ℕ}
use Rattle.row_type.proofs.row_words.break_at.Goals as goal

pub returns : goal.returns
unfolding row_as_words
returns c parameters times state past e =
    let kept = c.save_undo_all.ensures parameters times state past e in
    let done = c.break_numbers.ensures parameters state (undo_of times state 0 c.args.number) (ap (λ m. get_or m 1 []) kept) in
    ap (λ (w : List ℕ). set c.save_undo_all.new.row 1 w) done ∙ rw kept refl
