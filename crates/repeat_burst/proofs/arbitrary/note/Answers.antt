-- The past is kept, and each number stored is the one that is asked for.
use Rattle.constraint.proofs.Library.{List, [], ap, get_or, refl, set, ℕ}
use Rattle.row_type.specs.Words.{changed_words, counts_saved, number_words, undo_with, row_as_words}
use Rattle.repeat_burst.proofs.arbitrary.note.Goals as goal

-- a row with another number at a place
abbrev with : List (List ℕ) → ℕ → ℕ → List (List ℕ)
with row place word = set row 1 (set (get_or row 1 []) place word)

pub returns : goal.returns
unfolding row_as_words number_words changed_words
returns c parameters times state past e =
    let a = c.args in
    let kept = c.save_undo_counts.ensures parameters times state past e in
    let put = c.put_two.ensures parameters times state (undo_with past (counts_saved state.registers past.state.registers)) kept in
    let done = c.settle.ensures parameters _ _ (ap (λ w. get_or (with w 11 a.next) 1 []) put) in
    rw (done, put) refl
