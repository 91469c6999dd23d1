-- The past is kept, and each number stored is the one that the change says.
use Rattle.constraint.proofs.Library.{List, [], ap, get_or, refl, set, ℕ}
use Rattle.row_type.proofs.Tests.{bool_number}
use Rattle.row_type.specs.Words.{changed_words, first_three_saved, number_words, undo_with, row_as_words}
use Rattle.execution.proofs.execution_time.enter.Goals as goal

-- a row with another number at a place
abbrev with : List (List ℕ) → ℕ → ℕ → List (List ℕ)
with row place word = set row 1 (set (get_or row 1 []) place word)

pub returns : goal.returns
unfolding row_as_words number_words changed_words
returns c parameters times state past e =
    let a = c.args in
    let kept = c.save_undo_first_three.ensures parameters times state past e in
    let stayed = c.stay.ensures parameters times state (undo_with past (first_three_saved state.registers past.state.registers)) kept in
    let done = c.settle.ensures parameters _ _
    (ap (λ w. get_or (with (with (with w 10 c.saturating_add.result) 11 c.from.result) 12 a.ran) 1 []) stayed) in
    rw (done, c.from-2.ensures, bool_number, c.from.ensures, c.saturating_add.ensures, stayed) refl
