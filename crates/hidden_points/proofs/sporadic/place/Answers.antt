-- The past is kept, and each number stored is the one that `point_at` says.
use Rattle.constraint.proofs.Library.{List, [], ap, get_or, refl, set, ℕ}
use Rattle.row_type.specs.Words.{changed_words, first_three_saved, number_words, undo_with, row_as_words}
use Rattle.hidden_points.proofs.sporadic.place.Goals as goal

-- a row with another number at a place
abbrev with : List (List ℕ) → ℕ → ℕ → List (List ℕ)
with row place word = set row 1 (set (get_or row 1 []) place word)

pub returns : goal.returns
unfolding row_as_words number_words changed_words
returns c parameters times state past e =
    let a = c.args in
    let kept = c.save_undo_first_three.ensures parameters times state past e in
    let stayed = c.stay.ensures parameters times state (undo_with past (first_three_saved state.registers past.state.registers)) kept in
    let done = c.settle.ensures parameters _ _
    (ap (λ w. get_or (with (with (with w 10 c.saturating_add-2.result) 11 a.low) 12 a.high) 1 []) stayed) in
    rw (done, c.saturating_add-2.ensures, c.saturating_add-due.ensures, c.saturating_add.ensures, stayed, e) refl
