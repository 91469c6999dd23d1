-- The past is saved and the last time stored first; the tests are those of the machine.
use Rattle.constraint.proofs.Library.{List, [], ap, eq-eqb, get_or, ne_eqb, refl, set, ℕ}
use Rattle.synchronizations.proofs.Laws.Places.{register_stored}
use Rattle.synchronizations.specs.Synchronization.{decide_synchronization}
use Rattle.row_type.specs.Words.{changed_words, number_words, row_as_words}
use Rattle.synchronizations.proofs.synchronization.apply.Goals as goal

-- a row with another owed event
abbrev owes : List (List ℕ) → ℕ → List (List ℕ)
owes row owed = set row 1 (set (get_or row 1 []) 10 owed)

pub returns-then-each_above : goal.returns-then-each_above
unfolding row_as_words number_words changed_words decide_synchronization
returns-then-each_above c parameters times state past e =
    let saved = c.save_undo_counts.ensures parameters times state past e in
    let stayed = c.stay.ensures parameters times state _ (c.save_undo_last.ensures parameters times state _ saved) in
    let words = register_stored _ parameters _ _ _ _ _ stayed c.place-at.ensures.place _ _ c.saturating_add-noted.ensures in
    rw (
      c.settle.ensures parameters _ _ (ap (λ m. get_or (owes m 0) 1 []) words),
      words,
      ← rw words at c.saturating_sub-since.ensures,
      ← rw words at c.each_above.ensures,
      c.if-each_above.true,
    ) refl

pub returns-then-owed-eq0 : goal.returns-then-owed-eq0
unfolding row_as_words number_words changed_words decide_synchronization
returns-then-owed-eq0 c parameters times state past e =
    let saved = c.save_undo_counts.ensures parameters times state past e in
    let stayed = c.stay.ensures parameters times state _ (c.save_undo_last.ensures parameters times state _ saved) in
    let words = register_stored _ parameters _ _ _ _ _ stayed c.place-at.ensures.place _ _ c.saturating_add-noted.ensures in
    rw (
      c.settle-then-owed-eq0.ensures parameters _ _ (ap (λ m. get_or (owes m c.saturating_add-noted.result) 1 []) words),
      rw words at c.saturating_add.ensures,
      words,
      c.saturating_add-noted.ensures,
      ← rw words at c.saturating_sub-since.ensures,
      ← rw words at c.each_above.ensures,
      c.if-each_above.false,
      eq-eqb state.registers.last 0 (rw words at c.if-owed-eq0.true),
    ) refl

pub returns : goal.returns
unfolding row_as_words number_words changed_words decide_synchronization
returns c parameters times state past e =
    let saved = c.save_undo_counts.ensures parameters times state past e in
    let stayed = c.stay.ensures parameters times state _ (c.save_undo_last.ensures parameters times state _ saved) in
    let words = register_stored _ parameters _ _ _ _ _ stayed c.place-at.ensures.place _ _ c.saturating_add-noted.ensures in
    rw (
      c.settle-2.ensures parameters _ _ (ap (λ m. get_or m 1 []) words),
      rw words at c.saturating_add-2.ensures,
      words,
      ← rw words at c.saturating_sub-since.ensures,
      ← rw words at c.each_above.ensures,
      c.if-each_above.false,
      ne_eqb state.registers.last 0 (rw words at c.if-owed-eq0.false),
    ) refl
