-- The length is the number of groups begun, and the tests are those of the machine, asked of the counts with the event.
use Rattle.constraint.proofs.Library.{List, [], ◌∙◌, ◌∷◌, ◌≡◌, ap, get_or, le-ltb, lt-ltb, refl, set, ℕ}
use Rattle.synchronizations.proofs.Laws.Places.{register_read, register_stored}
use Rattle.synchronizations.specs.Kinds.{register_of}
use Rattle.synchronizations.specs.StrongSynchronization.{counted, decide_strong_synchronization}
use Rattle.row_type.specs.Words.{UndoRecord, changed_words, counts_saved, number_words, row_as_words, undo_with, with_registers}
use Rattle.row_type.specs.{declared.Parameters.Parameters, declared.State.State}
use Rattle.row_type.specs.Parts.{plus}
use Rattle.ring.proofs.Laws.{ring_length}
use Rattle.synchronizations.proofs.strong_synchronization.apply.Goals as goal
use Rattle.synchronizations.proofs.strong_synchronization.apply.Goals.{After-saturating_add}

module _ (parameters : Parameters) (times : List ℕ) (state : State) (past : UndoRecord) (c : After-saturating_add)
    (e : c.args.row.now ≡ row_as_words parameters times state past) where
  count_is : get_or (get_or c.save_undo_counts.new.row 1 []) c.place-at.result 0 ≡ register_of parameters state.registers c.args.stream
  count_is = register_read _ parameters times state _ _ _ (c.save_undo_counts.ensures parameters times state past e) c.place-at.ensures.place

  words_are : set c.save_undo_counts.new.row 1 (set (get_or c.save_undo_counts.new.row 1 []) c.place-at.result c.saturating_add.result)
      ≡ row_as_words parameters times (with_registers state (counted parameters state.registers c.args.stream))
      (undo_with past (counts_saved state.registers past.state.registers))
  words_are =
      register_stored _ parameters times state _ _ _ (c.save_undo_counts.ensures parameters times state past e) c.place-at.ensures.place _ _
      (c.saturating_add.ensures ∙ ap (λ n. plus n 1) count_is)

pub returns-then-count-row : goal.returns-then-count-row
unfolding row_as_words number_words changed_words decide_strong_synchronization
returns-then-count-row c parameters times state past e =
    let count = count_is parameters times state past (goal.at.returns-then-count-row c).After-saturating_add e in
    let words = words_are parameters times state past (goal.at.returns-then-count-row c).After-saturating_add e in
    rw (
      c.one_more_waits.ensures parameters times _ _ words,
      ring_length,
      le-ltb _ _ (rw (words, count) at c.if-count-row.true),
    ) refl

pub returns-then-each_above : goal.returns-then-each_above
unfolding row_as_words number_words changed_words decide_strong_synchronization
returns-then-each_above c parameters times state past e =
    let count = count_is parameters times state past (goal.at.returns-then-each_above c).After-saturating_add e in
    let words = words_are parameters times state past (goal.at.returns-then-each_above c).After-saturating_add e in
    let gone = c.forget.ensures parameters _ _ (ap (λ m. get_or m 1 []) words) in
    let left = ap (λ m. set m 1 c.forget.new.w) words ∙ ap (λ w. times ∷ w ∷ []) gone in
    rw (
      c.fewer_wait.ensures parameters times _ _ left,
      ring_length,
      lt-ltb _ _ (rw (words, count) at c.if-count-row.false),
      ← rw words at c.each_above.ensures,
      c.if-each_above.true,
    ) refl

pub returns : goal.returns
unfolding row_as_words number_words changed_words decide_strong_synchronization
returns c parameters times state past e =
    let count = count_is parameters times state past (goal.at.returns c).After-saturating_add e in
    let words = words_are parameters times state past (goal.at.returns c).After-saturating_add e in
    rw (
      c.fewer_wait-2.ensures parameters times _ _ words,
      ring_length,
      lt-ltb _ _ (rw (words, count) at c.if-count-row.false),
      ← rw words at c.each_above.ensures,
      c.if-each_above.false,
    ) refl
