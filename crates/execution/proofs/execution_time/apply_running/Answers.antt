-- The tests are those of `while_running`, in its order.
use Rattle.constraint.proofs.Library.{List, ◌∙◌, ◌≡◌, eq-eqb, le-leb, le-ltb, lt-leb, lt-ltb, ne_eqb, refl, ℕ}
use Rattle.row_type.specs.Words.{UndoRecord, changed_words, number_words, row_as_words}
use Rattle.row_type.specs.{declared.Parameters.Parameters, declared.State.State}
use Rattle.execution.specs.ExecutionTime.{ran_to, while_running}
use Rattle.execution.proofs.execution_time.apply_running.Goals as goal
use Rattle.execution.proofs.execution_time.apply_running.Goals.{After-saturating_add-ran}
use Rattle.execution.proofs.execution_time.apply_running.Goals.{else-stream-row-via-then-stream-row+else-row-ran, else-stream-row-via-else-stream-row}
use Rattle.execution.proofs.execution_time.apply_running.Goals.{else-stream-row-2-via-then-stream-row-2+else-ran-row}
use Rattle.execution.proofs.execution_time.apply_running.Goals.{else-stream-row-2-via-else-stream-row-2}

ran_is : (parameters : Parameters) (times : List ℕ) (state : State) (past : UndoRecord) (c : After-saturating_add-ran)
    → c.args.row.now ≡ row_as_words parameters times state past → c.saturating_add-ran.result ≡ ran_to state.registers c.args.t
unfolding row_as_words number_words
ran_is parameters times state past c e =
    c.saturating_add-ran.ensures ∙ rw (c.saturating_sub-since.ensures, c.saturating_add.ensures, e) refl

pub returns-then-row-ran : goal.returns-then-row-ran
unfolding row_as_words number_words while_running
returns-then-row-ran c parameters times state past e =
    let ran = ran_is parameters times state past (goal.at.returns-then-row-ran c).After-saturating_add-ran e in
    rw (c.enter.ensures parameters times state past e, ← ran, eq-eqb _ _ (rw e at c.if-stream-row.true), le-leb _ _ (rw e at c.if-row-ran.true)) refl

pub returns-then-ran-row : goal.returns-then-ran-row
unfolding row_as_words number_words while_running
returns-then-ran-row c parameters times state past e =
    let ran = ran_is parameters times state past (goal.at.returns-then-ran-row c).After-saturating_add-ran e in
    rw (
      c.enter-then-ran-row.ensures parameters times state past e,
      ← ran,
      eq-eqb _ _ (rw e at c.if-stream-row-2.true),
      lt-ltb _ _ (rw e at c.if-ran-row.true),
    )
    (elim c.else-stream-row.branch [
      | else-stream-row-via-then-stream-row+else-row-ran w ↦
          rw (eq-eqb _ _ (rw e at w.if-stream-row.true), lt-leb _ _ (rw e at w.if-row-ran.false)) refl
      | else-stream-row-via-else-stream-row w ↦ rw (ne_eqb _ _ (rw e at w.if-stream-row.false)) refl
    ])

pub returns : goal.returns
unfolding row_as_words number_words changed_words while_running
returns c parameters times state past e =
    let ran = ran_is parameters times state past (goal.at.returns c).After-saturating_add-ran e in
    rw (c.break_at.ensures parameters times state past e, ← ran)
    (elim c.else-stream-row.branch [
      | else-stream-row-via-then-stream-row+else-row-ran w ↦
          rw (eq-eqb _ _ (rw e at w.if-stream-row.true), lt-leb _ _ (rw e at w.if-row-ran.false))
          (elim c.else-stream-row-2.branch [
            | else-stream-row-2-via-then-stream-row-2+else-ran-row v ↦
                rw (eq-eqb _ _ (rw e at v.if-stream-row-2.true), le-ltb _ _ (rw e at v.if-ran-row.false)) refl
            | else-stream-row-2-via-else-stream-row-2 v ↦ rw (ne_eqb _ _ (rw e at v.if-stream-row-2.false)) refl
          ])
      | else-stream-row-via-else-stream-row w ↦
          rw (ne_eqb _ _ (rw e at w.if-stream-row.false))
          (elim c.else-stream-row-2.branch [
            | else-stream-row-2-via-then-stream-row-2+else-ran-row v ↦
                rw (eq-eqb _ _ (rw e at v.if-stream-row-2.true), le-ltb _ _ (rw e at v.if-ran-row.false)) refl
            | else-stream-row-2-via-else-stream-row-2 v ↦ rw (ne_eqb _ _ (rw e at v.if-stream-row-2.false)) refl
          ])
    ])
