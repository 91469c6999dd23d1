-- The two tests are those of `while_idle`.
use Rattle.constraint.proofs.Library.{eq-eqb, le-ltb, lt-ltb, ne_eqb, refl}
use Rattle.row_type.specs.Words.{changed_words, number_words, row_as_words}
use Rattle.execution.specs.ExecutionTime.{while_idle}
use Rattle.execution.proofs.execution_time.apply_idle.Goals as goal
use Rattle.execution.proofs.execution_time.apply_idle.Goals.{else-stream-row-via-then-stream-row+else-row-gt0, else-stream-row-via-else-stream-row}

pub returns-then-row-gt0 : goal.returns-then-row-gt0
unfolding row_as_words number_words while_idle
returns-then-row-gt0 c parameters times state past e =
    rw (c.run.ensures parameters times state past e, eq-eqb _ _ (rw e at c.if-stream-row.true), lt-ltb _ _ (rw e at c.if-row-gt0.true)) refl

pub returns : goal.returns
unfolding row_as_words number_words changed_words while_idle
returns c parameters times state past e =
    rw (c.break_at.ensures parameters times state past e)
    (elim c.else-stream-row.branch [
      | else-stream-row-via-then-stream-row+else-row-gt0 w ↦
          rw (eq-eqb _ _ (rw e at w.if-stream-row.true), le-ltb _ _ (rw e at w.if-row-gt0.false)) refl
      | else-stream-row-via-else-stream-row w ↦ rw (ne_eqb _ _ (rw e at w.if-stream-row.false)) refl
    ])
