-- The test is that of `while_preempted`.
use Rattle.constraint.proofs.Library.{eq-eqb, ne_eqb, refl}
use Rattle.row_type.specs.Words.{changed_words, number_words, row_as_words}
use Rattle.execution.specs.ExecutionTime.{while_preempted}
use Rattle.execution.proofs.execution_time.apply_preempted.Goals as goal

pub returns-then-stream-row : goal.returns-then-stream-row
unfolding row_as_words number_words while_preempted
returns-then-stream-row c parameters times state past e =
    rw (c.run.ensures parameters times state past e, e, eq-eqb _ _ (rw e at c.if-stream-row.true)) refl

pub returns : goal.returns
unfolding row_as_words number_words changed_words while_preempted
returns c parameters times state past e =
    rw (c.break_at.ensures parameters times state past e, ne_eqb _ _ (rw e at c.if-stream-row.false)) refl
