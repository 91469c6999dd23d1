-- Two events never share a time; each phase has its own changes.
use Rattle.constraint.proofs.Library.{Bool, ◌≡◌, cond, eqb, false, le-ltb, lt-ltb, refl, true, ℕ}
use Rattle.row_type.specs.declared.Change.{Change}
use Rattle.row_type.specs.Words.{changed_words, number_words, row_as_words}
use Rattle.execution.specs.declared.execution_time.Phase.{Phase}
use Rattle.execution.specs.declared.execution_time.Phase.TheVariants.{Idle, Running, Preempted}
use Rattle.execution.specs.ExecutionTime.{decide_execution_time, phase_at}
use Rattle.execution.proofs.execution_time.apply.Goals as goal

-- one of three changes, by the phase
abbrev by_phase : Change → Change → Change → Phase → Change
by_phase idle running preempted Idle = idle
by_phase idle running preempted Running = running
by_phase idle running preempted Preempted = preempted

by_number : (idle running preempted : Change) (word : ℕ) → cond (eqb word 0) idle (cond (eqb word 1) running preempted)
    ≡ by_phase idle running preempted (phase_at word)
by_number idle running preempted word = by (eqb word 0) (eqb word 1)
  where
    by : (a b : Bool) → cond a idle (cond b running preempted) ≡ by_phase idle running preempted (cond a Idle (cond b Running Preempted))
    by true b = refl
    by false true = refl
    by false false = refl

pub returns-then-t-row : goal.returns-then-t-row
unfolding row_as_words number_words changed_words decide_execution_time
returns-then-t-row c parameters times state past e = rw (
  c.break_at.ensures parameters times state past e,
  lt-ltb _ _ (rw e at
      c.if-t-row.true),
) refl

pub returns-in-Idle : goal.returns-in-Idle
unfolding row_as_words number_words decide_execution_time
returns-in-Idle c parameters times state past e =
    rw (
      c.apply_idle.ensures parameters times state past e,
      le-ltb _ _ (rw e at c.if-t-row.false),
      by_number,
      ← rw e at c.from-phase.ensures,
      c.in-Idle.is,
    ) refl

pub returns-in-Running : goal.returns-in-Running
unfolding row_as_words number_words decide_execution_time
returns-in-Running c parameters times state past e =
    rw (
      c.apply_running.ensures parameters times state past e,
      le-ltb _ _ (rw e at c.if-t-row.false),
      by_number,
      ← rw e at c.from-phase.ensures,
      c.in-Running.is,
    ) refl

pub returns-in-Preempted : goal.returns-in-Preempted
unfolding row_as_words number_words decide_execution_time
returns-in-Preempted c parameters times state past e =
    rw (
      c.apply_preempted.ensures parameters times state past e,
      le-ltb _ _ (rw e at c.if-t-row.false),
      by_number,
      ← rw e at c.from-phase.ensures,
      c.in-Preempted.is,
    ) refl
