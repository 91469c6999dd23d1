-- ExecutionTime: no times are kept; `first` is the phase, 0 between two executions, 1 in a running one and 2 in a preempted one, `last` one more
-- than the
-- time of the row's last event, `second` how long the execution begun has run up to that event.
use Rattle.std.specs.Prelude.{ℕ, ◌-◌, Bool, true, false, cond, ◌&&◌, List, leb, ltb, eqb}
use Rattle.constraint.specs.Limits.{no_limit}
use Rattle.ring.specs.declared.Edit.TheVariants.{Drop}
use Rattle.row_type.specs.Parts.{plus, registers_of, continues_with, breaking}
use Rattle.row_type.specs.declared.Parameters.{Parameters}
use Rattle.row_type.specs.declared.Registers.{Registers}
use Rattle.row_type.specs.declared.Change.{Change}
use Rattle.execution.specs.declared.execution_time.Phase.{Phase}
use Rattle.execution.specs.declared.execution_time.Phase.TheVariants.{Idle, Running, Preempted}
use Rattle.row_type.specs.Words.{first_three_saved}
use Rattle.row_type.specs.Machine.{Machine, never_overflows, none_taken}

-- the phase that a number stands for, and the number of a phase
abbrev pub phase_at : ℕ → Phase
phase_at word = cond (eqb word 0) Idle (cond (eqb word 1) Running Preempted)

abbrev pub phase_number : Phase → ℕ
phase_number Idle = 0
phase_number Running = 1
phase_number Preempted = 2

-- the phase, and how long the execution begun has run up to the last event
abbrev pub phase_of : Registers → ℕ
phase_of m = m.first

abbrev pub ran_of : Registers → ℕ
ran_of m = m.second

-- how long an execution that has run without a pause since its last event has run at t
abbrev pub ran_to : Registers → ℕ → ℕ
ran_to registers t = plus (ran_of registers) (plus t 1 - registers.last)

-- the marks after an event at t: the phase, and how long the execution has run
abbrev pub in_phase : Registers → ℕ → ℕ → ℕ → Registers
in_phase m phase t ran = registers_of (plus t 1) phase ran m

-- the change to a phase
abbrev pub enters : ℕ → ℕ → ℕ → ℕ → Bool → Registers → Change
enters phase t ran due kept registers = continues_with (Drop 0) (in_phase registers phase t ran) due kept

-- the row goes on between two executions, with one that runs from t on, or with one that is preempted at t; only a running one has a due time
abbrev pub idle_from : Registers → ℕ → Change
idle_from registers t = continues_with (Drop 0) (in_phase registers 0 t 0) no_limit true

abbrev pub running_from : Parameters → Registers → ℕ → ℕ → Change
running_from parameters registers t ran = continues_with (Drop 0) (in_phase registers 1 t ran) (plus t (parameters.upper - ran)) false

abbrev pub preempted_from : Registers → ℕ → ℕ → Change
preempted_from registers t ran = continues_with (Drop 0) (in_phase registers 2 t ran) no_limit false

-- between two executions only a start may come, and some time must be left to run
unfoldable pub while_idle : Parameters → Registers → ℕ → ℕ → Change
while_idle parameters registers kind t = cond (eqb kind parameters.first && ltb 0 parameters.upper) (running_from parameters registers t 0)
    breaking

-- a stop ends a running execution, not before lower; a preempt must leave some time to run
unfoldable pub while_running : Parameters → Registers → ℕ → ℕ → Change
while_running parameters registers kind t =
    cond (eqb kind parameters.second && leb parameters.lower (ran_to registers t)) (idle_from registers t)
    (cond (eqb kind parameters.third && ltb (ran_to registers t) parameters.upper) (preempted_from registers t (ran_to registers t))
    breaking)

-- only a resume may come after a preempt
unfoldable pub while_preempted : Parameters → Registers → ℕ → ℕ → Change
while_preempted parameters registers kind t = cond (eqb kind parameters.fourth) (running_from parameters registers t (ran_of registers)) breaking

-- two events of the row never share a time
unfoldable pub decide_execution_time : Parameters → Registers → List ℕ → ℕ → ℕ → Change
decide_execution_time parameters registers times kind t =
    cond (ltb t registers.last) breaking
    (cond (eqb (phase_of registers) 0) (while_idle parameters registers kind t)
    (cond (eqb (phase_of registers) 1) (while_running parameters registers kind t)
    (while_preempted parameters registers kind t)))

abbrev pub machine_execution_time : Machine
machine_execution_time = record { keeps = first_three_saved; decide = decide_execution_time; overflows = never_overflows; taken = none_taken }
