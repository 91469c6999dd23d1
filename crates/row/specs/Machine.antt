-- The machine of a row of any type: what a step makes of it.
use Rattle.std.specs.Prelude.{ℕ, Bool, true, false, cond, ◌&&◌, List, [], ◌∷◌, length, get_or, ltb, eqb}
use Rattle.constraint.specs.Limits.{no_limit, waiting_limit, stream_count}
use Rattle.constraint.specs.Streams.{kind_of}
use Rattle.constraint.specs.Steps.{among}
use Rattle.constraint.specs.Constraint.{Constraint}
use Rattle.constraint.specs.declared.Verdict.{Verdict}
use Rattle.ring.specs.Ring.{Ring, ring_of, ring, changed, edited}
use Rattle.row_type.specs.Parameters.{parameters_of, start_ring, start_word_count}
use Rattle.row_type.specs.Parts.{no_registers}
use Rattle.row_type.specs.declared.Parameters.{Parameters}
use Rattle.row_type.specs.declared.Registers.{Registers}
use Rattle.row_type.specs.declared.Change.{Change}
use Rattle.row_type.specs.declared.State.{State}
use Rattle.row_type.specs.Machine.{Machine, no_machine}
use Rattle.row_type.specs.Words.{broken_for, broken_at}
use Rattle.row.specs.declared.StepInput.{StepInput}
use Rattle.row.specs.declared.Row.{Row}
use Rattle.row.specs.RowStep.{RowStep}
use Rattle.delay_order.specs.Delay.{machine_delay}
use Rattle.delay_order.specs.StrongDelay.{machine_strong_delay}
use Rattle.repeat_burst.specs.Repeat.{machine_repeat}
use Rattle.hidden_points.specs.Sporadic.{machine_sporadic}
use Rattle.delay_order.specs.Order.{machine_order}
use Rattle.synchronizations.specs.StrongSynchronization.{machine_strong_synchronization}
use Rattle.execution.specs.ExecutionTime.{machine_execution_time}
use Rattle.event_chain.specs.Reaction.{machine_reaction}
use Rattle.repetition.specs.Repetition.{machine_repetition}
use Rattle.synchronizations.specs.Synchronization.{machine_synchronization}
use Rattle.event_chain.specs.Age.{machine_age}
use Rattle.event_chain.specs.OutputSynchronization.{machine_output_synchronization}
use Rattle.event_chain.specs.InputSynchronization.{machine_input_synchronization}
use Rattle.patterns.specs.Pattern.{machine_pattern}
use Rattle.repeat_burst.specs.Arbitrary.{machine_arbitrary}

-- the machines by the numbers of their types; 0 is no type's
abbrev pub machines : List Machine
machines =
    no_machine
    ∷ machine_delay
    ∷ machine_strong_delay
    ∷ machine_repeat
    ∷ machine_sporadic
    ∷ machine_repeat
    ∷ machine_order
    ∷ machine_strong_synchronization
    ∷ machine_execution_time
    ∷ machine_reaction
    ∷ machine_repetition
    ∷ machine_synchronization
    ∷ machine_age
    ∷ machine_output_synchronization
    ∷ machine_input_synchronization
    ∷ machine_pattern
    ∷ machine_arbitrary
    ∷ []

-- a row of a number that is no type's breaks at its first event
abbrev pub machine_of : ℕ → Machine
machine_of tag = get_or machines tag no_machine

-- what an event of one of the row's streams makes of it, by the number of its type, the clock not being past its due time
abbrev pub decide : Parameters → Registers → List ℕ → ℕ → ℕ → Change
decide parameters = (machine_of parameters.tag).decide parameters

-- the event is of one of the row's kinds
abbrev pub concerns : Parameters → ℕ → Bool
concerns parameters kind = among kind (parameters.first ∷ parameters.second ∷ parameters.third ∷ parameters.fourth
    ∷ parameters.fifth ∷ [])

-- a row of its rule, its times and what it keeps beside them
abbrev pub row_from : Parameters → List ℕ → State → Row
row_from parameters times now = record { parameters = parameters; times = times; now = now }

-- the times that a row keeps, the oldest first
abbrev pub items_of : Row → List ℕ
items_of r = ring r.times r.now.head r.now.len

-- 1 for true, 0 for false
abbrev pub mark : Bool → ℕ
mark so = cond so 1 0

-- a row of a constraint before any step: it is kept if the recording is closed now
abbrev pub fresh_state : Parameters → State
fresh_state parameters = record { registers = no_registers; head = 0; len = start_word_count parameters; due = no_limit; kept = 1; broken = 0 }

unfoldable pub row_of : Constraint → Row
row_of c = row_from (parameters_of c) (start_ring c) (fresh_state (parameters_of c))

-- why a step to a time breaks a row that was due: 1 it is overdue, 2 an event breaks it, 3 the close does; and the moment: the due time that has
-- passed, or the time of the step
abbrev pub cause_by : ℕ → ℕ → Bool → ℕ
cause_by due t closes = cond (ltb due t) 1 (cond closes 3 2)

abbrev pub moment_by : ℕ → ℕ → ℕ
moment_by due t = cond (ltb due t) due t

-- the row broken at a step: it keeps the step, the cause and the moment, and holds nothing waiting
abbrev pub broken_state : State → ℕ → Bool → ℕ → State
broken_state was t closes number = broken_for (cause_by was.due t closes) (moment_by was.due t) number

-- §6.4: so by the clock or the close, and by an event at t, which comes in time
unfoldable pub broken_row : Row → ℕ → Bool → ℕ → Row
broken_row r t closes number = row_from r.parameters r.times (broken_state r.now t closes number)

abbrev pub broken_by_event : Row → ℕ → ℕ → Row
broken_by_event r t number = row_from r.parameters r.times (broken_at t number)

-- the row with a ring and what a change says of the rest
abbrev pub going_row : Parameters → Ring → Change → Row
going_row parameters q change =
    row_from parameters q.times
    (record { registers = change.registers; head = q.head; len = q.len; due = change.due; kept = mark change.kept; broken = 0 })

-- the row with a change
unfoldable pub applied : Row → Change → Row
applied r change = going_row r.parameters (edited change.edit (ring_of r.times r.now.head r.now.len)) change

abbrev pub stays : Row → RowStep
stays r = record { crowded = false; row = r }

abbrev pub crowding : Row → RowStep
crowding r = record { crowded = true; row = r }

-- a change that breaks the row, one that crowds it (it would go on with more than 64 waiting), or one that it goes on with; more than 64 times, which
-- no step leaves, are crowded as they are
unfoldable pub changed_row : Row → Change → ℕ → ℕ → RowStep
changed_row r change t number =
    cond (ltb waiting_limit r.now.len) (crowding r)
    (cond change.breaks (stays (broken_by_event r t number))
    (cond (ltb waiting_limit (length (changed change.edit (items_of r)))) (crowding r)
    (stays (applied r change))))

-- no event
abbrev pub no_event : ℕ
no_event = 65

-- what a row sees of a step that moves the clock to t: an event of a stream, a tick, the close
abbrev pub event_at : ℕ → ℕ → StepInput
event_at s t = record { kind = kind_of s; stream = s; time = t; closes = false }

abbrev pub tick_at : ℕ → StepInput
tick_at t = record { kind = no_event; stream = stream_count; time = t; closes = false }

abbrev pub close_at : ℕ → StepInput
close_at t = record { kind = no_event; stream = stream_count; time = t; closes = true }

-- a step, of that number: is the row broken already, is the clock past its due time, is the event of one of its kinds, is it closed before it
-- is kept?
unfoldable pub row_step : Row → StepInput → ℕ → RowStep
row_step r o number =
    cond (ltb 0 r.now.broken) (stays r)
    (cond (ltb r.now.due o.time) (stays (broken_row r o.time o.closes number))
    (cond (concerns r.parameters o.kind)
    (changed_row r (decide r.parameters r.now.registers (items_of r) o.stream o.time) o.time number)
    (cond (o.closes && eqb r.now.kept 0) (stays (broken_row r o.time o.closes number))
    (stays r))))

-- the row's verdict, the recording being closed or not
unfoldable pub row_verdict : Row → Bool → Verdict
row_verdict r closed = cond (ltb 0 r.now.broken) (Verdict.Broken r.now.broken) (cond closed Verdict.Kept Verdict.Open)
