-- The step of a row taken apart, as a monitor that is lent takes it: whether an event crowds a row, what the clock or the close alone makes of a
-- row, and what an event makes of a row that it concerns.
use Rattle.std.specs.Prelude.{ℕ, Bool, true, false, cond, ◌&&◌, ltb, eqb}
use Rattle.ring.specs.Ring.{ring_of, edit_place}
use Rattle.row_type.specs.declared.Parameters.{Parameters}
use Rattle.row_type.specs.declared.Registers.{Registers}
use Rattle.row_type.specs.declared.State.{State}
use Rattle.row_type.specs.declared.Change.{Change}
use Rattle.row.specs.declared.RowUndo.{RowUndo}
use Rattle.row.specs.declared.StepInput.{StepInput}
use Rattle.row.specs.declared.Row.{Row}
use Rattle.row.specs.Machine.{machine_of, decide, concerns, items_of, broken_state, broken_row, broken_by_event, applied}
use Rattle.row.specs.Undo.{saved_at}

-- ---- the question for 64 (§8.12)

-- an event of one of the row's streams lets more wait than there is room for, 63 or 64 waiting: by the number of the row's type
abbrev pub overflows : Parameters → Registers → ℕ → ℕ → ℕ → Bool
overflows parameters = (machine_of parameters.tag).overflows parameters

-- §8.12: an event of one of the row's streams crowds it, where at most 64 wait
unfoldable pub event_overflows : Parameters → State → ℕ → ℕ → Bool
event_overflows parameters now stream t =
    cond (ltb now.len 63) false
    (cond (ltb 0 now.broken) false
    (cond (ltb now.due t) false
    (overflows parameters now.registers now.len stream t)))

-- what occurs crowds a row in which at most 64 wait
unfoldable pub crowded_by : Parameters → State → StepInput → Bool
crowded_by parameters now o = cond (concerns parameters o.kind) (event_overflows parameters now o.stream o.time) false

-- an event goes to the row: to an open one that is not overdue, and that it concerns
abbrev pub applies_by : Parameters → State → StepInput → Bool
applies_by parameters now o = cond (ltb 0 now.broken) false (cond (ltb now.due o.time) false (concerns parameters o.kind))

-- ---- the clock and the close

-- the clock or the close alone applies to the row: the row is not broken, and it is overdue, or the recording closes and that is not an event of the
-- row
unfoldable pub ends_by : Parameters → State → StepInput → Bool
ends_by parameters now o =
    cond (ltb 0 now.broken) false (cond (ltb now.due o.time) true (cond o.closes (cond (concerns parameters o.kind) false true) false))

-- what the row keeps then: it is broken where it is overdue or not kept
unfoldable pub ended_state : State → StepInput → ℕ → State
ended_state now o number =
    cond (ltb now.due o.time) (broken_state now o.time o.closes number)
    (cond (eqb now.kept 0) (broken_state now o.time o.closes number) now)

-- ---- an event

-- what an event makes of the row
abbrev pub change_by : Row → StepInput → Change
change_by r o = decide r.parameters r.now.registers (items_of r) o.stream o.time

-- the row with a change that does not crowd it: broken, or with the change
unfoldable pub with_change : Row → Change → ℕ → ℕ → Row
with_change r change t number = cond change.breaks (broken_by_event r t number) (applied r change)

-- the row after an event that concerns it, where it is not overdue and has room
abbrev pub applied_row : Row → StepInput → ℕ → Row
applied_row r o number = with_change r (change_by r o) o.time number

-- where the event writes into the row's ring, and what the row was before it
abbrev pub writes_at : Row → StepInput → ℕ
writes_at r o = edit_place (change_by r o).edit (ring_of r.times r.now.head r.now.len)

abbrev pub undo_of_event : Row → StepInput → ℕ → RowUndo
undo_of_event r o number = saved_at r (writes_at r o) number

-- ---- what occurs

-- the row after what occurs, where that does not crowd it
unfoldable pub stepped_row : StepInput → ℕ → Row → Row
stepped_row o number r =
    cond (ltb 0 r.now.broken) r
    (cond (ltb r.now.due o.time) (broken_row r o.time o.closes number)
    (cond (concerns r.parameters o.kind) (applied_row r o number)
    (cond (o.closes && eqb r.now.kept 0) (broken_row r o.time o.closes number)
    r)))
