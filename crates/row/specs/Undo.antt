-- What is kept of a row beside it, so that the last step can be withdrawn (§3.13), and the row put back.
use Rattle.std.specs.Prelude.{ℕ, List, Bool, true, false, cond, ltb, eqb}
use Rattle.ring.specs.Ring.{ring_of, time_at, second_at, edit_place, put_back}
use Rattle.row_type.specs.Parts.{no_registers}
use Rattle.row_type.specs.declared.Parameters.{Parameters}
use Rattle.row_type.specs.declared.State.{State}
use Rattle.row.specs.declared.RowUndo.{RowUndo}
use Rattle.row.specs.declared.StepInput.{StepInput}
use Rattle.row.specs.declared.Row.{Row}
use Rattle.row.specs.Machine.{decide, concerns, row_from, items_of}

-- nothing is kept
abbrev pub no_state : State
no_state = record { registers = no_registers; head = 0; len = 0; due = 0; kept = 0; broken = 0 }

-- a state is, and nothing else
abbrev pub row_undo_of : State → RowUndo
row_undo_of state = record { state = state; place = 0; first = 0; second = 0; step = 0 }

abbrev pub no_row_undo : RowUndo
no_row_undo = row_undo_of no_state

-- what occurs may change a row: one that is not broken and is overdue, or that the close finds, or that the event concerns
unfoldable pub moves_by : Parameters → State → StepInput → Bool
moves_by parameters now o =
    cond (ltb 0 now.broken) false (cond (ltb now.due o.time) true (cond o.closes true (concerns parameters o.kind)))

-- where what occurs writes into the row's ring; 0 where it writes nothing
unfoldable pub step_place : Row → StepInput → ℕ
step_place r o =
    cond (ltb 0 r.now.broken) 0
    (cond (ltb r.now.due o.time) 0
    (cond (concerns r.parameters o.kind)
    (edit_place (decide r.parameters r.now.registers (items_of r) o.stream o.time).edit (ring_of r.times r.now.head r.now.len))
    0))

-- what a row is before the step of that number, which writes at a place: what it keeps, and the words there
abbrev pub saved_from : State → List ℕ → ℕ → ℕ → RowUndo
saved_from now times place number =
    record { state = now; place = place; first = time_at times place 0; second = second_at times place; step = number }

abbrev pub saved_at : Row → ℕ → ℕ → RowUndo
saved_at r = saved_from r.now r.times

abbrev pub saved_row : Row → StepInput → ℕ → RowUndo
saved_row r o number = saved_at r (step_place r o) number

-- §3.13: so kept where the step may change the row
unfoldable pub saved_by : StepInput → ℕ → Row → RowUndo → RowUndo
saved_by o number r before = cond (moves_by r.parameters r.now o) (saved_row r o number) before

-- the row as it was
unfoldable pub back_row : Row → RowUndo → Row
back_row r b = row_from r.parameters (put_back b.place b.first b.second r.times) b.state

-- §3.13: a row without the step of that number, and what is kept of it then
unfoldable pub row_without : ℕ → Row → RowUndo → Row
row_without number r b = cond (eqb b.step number) (back_row r b) r

unfoldable pub kept_without : ℕ → RowUndo → RowUndo
kept_without number b = cond (eqb b.step number) no_row_undo b
