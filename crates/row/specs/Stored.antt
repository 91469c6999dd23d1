-- A row where it lies: the words that it is, with what is kept of it, and what a step, a withdrawal and a fresh start make of them.
use Rattle.std.specs.Prelude.{ℕ, ◌+◌, ◌≡◌, cond, List, [], ◌∷◌, get_or, eqb, ltb}
use Rattle.ring.specs.Ring.{ring, time_at, second_at}
use Rattle.row_type.specs.Parts.{no_registers}
use Rattle.row_type.specs.declared.Registers.{Registers}
use Rattle.row_type.specs.declared.Parameters.{Parameters}
use Rattle.row_type.specs.declared.State.{State}
use Rattle.row_type.specs.Words.{UndoRecord, row_as_words, registers_at, changed_words}
use Rattle.row.specs.declared.RowUndo.{RowUndo}
use Rattle.row.specs.declared.StepInput.{StepInput}
use Rattle.row.specs.declared.Row.{Row}
use Rattle.row.specs.Machine.{machine_of, decide, concerns, row_from, event_at}
use Rattle.row.specs.Undo.{no_row_undo, saved_at, row_without, kept_without}
use Rattle.row.specs.StepParts.{ends_by, ended_state, change_by, applied_row, writes_at, undo_of_event}

-- what is kept of a row, as its words have it
abbrev pub undo_record_of : RowUndo → UndoRecord
undo_record_of b = record { state = b.state; place = b.place; first = b.first; second = b.second; step = b.step }

-- a row that no step has changed has none
abbrev pub nothing : UndoRecord
nothing = undo_record_of no_row_undo

unfoldable pub words_of_row : Row → RowUndo → List (List ℕ)
words_of_row r b = row_as_words r.parameters r.times r.now (undo_record_of b)

-- what a row keeps as ten numbers, in the order in which they stand, and read off them, from a place on
abbrev pub state_words : State → List ℕ
state_words state =
    state.registers.last ∷ state.registers.first ∷ state.registers.second ∷ state.registers.third ∷ state.registers.fourth
    ∷ state.head ∷ state.len ∷ state.due ∷ state.kept ∷ state.broken ∷ []

abbrev pub state_from : List ℕ → ℕ → State
state_from w place =
    record {
      registers =
          record {
            last = get_or w place 0;
            first = get_or w (place + 1) 0;
            second = get_or w (place + 2) 0;
            third = get_or w (place + 3) 0;
            fourth = get_or w (place + 4) 0;
          };
      head = get_or w (place + 5) 0;
      len = get_or w (place + 6) 0;
      due = get_or w (place + 7) 0;
      kept = get_or w (place + 8) 0;
      broken = get_or w (place + 9) 0;
    }

-- what a row keeps, read off its numbers
abbrev pub state_at : List ℕ → State
state_at w =
    record {
      registers = registers_at w;
      head = get_or w 15 0;
      len = get_or w 16 0;
      due = get_or w 17 0;
      kept = get_or w 18 0;
      broken =
          get_or w 19 0;
    }

-- ---- what an event makes of a row that it concerns: a broken one stays as it is

abbrev pub event_row : StepInput → ℕ → Row → Row
event_row o number r = cond (eqb r.now.broken 0) (applied_row r o number) r

abbrev pub event_saves : StepInput → ℕ → Row → RowUndo → RowUndo
event_saves o number r b = cond (eqb r.now.broken 0) (undo_of_event r o number) b

-- ---- what the words keep then: of the marks only those that the row's type changes, and not that it was open

-- the marks of the past, by the number of the type: those that it keeps are the state's
abbrev pub saved_registers : ℕ → Registers → Registers → Registers
saved_registers tag = (machine_of tag).keeps

-- what is kept of a row that goes on, by an event that writes at a place
abbrev pub kept_at_place : Row → RowUndo → ℕ → ℕ → RowUndo
kept_at_place r b place number =
    record {
      state =
          record {
            registers = saved_registers r.parameters.tag r.now.registers b.state.registers;
            head = r.now.head;
            len = r.now.len;
            due = r.now.due;
            kept = r.now.kept;
            broken = b.state.broken;
          };
      place = place;
      first = time_at r.times place 0;
      second = second_at r.times place;
      step = number;
    }

-- of a row that breaks all is kept
unfoldable pub applied_keeps : Row → RowUndo → StepInput → ℕ → RowUndo
applied_keeps r b o number = cond (change_by r o).breaks (undo_of_event r o number) (kept_at_place r b (writes_at r o) number)

abbrev pub event_keeps : StepInput → ℕ → Row → RowUndo → RowUndo
event_keeps o number r b = cond (eqb r.now.broken 0) (applied_keeps r b o number) b

-- marks in which what the type of that number never changes is 0
abbrev pub Unused : ℕ → Registers → Type 0
Unused tag registers = saved_registers tag registers no_registers ≡ registers

-- a row and what is kept of it in which all that its type never stores is 0: then the words keep all that the row was
pub record RestZero (r : Row) (b : RowUndo) : Type 0 where
  pub now_unused : Unused r.parameters.tag r.now.registers
  pub past_unused : Unused r.parameters.tag b.state.registers
  pub past_open : b.state.broken ≡ 0

-- ---- what the clock or the close alone makes of it

abbrev pub ended_row : StepInput → ℕ → Row → Row
ended_row o number r = cond (ends_by r.parameters r.now o) (row_from r.parameters r.times (ended_state r.now o number)) r

abbrev pub ended_saves : StepInput → ℕ → Row → RowUndo → RowUndo
ended_saves o number r b = cond (ends_by r.parameters r.now o) (saved_at r 0 number) b

-- ---- what the words keep after what occurs

unfoldable pub step_keeps : StepInput → ℕ → Row → RowUndo → RowUndo
step_keeps o number r b =
    cond (ltb r.now.due o.time) (ended_saves o number r b)
    (cond (concerns r.parameters o.kind) (event_keeps (event_at o.stream o.time) number r b)
    (ended_saves o number r b))

-- ---- what a function on a row's words promises, whatever row they are

-- what an event of one of its streams makes of them, by its type, where the row is not broken
abbrev pub Changes : List (List ℕ) → ℕ → ℕ → ℕ → List (List ℕ) → Type 0
Changes entry stream t number exit =
    (parameters : Parameters) (times : List ℕ) (state : State) (past : UndoRecord) → entry ≡ row_as_words parameters times state past
    → exit ≡ cond (eqb state.broken 0)
    (changed_words (saved_registers parameters.tag) parameters times state past
    (decide parameters state.registers (ring times state.head state.len) stream t) t number)
    (row_as_words parameters times state past)

abbrev pub Becomes : List (List ℕ) → (Row → Row) → (Row → RowUndo → RowUndo) → List (List ℕ) → Type 0
Becomes entry step saves exit = (r : Row) (b : RowUndo) → entry ≡ words_of_row r b → exit ≡ words_of_row (step r) (saves r b)

-- without the step of that number
abbrev pub Withdraws : List (List ℕ) → ℕ → List (List ℕ) → Type 0
Withdraws entry number exit =
    (r : Row) (b : RowUndo) → entry ≡ words_of_row r b → exit ≡ words_of_row (row_without number r b) (kept_without number b)
