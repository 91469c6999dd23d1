-- The words of a row where it lies: two arrays of 64. The one is the ring of its times; the other has its constraint's numbers, what it keeps, what
-- it kept before its last step, and what that step overwrote in the ring (§3.13).
use Rattle.std.specs.Prelude.{ℕ, min, ◌≡◌, Bool, cond, List, [], ◌∷◌, get_or, replicate, eqb}
use Rattle.constraint.specs.Limits.{no_limit}
use Rattle.ring.specs.Ring.{Ring, ring_of, ring, edited, edit_place, time_at, second_at}
use Rattle.ring.specs.declared.Edit.{Edit}
use Rattle.row_type.specs.Parts.{no_registers, waits}
use Rattle.row_type.specs.declared.Parameters.{Parameters}
use Rattle.row_type.specs.declared.Registers.{Registers}
use Rattle.row_type.specs.declared.State.{State}
use Rattle.row_type.specs.declared.Change.{Change}

-- ---- where each number stands

-- the places after the last number are 0
abbrev pub spare : List ℕ
spare = replicate 28 0

-- what a row was before its last step: what it kept, where the step wrote into its ring and the words there, and the number of that step
pub record UndoRecord : Type 0 where
  pub state : State
  pub place : ℕ
  pub first : ℕ
  pub second : ℕ
  pub step : ℕ

-- what an event dispatches on: the number of the row's type, or 30 for a larger one; 31 once the row is broken. In memory of zeros it is 0 (§15.13)
abbrev pub live_of : ℕ → ℕ → ℕ
live_of tag broken = cond (eqb broken 0) (min tag 30) 31

unfoldable pub number_words : Parameters → State → UndoRecord → List ℕ
number_words parameters state past =
    parameters.tag ∷ parameters.first ∷ parameters.second ∷ parameters.third ∷ parameters.fourth ∷ parameters.span ∷ parameters.lower
    ∷ parameters.upper ∷ parameters.jitter ∷ parameters.minimum
    ∷ state.registers.last ∷ state.registers.first ∷ state.registers.second ∷ state.registers.third ∷ state.registers.fourth
    ∷ state.head ∷ state.len ∷ state.due ∷ state.kept ∷ state.broken
    ∷ past.state.registers.last ∷ past.state.registers.first ∷ past.state.registers.second ∷ past.state.registers.third
    ∷ past.state.registers.fourth
    ∷ past.state.head ∷ past.state.len ∷ past.state.due ∷ past.state.kept ∷ past.state.broken
    ∷ past.place ∷ past.first ∷ past.second ∷ past.step ∷ parameters.fifth
    ∷ live_of parameters.tag state.broken ∷ spare

unfoldable pub row_as_words : Parameters → List ℕ → State → UndoRecord → List (List ℕ)
row_as_words parameters times state past = times ∷ number_words parameters state past ∷ []

-- the numbers of a constraint, and the marks, read off their places
abbrev pub parameters_at : List ℕ → Parameters
parameters_at w =
    record {
      tag = get_or w 0 0;
      first = get_or w 1 0;
      second = get_or w 2 0;
      third = get_or w 3 0;
      fourth = get_or w 4 0;
      fifth = get_or w 34 0;
      span = get_or w 5 0;
      lower = get_or w 6 0;
      upper = get_or w 7 0;
      jitter = get_or w 8 0;
      minimum = get_or w 9 0;
    }

abbrev pub registers_at : List ℕ → Registers
registers_at w = record { last = get_or w 10 0; first = get_or w 11 0; second = get_or w 12 0; third = get_or w 13 0; fourth = get_or w 14 0 }

-- the times that a row keeps
abbrev pub times_in : List (List ℕ) → List ℕ
times_in row = ring (get_or row 0 []) (get_or (get_or row 1 []) 15 0) (get_or (get_or row 1 []) 16 0)

-- a question about a row's numbers, its marks and how many times it keeps, asked of its words
abbrev pub asked_of : (Parameters → Registers → ℕ → ℕ → ℕ → Bool) → List ℕ → ℕ → ℕ → Bool
asked_of test w s t = test (parameters_at w) (registers_at w) (get_or w 16 0) s t

-- ---- what is kept of a row before a step

-- what a row keeps with other marks
abbrev pub with_registers : State → Registers → State
with_registers state registers =
    record { registers = registers; head = state.head; len = state.len; due = state.due; kept = state.kept; broken = state.broken }

-- what it was, with other marks
abbrev pub undo_with : UndoRecord → Registers → UndoRecord
undo_with past registers =
    record { state = with_registers past.state registers; place = past.place; first = past.first; second = past.second; step = past.step }

-- all that the row keeps, before a step that writes at a place
abbrev pub undo_of : List ℕ → State → ℕ → ℕ → UndoRecord
undo_of times state place number =
    record { state = state; place = place; first = time_at times place 0; second = second_at times place; step = number }

-- all but its marks and whether it is broken, which stay what they were in its past
abbrev pub undo_but_registers : List ℕ → State → UndoRecord → ℕ → ℕ → UndoRecord
undo_but_registers times state past place number =
    record {
      state =
          record {
            registers = past.state.registers;
            head = state.head;
            len = state.len;
            due = state.due;
            kept = state.kept;
            broken = past.state.broken;
          };
      place = place;
      first = time_at times place 0;
      second = second_at times place;
      step = number;
    }

-- the same before the words that the step overwrites are kept
abbrev pub numbers_saved : ℕ → ℕ → State → UndoRecord → UndoRecord
numbers_saved place number state past =
    record {
      state =
          record {
            registers = past.state.registers;
            head = state.head;
            len = state.len;
            due = state.due;
            kept = state.kept;
            broken = past.state.broken;
          };
      place = place;
      first = past.first;
      second = past.second;
      step = number;
    }

-- the marks of the past where a type keeps, of those of the state, none (it changes none), the last time, the first three, the four counts
abbrev pub none_saved : Registers → Registers → Registers
none_saved registers past = past

abbrev pub last_saved : Registers → Registers → Registers
last_saved registers past =
    record { last = registers.last; first = past.first; second = past.second; third = past.third; fourth = past.fourth }

abbrev pub first_three_saved : Registers → Registers → Registers
first_three_saved registers past =
    record { last = registers.last; first = registers.first; second = registers.second; third = past.third; fourth = past.fourth }

abbrev pub counts_saved : Registers → Registers → Registers
counts_saved registers past =
    record { last = past.last; first = registers.first; second = registers.second; third = registers.third; fourth = registers.fourth }

-- ---- what an event makes of them

-- a row that is broken keeps the step, and nothing waits in it. Cause and moment stand where an open row has the start of its ring and the mark for
-- kept
abbrev pub broken_for : ℕ → ℕ → ℕ → State
broken_for cause moment number = record { registers = no_registers; head = cause; len = 0; due = no_limit; kept = moment; broken = number }

-- so is one that an event at t breaks: the cause is 2 (§15.14)
abbrev pub broken_at : ℕ → ℕ → State
broken_at t number = broken_for 2 t number

-- what a row keeps with another ring
abbrev pub with_ring : State → Ring → State
with_ring state q =
    record { registers = state.registers; head = q.head; len = q.len; due = state.due; kept = state.kept; broken = state.broken }

-- what a row keeps that goes on from a state
abbrev pub going_on : State → Ring → Registers → ℕ → Bool → State
going_on state q registers due kept =
    record { registers = registers; head = q.head; len = q.len; due = due; kept = cond kept 1 0; broken = state.broken }

-- so, with its marks and its ring as they are
abbrev pub settled : State → ℕ → ℕ → State
settled state due kept =
    record { registers = state.registers; head = state.head; len = state.len; due = due; kept = kept; broken = state.broken }

-- the row's words after a change that does not crowd it, made by an event at t, the step of that number, of a type that keeps some of the marks
unfoldable pub changed_words : (Registers → Registers → Registers) → Parameters → List ℕ → State → UndoRecord → Change → ℕ → ℕ → List (List ℕ)
changed_words keeps parameters times state past change t number =
    cond change.breaks
    (row_as_words parameters times (broken_at t number) (undo_of times state (edit_place change.edit (ring_of times state.head state.len)) number))
    (row_as_words parameters (edited change.edit (ring_of times state.head state.len)).times
    (going_on state (edited change.edit (ring_of times state.head state.len)) change.registers change.due change.kept)
    (undo_but_registers times state (undo_with past (keeps state.registers past.state.registers))
    (edit_place change.edit (ring_of times state.head state.len)) number))

-- ---- what functions on a row's words promise, whatever row they are

-- of its numbers: what it keeps and what it was become these
abbrev pub NumbersBecome : (State → UndoRecord → State) → (State → UndoRecord → UndoRecord) → List ℕ → List ℕ → Type 0
NumbersBecome state-after Past-After entry exit =
    (parameters : Parameters) (state : State) (past : UndoRecord) → entry ≡ number_words parameters state past
    → exit ≡ number_words parameters (state-after state past) (Past-After state past)

-- some of the marks are kept
abbrev pub SavesUndoRegisters : (Registers → Registers → Registers) → List (List ℕ) → List (List ℕ) → Type 0
SavesUndoRegisters keeps entry exit =
    (parameters : Parameters) (times : List ℕ) (state : State) (past : UndoRecord) → entry ≡ row_as_words parameters times state past
    → exit ≡ row_as_words parameters times state (undo_with past (keeps state.registers past.state.registers))

-- the rest is, before a step that writes at a place
abbrev pub SavesUndo : List (List ℕ) → ℕ → ℕ → List (List ℕ) → Type 0
SavesUndo entry place number exit =
    (parameters : Parameters) (times : List ℕ) (state : State) (past : UndoRecord) → entry ≡ row_as_words parameters times state past
    → exit ≡ row_as_words parameters times state (undo_but_registers times state past place number)

-- all is, before a step that writes nowhere
abbrev pub SavesUndoAll : List (List ℕ) → ℕ → List (List ℕ) → Type 0
SavesUndoAll entry number exit =
    (parameters : Parameters) (times : List ℕ) (state : State) (past : UndoRecord) → entry ≡ row_as_words parameters times state past
    → exit ≡ row_as_words parameters times state (undo_of times state 0 number)

-- the row breaks by an event at t
abbrev pub BreaksRow : List (List ℕ) → ℕ → ℕ → List (List ℕ) → Type 0
BreaksRow entry t number exit =
    (parameters : Parameters) (times : List ℕ) (state : State) (past : UndoRecord) → entry ≡ row_as_words parameters times state past
    → exit ≡ row_as_words parameters times (broken_at t number) (undo_of times state 0 number)

-- the ring is edited, and what the row was but for its marks is its past
abbrev pub Edits : List (List ℕ) → Edit → ℕ → List (List ℕ) → Type 0
Edits entry edit number exit =
    (parameters : Parameters) (times : List ℕ) (state : State) (past : UndoRecord) → entry ≡ row_as_words parameters times state past
    → exit ≡ row_as_words parameters (edited edit (ring_of times state.head state.len)).times
    (with_ring state (edited edit (ring_of times state.head state.len)))
    (undo_but_registers times state past (edit_place edit (ring_of times state.head state.len)) number)

-- a change that the row's own numbers, marks and times give is made where the words lie, by an event at t of a type that keeps some of the marks
abbrev pub MakesAt : (Registers → Registers → Registers) → List (List ℕ) → (Parameters → Registers → List ℕ → Change) → ℕ → ℕ → List (List ℕ)
    → Type 0
MakesAt keeps entry change t number exit =
    (parameters : Parameters) (times : List ℕ) (state : State) (past : UndoRecord) → entry ≡ row_as_words parameters times state past
    → exit ≡ changed_words keeps parameters times state past (change parameters state.registers (ring times state.head state.len)) t number

-- so is a change that breaks no row: its time does not matter
abbrev pub Makes : (Registers → Registers → Registers) → List (List ℕ) → (Parameters → Registers → List ℕ → Change) → ℕ → List (List ℕ) → Type 0
Makes keeps entry change number exit = MakesAt keeps entry change 0 number exit

-- such a change where the times of the row wait, which keeps no marks by itself
abbrev pub MakesWaiting : List (List ℕ) → Edit → ℕ → List (List ℕ) → Type 0
MakesWaiting entry edit number exit = Makes none_saved entry (λ parameters registers times. waits parameters.upper times edit registers) number exit

-- the function of a row type: its machine's change is made
abbrev pub Applies : (Registers → Registers → Registers) → (Parameters → Registers → List ℕ → ℕ → ℕ → Change) → List (List ℕ) → ℕ → ℕ → ℕ
    → List (List ℕ) → Type 0
Applies keeps machine entry stream t number exit = MakesAt keeps entry (λ parameters registers times. machine parameters registers times stream t)
    t number exit
