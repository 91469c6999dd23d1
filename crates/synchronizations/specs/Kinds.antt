-- The registers of a row of two to four kinds: `first` to `fourth` are one number for each kind.
use Rattle.std.specs.Prelude.{ℕ, ◌≡◌, Bool, cond, ◌&&◌, ◌||◌, List, ltb, eqb}
use Rattle.row_type.specs.Parameters.{no_kind}
use Rattle.row_type.specs.Words.{UndoRecord, number_words, with_registers}
use Rattle.row_type.specs.declared.Parameters.{Parameters}
use Rattle.row_type.specs.declared.Registers.{Registers}
use Rattle.row_type.specs.declared.State.{State}

-- the one of four that belongs to the first place that has the kind; the fourth where no place before has it
abbrev pub by_kind : {A : Type 0} → Parameters → ℕ → A → A → A → A → A
by_kind parameters kind first second third fourth =
    cond (eqb kind parameters.first) first (cond (eqb kind parameters.second) second (cond (eqb kind parameters.third) third fourth))

-- the number of the kind, and its place among a row's numbers
abbrev pub register_of : Parameters → Registers → ℕ → ℕ
register_of parameters registers kind = by_kind parameters kind registers.first registers.second registers.third registers.fourth

unfoldable pub register_place : Parameters → ℕ → ℕ
register_place parameters kind = by_kind parameters kind 11 12 13 14

-- the registers with these four numbers
abbrev pub with_four : ℕ → ℕ → ℕ → ℕ → Registers → Registers
with_four first second third fourth m = record { last = m.last; first = first; second = second; third = third; fourth = fourth }

-- the registers with another number of the kind
abbrev pub with_register_of : Parameters → Registers → ℕ → ℕ → Registers
with_register_of parameters m kind n =
    with_four (by_kind parameters kind n m.first m.first m.first) (by_kind parameters kind m.second n m.second m.second)
    (by_kind parameters kind m.third m.third n m.third) (by_kind parameters kind m.fourth m.fourth m.fourth n) m

-- the number of each kind is above a bound; there are two kinds at least, and a row without a third kind has no fourth
abbrev pub each_above : Parameters → Registers → ℕ → Bool
each_above parameters registers bound =
    ltb bound registers.first
    && (ltb bound registers.second
    && (eqb parameters.third no_kind
    || (ltb bound registers.third && (eqb parameters.fourth no_kind || ltb bound registers.fourth))))

-- what a function on a row's numbers promises that changes registers alone
abbrev pub RegistersBecome : (Parameters → Registers → Registers) → List ℕ → List ℕ → Type 0
RegistersBecome change entry exit =
    (parameters : Parameters) (state : State) (past : UndoRecord) → entry ≡ number_words parameters state past
    → exit ≡ number_words parameters (with_registers state (change parameters state.registers)) past
