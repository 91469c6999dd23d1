-- Order: no times are kept; `first` is the number of sources beyond the number of targets, `last` one more than the time of a target beyond
-- the number of sources.
use Rattle.std.specs.Prelude.{ℕ, ◌-◌, false, cond, List, [], eqb}
use Rattle.constraint.specs.Limits.{no_limit}
use Rattle.ring.specs.Ring.{ring_of}
use Rattle.ring.specs.declared.Edit.TheVariants.{Drop}
use Rattle.row_type.specs.Parts.{plus, registers_of, early_of, with_last, continues_with}
use Rattle.row_type.specs.Words.{going_on, first_three_saved}
use Rattle.row_type.specs.Machine.{Machine, never_overflows, none_taken}
use Rattle.row_type.specs.declared.Parameters.{Parameters}
use Rattle.row_type.specs.declared.Registers.{Registers}
use Rattle.row_type.specs.declared.State.{State}
use Rattle.row_type.specs.declared.Change.{Change}

-- how many sources are beyond the number of targets
abbrev pub ahead_of : Registers → ℕ
ahead_of m = m.first

-- the marks with another number of sources beyond the number of targets
abbrev pub with_ahead : Registers → ℕ → Registers
with_ahead m ahead = registers_of m.last ahead m.second m

-- the change to other marks: a target beyond needs its source at once, and the row is kept where nothing is beyond
unfoldable pub changes_to : Registers → Change
changes_to registers =
    cond (eqb (early_of registers) 0) (continues_with (Drop 0) registers no_limit (eqb (ahead_of registers) 0))
    (continues_with (Drop 0) registers (early_of registers - 1) false)

-- what the row keeps after the change to these marks
abbrev pub stored : State → ℕ → ℕ → State
stored state early ahead =
    let registers = with_ahead (with_last state.registers early) ahead in
    going_on state (ring_of [] state.head state.len) registers (changes_to registers).due (changes_to registers).kept

-- a source: the partner of the target beyond, or one more beyond; a target: the partner of a source beyond, or one beyond
unfoldable pub decide_order : Parameters → Registers → List ℕ → ℕ → ℕ → Change
decide_order parameters registers times kind t =
    cond (eqb kind parameters.first)
    (cond (eqb (early_of registers) 0) (changes_to (with_ahead registers (plus (ahead_of registers) 1))) (changes_to (with_last registers 0)))
    (cond (eqb (ahead_of registers) 0) (changes_to (with_last registers (plus t 1))) (changes_to (with_ahead registers (ahead_of registers - 1))))

abbrev pub machine_order : Machine
machine_order = record { keeps = first_three_saved; decide = decide_order; overflows = never_overflows; taken = none_taken }
