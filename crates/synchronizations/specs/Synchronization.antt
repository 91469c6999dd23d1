-- Synchronization: no times are kept; `first` to `fourth` are one more than the last time of that kind, `last` is one more than the time of the
-- oldest event that lies in no full window yet, which is owed one. Each is 0 where there is none.
use Rattle.std.specs.Prelude.{ℕ, ◌-◌, Bool, true, false, cond, List, eqb}
use Rattle.constraint.specs.Limits.{no_limit}
use Rattle.ring.specs.declared.Edit.TheVariants.{Drop}
use Rattle.row_type.specs.Parts.{plus, continues_with, with_last}
use Rattle.row_type.specs.Machine.{Machine, never_overflows, none_taken}
use Rattle.row_type.specs.declared.Parameters.{Parameters}
use Rattle.row_type.specs.declared.Registers.{Registers}
use Rattle.row_type.specs.declared.Change.{Change}
use Rattle.synchronizations.specs.Kinds.{each_above, with_register_of}

-- the past has all five registers
abbrev pub all_saved : Registers → Registers → Registers
all_saved registers past = registers

-- the registers after an event at t
abbrev pub latest : Parameters → Registers → ℕ → ℕ → Registers
latest parameters registers kind t = with_register_of parameters registers kind (plus t 1)

-- each kind has an event that is at most tolerance before t: the window that ends at t is full
abbrev pub full : Parameters → Registers → ℕ → Bool
full parameters registers t = each_above parameters registers (t - parameters.upper)

-- a full window holds every event that was in none; after an event that fills none the oldest such event goes on, or it is the event itself
abbrev pub after_event : Parameters → Registers → ℕ → ℕ → Bool → Change
after_event parameters now owed t fills =
    cond fills (continues_with (Drop 0) (with_last now 0) no_limit true)
    (cond (eqb owed 0) (continues_with (Drop 0) (with_last now (plus t 1)) (plus t parameters.upper) false)
    (continues_with (Drop 0) (with_last now owed) (plus (owed - 1) parameters.upper) false))

unfoldable pub decide_synchronization : Parameters → Registers → List ℕ → ℕ → ℕ → Change
decide_synchronization parameters registers times kind t =
    let now : Registers = latest parameters registers kind t in
    after_event parameters now registers.last t (full parameters now t)

abbrev pub machine_synchronization : Machine
machine_synchronization = record { keeps = all_saved; decide = decide_synchronization; overflows = never_overflows; taken = none_taken }
