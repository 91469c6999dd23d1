-- StrongSynchronization: the times are the first times of the groups begun and not complete; `first` to `fourth` say how many of these groups
-- have an event of that kind.
use Rattle.std.specs.Prelude.{ℕ, ◌-◌, Bool, true, false, cond, List, length, ltb}
use Rattle.constraint.specs.Limits.{waiting_limit}
use Rattle.ring.specs.declared.Edit.TheVariants.{Drop, Push}
use Rattle.row_type.specs.Parts.{plus, waits}
use Rattle.row_type.specs.declared.Parameters.{Parameters}
use Rattle.row_type.specs.declared.Registers.{Registers}
use Rattle.row_type.specs.declared.Change.{Change}
use Rattle.row_type.specs.Words.{counts_saved}
use Rattle.row_type.specs.Machine.{Machine, each_taken}
use Rattle.synchronizations.specs.Kinds.{each_above, register_of, with_four, with_register_of}

-- one more of the kind
abbrev pub counted : Parameters → Registers → ℕ → Registers
counted parameters registers kind = with_register_of parameters registers kind (plus (register_of parameters registers kind) 1)

-- the oldest group has an event of each kind
abbrev pub complete : Parameters → Registers → Bool
complete parameters registers = each_above parameters registers 0

-- the counts without the oldest group
abbrev pub without_oldest : Registers → Registers
without_oldest registers = with_four (registers.first - 1) (registers.second - 1) (registers.third - 1) (registers.fourth - 1) registers

-- 64 groups begun, one more begins: they all have an event of the kind
unfoldable pub overflows_strong_synchronization : Parameters → Registers → ℕ → ℕ → ℕ → Bool
overflows_strong_synchronization parameters registers len kind t =
    cond (ltb len waiting_limit) false (cond (ltb (register_of parameters registers kind) len) false true)

-- an event of a kind that all groups have begins a new one; any other goes to the first group that lacks its kind, and a complete one leaves
unfoldable pub decide_strong_synchronization : Parameters → Registers → List ℕ → ℕ → ℕ → Change
decide_strong_synchronization parameters registers times kind t =
    let now : Registers = counted parameters registers kind in
    cond (ltb (register_of parameters registers kind) (length times))
    (cond (complete parameters now) (waits parameters.upper times (Drop 1) (without_oldest now)) (waits parameters.upper times (Drop 0) now))
    (waits parameters.upper times (Push 0 t) now)

abbrev pub machine_strong_synchronization : Machine
machine_strong_synchronization =
    record { keeps = counts_saved; decide = decide_strong_synchronization; overflows = overflows_strong_synchronization; taken = each_taken }
