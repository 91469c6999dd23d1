-- StrongDelay: the times are the sources beyond the number of targets; `last` is one more than the time of a target beyond the number of
-- sources.
use Rattle.std.specs.Prelude.{ℕ, ◌+◌, Bool, false, cond, List, leb, ltb, eqb}
use Rattle.constraint.specs.Limits.{waiting_limit}
use Rattle.ring.specs.declared.Edit.TheVariants.{Drop, Push}
use Rattle.row_type.specs.Parts.{plus, early_of, with_last, continues_with, breaking, waits, front, none_left}
use Rattle.row_type.specs.Words.{last_saved}
use Rattle.row_type.specs.Machine.{Machine, each_taken}
use Rattle.row_type.specs.declared.Parameters.{Parameters}
use Rattle.row_type.specs.declared.Registers.{Registers}
use Rattle.row_type.specs.declared.Change.{Change}

-- 64 waiting, one more waits: a source, and no target is beyond
unfoldable pub overflows_strong_delay : Parameters → Registers → ℕ → ℕ → ℕ → Bool
overflows_strong_delay parameters registers len kind t =
    cond (eqb kind parameters.first) (cond (ltb len waiting_limit) false (eqb (early_of registers)
    0)) false

-- a source: one that waits, or the partner of the target beyond
unfoldable pub source_strong_delay : Parameters → Registers → List ℕ → ℕ → Change
source_strong_delay parameters registers times t = waits parameters.upper times (cond (eqb (early_of registers) 0) (Push 0 t) (Drop 0)) (with_last
    registers 0)

-- a target: the partner of the oldest source that waits, or one beyond, which needs its source at once
unfoldable pub target_strong_delay : Parameters → Registers → List ℕ → ℕ → Change
target_strong_delay parameters registers times t =
    cond (none_left times) (cond (eqb parameters.lower 0) (continues_with (Drop 0) (with_last registers (plus t 1)) t false) breaking)
    (cond (leb (front times + parameters.lower) t) (waits parameters.upper times (Drop 1) registers) breaking)

unfoldable pub decide_strong_delay : Parameters → Registers → List ℕ → ℕ → ℕ → Change
decide_strong_delay parameters registers times kind t =
    cond (eqb kind parameters.first) (source_strong_delay parameters registers times t) (target_strong_delay parameters registers times t)

abbrev pub machine_strong_delay : Machine
machine_strong_delay = record { keeps = last_saved; decide = decide_strong_delay; overflows = overflows_strong_delay; taken = each_taken }
