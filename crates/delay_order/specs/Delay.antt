-- Delay: the times are the waiting sources; `last` is one more than the last target's time.
use Rattle.std.specs.Prelude.{ℕ, suc, ◌+◌, Bool, true, false, cond, ◌&&◌, List, [], ◌∷◌, leb, ltb, eqb}
use Rattle.constraint.specs.Limits.{waiting_limit}
use Rattle.ring.specs.declared.Edit.TheVariants.{Drop, Push}
use Rattle.row_type.specs.Parts.{plus, with_last, waits}
use Rattle.row_type.specs.Words.{last_saved}
use Rattle.row_type.specs.Machine.{Machine, each_taken}
use Rattle.row_type.specs.declared.Parameters.{Parameters}
use Rattle.row_type.specs.declared.Registers.{Registers}
use Rattle.row_type.specs.declared.Change.{Change}

-- how many of the waiting sources a target at t answers: those from the oldest on that are at least lower before it
unfoldable pub answered_by : ℕ → ℕ → List ℕ → ℕ
answered_by lower t [] = 0
answered_by lower t (s ∷ sources) = cond (leb (s + lower) t) (suc (answered_by lower t sources)) 0

-- a source at t that the last target answers at once
abbrev pub answered_at_once : ℕ → ℕ → ℕ → Bool
answered_at_once lower last t = eqb lower 0 && eqb last (plus t 1)

-- 64 waiting, one more waits: a source that is not answered at once
unfoldable pub overflows_delay : Parameters → Registers → ℕ → ℕ → ℕ → Bool
overflows_delay parameters registers len kind t =
    cond (eqb kind parameters.first) (cond (ltb len waiting_limit) false (cond (answered_at_once parameters.lower registers.last t) false true))
    false

-- a source waits unless it is answered at once; a target leaves with those that it answers
unfoldable pub decide_delay : Parameters → Registers → List ℕ → ℕ → ℕ → Change
decide_delay parameters registers times kind t =
    cond (eqb kind parameters.first)
    (waits parameters.upper times (cond (answered_at_once parameters.lower registers.last t) (Drop 0) (Push 0 t)) registers)
    (waits parameters.upper times (Drop (answered_by parameters.lower t times)) (with_last registers (plus t 1)))

abbrev pub machine_delay : Machine
machine_delay = record { keeps = last_saved; decide = decide_delay; overflows = overflows_delay; taken = each_taken }
