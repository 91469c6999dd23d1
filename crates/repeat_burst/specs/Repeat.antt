-- Repeat and Burst: the times are those of the last span events, or of all while they are fewer; `last` is one more than the last event's time.
-- A Repeat has minimum 0, a Burst no upper.
use Rattle.std.specs.Prelude.{ℕ, ◌+◌, Bool, true, false, cond, ◌&&◌, ◌||◌, List, length, drop, leb, ltb}
use Rattle.constraint.specs.Limits.{waiting_limit}
use Rattle.ring.specs.declared.Edit.TheVariants.{Push}
use Rattle.row_type.specs.Parts.{plus, far_enough, with_last, continues_with, breaking, front, due_or}
use Rattle.row_type.specs.declared.Parameters.{Parameters}
use Rattle.row_type.specs.declared.Registers.{Registers}
use Rattle.row_type.specs.declared.Change.{Change}
use Rattle.row_type.specs.Words.{last_saved}
use Rattle.row_type.specs.Machine.{Machine}

-- t is at least lower after the event span places before it, if there is one
abbrev pub span_reached : Parameters → List ℕ → ℕ → Bool
span_reached parameters times t = ltb (length times) parameters.span || leb (front times + parameters.lower) t

-- how many of the kept times leave as one more comes: the oldest, if there are span of them
abbrev pub leaving : Parameters → ℕ → ℕ
leaving parameters len = cond (ltb len parameters.span) 0 1

-- the due time once these have left and one at t has come: none of the times kept has an event span places after it yet, and the oldest
-- waits for one until upper after it
abbrev pub due_with : Parameters → List ℕ → ℕ → ℕ
due_with parameters times t = due_or (plus t parameters.upper) parameters.upper (drop (leaving parameters (length times)) times)

-- 64 kept, one more is kept: none leaves, as the span is longer, and the event is far enough from the last
unfoldable pub overflows_repeat : Parameters → Registers → ℕ → ℕ → ℕ → Bool
overflows_repeat parameters registers len kind t = cond (ltb len parameters.span) (cond (ltb len waiting_limit) false (far_enough
    parameters.minimum registers.last t)) false

unfoldable pub decide_repeat : Parameters → Registers → List ℕ → ℕ → ℕ → Change
decide_repeat parameters registers times kind t =
    cond (far_enough parameters.minimum registers.last t && span_reached parameters times t)
    (continues_with (Push (leaving parameters (length times)) t) (with_last registers (plus t 1)) (due_with parameters times t) true)
    breaking

-- a place is taken for each time where the span is longer than there are places, else none
abbrev pub taken_repeat : ℕ → ℕ → ℕ
taken_repeat span len = cond (ltb 64 span) len 0

abbrev pub machine_repeat : Machine
machine_repeat = record { keeps = last_saved; decide = decide_repeat; overflows = overflows_repeat; taken = taken_repeat }
