-- Sporadic: no times are kept; the last hidden point can be at each place from `first` to `second`, and `last` is one more than the last event's
-- time.
use Rattle.std.specs.Prelude.{ℕ, ◌-◌, min, max, true, cond, ◌&&◌, List, leb, eqb}
use Rattle.constraint.specs.Limits.{no_limit}
use Rattle.ring.specs.declared.Edit.TheVariants.{Drop}
use Rattle.row_type.specs.Parts.{plus, far_enough, registers_of, continues_with, breaking}
use Rattle.row_type.specs.declared.Parameters.{Parameters}
use Rattle.row_type.specs.declared.Registers.{Registers}
use Rattle.row_type.specs.declared.Change.{Change}
use Rattle.row_type.specs.Words.{first_three_saved}
use Rattle.row_type.specs.Machine.{Machine, never_overflows, none_taken}

-- where the last hidden point can be: from low to high
abbrev pub low_of : Registers → ℕ
low_of m = m.first

abbrev pub high_of : Registers → ℕ
high_of m = m.second

-- the due time of a row whose last point can be as late as high: the next point comes by upper after it, and its event by jitter after that
abbrev pub due_point : Parameters → ℕ → ℕ
due_point parameters high = plus (plus high parameters.upper) parameters.jitter

-- the row goes on with an event at t, whose point can be at each place from low to high
abbrev pub point_at : Parameters → Registers → ℕ → ℕ → ℕ → Change
point_at parameters registers t low high = continues_with (Drop 0) (registers_of (plus t 1) low high registers) (due_point parameters high) true

-- how far the next point is from the last at least: points rise strictly
abbrev pub stride : ℕ → ℕ
stride lower = max lower 1

-- where the point of an event at t can be, the point before it being from low to high
abbrev pub lowest : Parameters → Registers → ℕ → ℕ
lowest parameters registers t = max (plus (low_of registers) (stride parameters.lower)) (t - parameters.jitter)

abbrev pub highest : Parameters → Registers → ℕ → ℕ
highest parameters registers t = cond (eqb parameters.upper no_limit) t (min (plus (high_of registers) parameters.upper) t)

unfoldable pub later_sporadic : Parameters → Registers → ℕ → Change
later_sporadic parameters registers t =
    cond (far_enough parameters.minimum registers.last t &&
    (leb (stride parameters.lower) parameters.upper && leb (lowest parameters registers t) (highest parameters registers t)))
    (point_at parameters registers t (lowest parameters registers t) (highest parameters registers t))
    breaking

unfoldable pub decide_sporadic : Parameters → Registers → List ℕ → ℕ → ℕ → Change
decide_sporadic parameters registers times kind t =
    cond (eqb registers.last 0) (point_at parameters registers t (t - parameters.jitter) t) (later_sporadic parameters registers t)

abbrev pub machine_sporadic : Machine
machine_sporadic = record { keeps = first_three_saved; decide = decide_sporadic; overflows = never_overflows; taken = none_taken }
