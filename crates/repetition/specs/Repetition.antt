-- Repetition: for the hidden point of each of the last span events, or of all while they are fewer, the places where it can be, from a low to a
-- high. These stand in turn, the oldest first, and an event puts in two numbers.
use Rattle.std.specs.Prelude.{ℕ, ◌-◌, ◌/◌, min, max, Bool, true, cond, ◌&&◌, List, length, leb, ltb}
use Rattle.constraint.specs.Limits.{no_limit}
use Rattle.constraint.specs.Steps.{at}
use Rattle.ring.specs.declared.Edit.TheVariants.{PushTwo}
use Rattle.row_type.specs.Parts.{plus, front, continues_with, breaking}
use Rattle.row_type.specs.declared.Parameters.{Parameters}
use Rattle.row_type.specs.declared.Registers.{Registers}
use Rattle.row_type.specs.declared.Change.{Change}
use Rattle.row_type.specs.Words.{none_saved}
use Rattle.row_type.specs.Machine.{Machine}

-- how many points the numbers are about
abbrev pub points : List ℕ → ℕ
points times = length times / 2

-- the last place of the oldest point; t where there is none
abbrev pub first_high : List ℕ → ℕ → ℕ
first_high times t = cond (ltb (length times) 2) t (at times 1)

-- the first place of the point of an event at t, n points being kept and the oldest at low or later: one of the first span is tied to no
-- earlier one from below
abbrev pub lowest_point : Parameters → ℕ → ℕ → ℕ → ℕ
lowest_point parameters n low t = cond (ltb n parameters.span) (t - parameters.jitter) (max (t - parameters.jitter) (plus low
    parameters.lower))

-- the last place of the point of an event at t, n points being kept and the oldest at high or earlier: upper behind that, less one place for
-- each point that is still to come before the span is over
abbrev pub highest_point : Parameters → ℕ → ℕ → ℕ → ℕ
highest_point parameters n high t = min t (plus (plus high (parameters.upper - parameters.span)) n)

-- a point from low to high has a place: as points rise, more than span of them reach over the span
abbrev pub has_place : Parameters → ℕ → ℕ → Bool
has_place parameters low high = leb parameters.span parameters.upper && leb low high

-- the row goes on with a point from low to high, n points being kept: with each of the first span; with a later one where there is such a
-- place, and then the oldest leaves
unfoldable pub placed : Parameters → Registers → ℕ → ℕ → ℕ → Change
placed parameters registers n low high =
    cond (ltb n parameters.span) (continues_with (PushTwo 0 low high) registers no_limit true)
    (cond (has_place parameters low high) (continues_with (PushTwo 2 low high) registers no_limit true)
    breaking)

-- 63 numbers or more, two more come: the point is one of the first span
unfoldable pub overflows_repetition : Parameters → Registers → ℕ → ℕ → ℕ → Bool
overflows_repetition parameters registers len kind t = ltb (len / 2) parameters.span

unfoldable pub decide_repetition : Parameters → Registers → List ℕ → ℕ → ℕ → Change
decide_repetition parameters registers times kind t =
    placed parameters registers (points times) (lowest_point parameters (points times) (front times) t)
    (highest_point parameters (points times) (first_high times t) t)

-- where the points of a span find no room, a place is taken for each number, and all are where two more find none; else none is
abbrev pub taken_repetition : ℕ → ℕ → ℕ
taken_repetition span len = cond (ltb 31 span) (cond (ltb len 63) len 64) 0

abbrev pub machine_repetition : Machine
machine_repetition = record { keeps = none_saved; decide = decide_repetition; overflows = overflows_repetition; taken = taken_repetition }
