-- The loop goes from pair to pair: t is not too early for those passed.
use Rattle.constraint.proofs.Library.{◌≡◌, ◌≤◌, true}
use Rattle.ring.specs.Ring.{times_of}
use Rattle.repeat_burst.specs.Arbitrary.{late_enough, lower_in}
use Rattle.repeat_burst.proofs.arbitrary.late_enough.Given as goal

abbrev pub invariant-loop-i : goal.invariant-loop-i
invariant-loop-i l =
    (l.n ≤ 8) × (late_enough l.i (lower_in (times_of l.times)) 16 l.next (times_of l.times) l.t ≡ true)
