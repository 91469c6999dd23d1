-- The loop goes from pair to pair: the due time so far is that of those passed.
use Rattle.constraint.proofs.Library.{◌≡◌, ◌≤◌}
use Rattle.ring.specs.Ring.{times_of}
use Rattle.repeat_burst.specs.Arbitrary.{due_after, upper_in}
use Rattle.repeat_burst.proofs.arbitrary.due_after.Given as goal

abbrev pub invariant-loop-i : goal.invariant-loop-i
invariant-loop-i l =
    (l.n ≤ 8) × (l.due ≡ due_after l.i (upper_in (times_of l.times)) 16 l.next (times_of l.times) l.t)
