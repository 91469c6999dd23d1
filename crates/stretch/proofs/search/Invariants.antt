-- The loop goes through the stretches one by one and counts them, so its counter is the place.
use Rattle.constraint.proofs.Library.{◌*◌, ◌+◌, ◌-◌}
use Rattle.stretch.proofs.Places.{Searching}
use Rattle.stretch.proofs.search.Given as goal

abbrev pub invariant-loop-size : goal.invariant-loop-size
invariant-loop-size l = Searching l.count l.need l.first l.size l.tried

abbrev pub decreases-loop-size : goal.decreases-loop-size
decreases-loop-size l = 258 * (257 - l.size) + 256 - l.first
