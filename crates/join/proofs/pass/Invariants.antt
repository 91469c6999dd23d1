-- The loop reads record after record: the kinds of those read are marked, and the first one to avoid is kept.
use Rattle.join.proofs.Names.{◌-◌, length}
use Rattle.join.proofs.Passing.{PassedTo}
use Rattle.join.proofs.pass.Given as goal

abbrev pub invariant-loop-place : goal.invariant-loop-place
invariant-loop-place l = PassedTo l.bytes l.avoid l.clock l.kinds l.common l.place

abbrev pub decreases-loop-place : goal.decreases-loop-place
decreases-loop-place l = length l.bytes - l.place
