-- The loop reads record after record: what is kept of the stamps is that of the steps read so far.
use Rattle.stamps.proofs.Names.{◌-◌, length}
use Rattle.stamps.proofs.Progress.{PassedTo}
use Rattle.stamps.proofs.pass.Given as goal

abbrev pub invariant-loop-place : goal.invariant-loop-place
invariant-loop-place l = PassedTo l.bytes l.asked l.clock l.stamps l.place

abbrev pub decreases-loop-place : goal.decreases-loop-place
decreases-loop-place l = length l.bytes - l.place
