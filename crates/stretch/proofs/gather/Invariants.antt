-- The loop reads record after record and keeps what each is, as long as there is room.
use Rattle.constraint.proofs.{Library.◌-◌, Library.length}
use Rattle.stretch.proofs.Gathering.{GatheredTo}
use Rattle.stretch.proofs.gather.Given as goal

abbrev pub invariant-loop-place : goal.invariant-loop-place
invariant-loop-place l = GatheredTo l.bytes l.records l.clock l.count l.place

abbrev pub decreases-loop-place : goal.decreases-loop-place
decreases-loop-place l = length l.bytes - l.place
