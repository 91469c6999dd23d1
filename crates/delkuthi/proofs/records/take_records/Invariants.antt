-- What is taken from the next record on, after this one, is what is taken from the first on.
use Rattle.delkuthi.proofs.Names.{◌-◌, length}
use Rattle.delkuthi.proofs.TakenRecords.{TakenTo}
use Rattle.delkuthi.proofs.records.take_records.Given as goal

abbrev pub invariant-loop-place : goal.invariant-loop-place
invariant-loop-place l = TakenTo l.bytes l.initial.m l.place l.m

abbrev pub decreases-loop-place : goal.decreases-loop-place
decreases-loop-place l = length l.bytes - l.place
