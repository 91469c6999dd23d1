-- The loop counts row after row: as many as were counted stand before the place, and what is read from there on, behind them, is the whole.
use Rattle.table.proofs.Names.{◌-◌, length}
use Rattle.table.proofs.Scanning.{CountedTo}
use Rattle.table.proofs.scan.validate_rows.Given as goal

abbrev pub invariant-loop-place : goal.invariant-loop-place
invariant-loop-place l = CountedTo l.edition l.bytes l.rows l.place

abbrev pub decreases-loop-place : goal.decreases-loop-place
decreases-loop-place l = length l.bytes - l.place
