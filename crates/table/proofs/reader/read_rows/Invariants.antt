-- The loop reads row after row: the record holds the rows read so far, and what is read from the place on, behind them, is the whole.
use Rattle.table.proofs.Names.{◌-◌, length}
use Rattle.table.proofs.Progress.{ReadUpTo}
use Rattle.table.proofs.reader.read_rows.Given as goal

abbrev pub invariant-loop-place : goal.invariant-loop-place
invariant-loop-place l = ReadUpTo l.edition l.bytes l.table l.place

abbrev pub decreases-loop-place : goal.decreases-loop-place
decreases-loop-place l = length l.bytes - l.place
