-- The loop puts the row of one constraint after the other into an array of rows of the filler.
use Rattle.monitor.proofs.Names.{◌≡◌, no_row, row_of, rows_of}
use Rattle.monitor.proofs.{Filled.filled}
use Rattle.monitor.proofs.rows.over.Given as goal

abbrev pub invariant-loop-i : goal.invariant-loop-i
invariant-loop-i l = l.rows ≡ filled row_of no_row (rows_of l.fn.table) 32 l.i
