-- The loop takes the step from one row after the other, as many as the monitor holds.
use Rattle.monitor.proofs.Names.{◌≡◌, rows_without}
use Rattle.monitor.proofs.rows.undo_rows.Given as goal

abbrev pub invariant-loop-i : goal.invariant-loop-i
invariant-loop-i l = l.after ≡ rows_without l.initial.after l.i l.number
