-- The loop gives the step to one row after the other, as many as the monitor holds, and stops at the first that it crowds.
use Rattle.monitor.proofs.{First.Moved}
use Rattle.monitor.proofs.rows.step.Given as goal

abbrev pub invariant-loop-i : goal.invariant-loop-i
invariant-loop-i l = Moved l.o l.number l.fn.m l.after l.i
