-- Row after row: before the turn of number i it is the least deadline of the first i.
use Rattle.queries.proofs.Names.{HoldsMonitor, Monitor, ◌≡◌, least_of}
use Rattle.queries.proofs.ffi.delkuthi_deadline.Given as goal

abbrev pub invariant-loop-i : goal.invariant-loop-i
invariant-loop-i l = (n : Monitor) → HoldsMonitor l.m n → l.least ≡ least_of n l.i
