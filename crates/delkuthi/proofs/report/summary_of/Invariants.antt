-- Row after row: before the turn of number i what is said is said of the first i rows of the monitor that lies there.
use Rattle.delkuthi.proofs.Names.{HoldsMonitor, Monitor, ◌≡◌, map, row_summary}
use Rattle.delkuthi.proofs.{Summaries.front}
use Rattle.delkuthi.proofs.report.summary_of.Given as goal

abbrev pub invariant-loop-i : goal.invariant-loop-i
invariant-loop-i l = (n : Monitor) → HoldsMonitor l.m n → l.row-items ≡ front l.i (map row_summary n.rows)
