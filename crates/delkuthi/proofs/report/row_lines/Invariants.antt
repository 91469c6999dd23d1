-- Line after line: putting the lines of the rows that are left behind what there is now gives the whole.
use Rattle.delkuthi.proofs.Names.{◌≡◌, drop, extended, map, row_lines, verdict_said}
use Rattle.delkuthi.proofs.report.row_lines.Given as goal

abbrev pub invariant-loop-i : goal.invariant-loop-i
invariant-loop-i l =
    extended (row_lines l.i (map (verdict_said l.closed) (drop l.i l.rows))) l.text
    ≡ extended (row_lines 0 (map (verdict_said l.closed) l.rows)) l.initial.text
