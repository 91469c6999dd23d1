-- Row after row: before the turn of number i none of the first i has the mark.
use Rattle.queries.proofs.Names.{HoldsMonitor, Monitor, ◌-◌, ◌≡◌, crowded_by, drop, first_marked}
use Rattle.queries.proofs.ffi.first_crowded.Given as goal

-- the first of all is the first of those from row i on
abbrev pub invariant-loop-i : goal.invariant-loop-i
invariant-loop-i l =
    (n : Monitor) → HoldsMonitor l.m n → first_marked l.rows (λ r. crowded_by r.parameters r.now l.o) 0 n.rows
    ≡ first_marked (l.rows - l.i) (λ r. crowded_by r.parameters r.now l.o) l.i (drop l.i n.rows)
