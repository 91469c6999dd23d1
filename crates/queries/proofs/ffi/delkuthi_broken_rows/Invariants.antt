-- From the last row to the first, each adds its bit below those behind it.
use Rattle.queries.proofs.Names.{HoldsMonitor, Monitor, ◌-◌, ◌<◌, ◌^◌, ◌≡◌, broken_marks, row_limit}
use Rattle.queries.proofs.ffi.delkuthi_broken_rows.Given as goal

abbrev pub invariant-loop-i : goal.invariant-loop-i
invariant-loop-i l =
    (l.mask < 2 ^ (32 - l.i)) × ((n : Monitor) → HoldsMonitor l.m n → l.mask ≡ broken_marks n l.i (row_limit - l.i))
