-- The loop adds row after row: the size so far and the bytes of the rows left are the whole.
use Rattle.table.proofs.Names.{◌*◌, ◌+◌, ◌≡◌, ◌≤◌, drop, length}
use Rattle.table.proofs.Names.{rows_bytes, rows_of}
use Rattle.table.proofs.writer.size_of.Given as goal

abbrev pub invariant-loop-i : goal.invariant-loop-i
invariant-loop-i l = (l.size ≤ 1 + 147 * l.i)
    × (l.size + length (rows_bytes (drop l.i (rows_of l.table))) ≡ 1 + length (rows_bytes (rows_of l.table)))
