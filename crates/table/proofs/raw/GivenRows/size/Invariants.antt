-- The loop adds row after row: the size so far and the bytes of the rows left are the whole.
use Rattle.table.proofs.Names.{◌*◌, ◌+◌, ◌-◌, ◌≡◌, ◌≤◌, length, raw_rows, rows_bytes}
use Rattle.table.proofs.raw.GivenRows.size.Given as goal

abbrev pub invariant-loop-i : goal.invariant-loop-i
invariant-loop-i l =
    let bytes = l.self.bytes.now in
    (l.size ≤ 1 + 40 * l.i) × (l.size + length (rows_bytes (raw_rows bytes l.i (l.count - l.i))) ≡ 1 + length (rows_bytes (raw_rows bytes 0 l.count)))
