-- The loop stores row after row: storing those left in what there is now gives the whole.
use Rattle.table.proofs.Names.{◌+◌, ◌≡◌, drop}
use Rattle.table.proofs.Names.{length}
use Rattle.table.proofs.Names.{rows_bytes, rows_of, sets}
use Rattle.table.proofs.writer.put_rows.Given as goal

abbrev pub invariant-loop-i : goal.invariant-loop-i
invariant-loop-i l =
    let left = rows_bytes (drop l.i (rows_of l.table)) in let all = rows_bytes (rows_of l.table) in
    (length l.buffer ≡ length l.initial.buffer) × (l.place + length left ≡ 1 + length all)
    × (sets l.buffer l.place left ≡ sets l.initial.buffer 1 all)
