-- The loop stores row after row: storing those left in what there is now gives the whole.
use Rattle.table.proofs.Names.{◌+◌, ◌-◌, ◌≡◌, length, raw_rows, rows_bytes, sets}
use Rattle.table.proofs.raw.GivenRows.put.Given as goal

abbrev pub invariant-loop-i : goal.invariant-loop-i
invariant-loop-i l =
    let left = rows_bytes (raw_rows l.self.bytes.now l.i (l.count - l.i)) in let all = rows_bytes (raw_rows l.self.bytes.now 0 l.count) in
    (length l.buffer ≡ length l.initial.buffer) × (l.place + length left ≡ 1 + length all)
    × (sets l.buffer l.place left ≡ sets l.initial.buffer 1 all)
