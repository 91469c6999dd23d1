-- The loop stores field after field: storing those left in what there is now gives the whole.
use Rattle.constraint.proofs.Library.{◌*◌, ◌+◌, ◌≡◌, ◌≤◌, length, sets}
use Rattle.constraint.specs.Table.{fields_bytes}
use Rattle.table_row.specs.Records.{fields_from}
use Rattle.table_row.proofs.fields.Fields.put.Given as goal

abbrev pub invariant-loop-i : goal.invariant-loop-i
invariant-loop-i l =
    (length l.buffer ≡ length l.initial.buffer) × (l.next ≤ l.place + 8 * l.i)
    × (sets l.buffer l.next (fields_bytes (fields_from l.roles l.values l.i)) ≡ sets l.initial.buffer l.place (fields_bytes
    (fields_from l.roles l.values 0)))
