-- The loop goes from byte to byte: where none before was the kind, the answer to what is asked of those left is the answer to all.
use Rattle.constraint.proofs.Library.{Bool}
use Rattle.constraint.specs.Records.{Absent, Decides}
use Rattle.constraint.specs.Accepted.{kinds_in}
use Rattle.table_row.specs.Records.{fields_from}
use Rattle.table_row.proofs.fields.Fields.is_new.Given as goal

abbrev pub invariant-loop-i : goal.invariant-loop-i
invariant-loop-i l =
    ((b : Bool) → Decides (Absent l.kind (kinds_in (fields_from l.roles l.values l.i))) b
    → Decides (Absent l.kind (kinds_in (fields_from l.roles l.values l.from))) b)
