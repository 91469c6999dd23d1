-- The loop keeps the bound that it passed: what is asked of the fields left, with that bound before them, is what is asked of all.
use Rattle.constraint.proofs.Library.{Bool}
use Rattle.constraint.specs.Records.{Decides}
use Rattle.constraint.specs.Accepted.{EachField, FieldInRange, Ordered}
use Rattle.table_row.specs.Records.{fields_from}
use Rattle.table_row.proofs.fields.Fields.lower_first.Given as goal

abbrev pub invariant-loop-i : goal.invariant-loop-i
invariant-loop-i l =
    EachField FieldInRange (fields_from l.roles l.values l.i)
    × ((b : Bool) → Decides (Ordered l.n l.low (fields_from l.roles l.values l.i)) b → Decides (Ordered l.n 0 (fields_from l.roles l.values 0)) b)
