-- The loop goes from byte to byte: each kind is asked to be at most 63 and none of the later ones, and the later ones fit by the turns to come.
use Rattle.constraint.proofs.Library.{Bool}
use Rattle.constraint.specs.{Accepted.KindsFit, Records.Decides}
use Rattle.constraint.specs.Accepted.{kinds_in}
use Rattle.table_row.specs.Records.{fields_from}
use Rattle.table_row.proofs.fields.Fields.kinds_fit.Given as goal

abbrev pub invariant-loop-i : goal.invariant-loop-i
invariant-loop-i l =
    ((b : Bool) → Decides (KindsFit (kinds_in (fields_from l.roles l.values l.i))) b
    → Decides (KindsFit (kinds_in (fields_from l.roles l.values 0))) b)
