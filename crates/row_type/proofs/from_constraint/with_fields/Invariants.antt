-- From the last field to the first, the numbers are those of the fields from a place on.
use Rattle.constraint.proofs.Library.{◌≡◌, ◌≤◌}
use Rattle.table_row.specs.Records.{fields_from}
use Rattle.row_type.specs.Parameters.{with_fields}
use Rattle.row_type.proofs.from_constraint.with_fields.Given as goal

abbrev pub invariant-loop-i : goal.invariant-loop-i
invariant-loop-i l = (l.i ≤ 18) × (l.next ≡ with_fields (fields_from l.roles l.values l.i) l.initial.next)

abbrev pub decreases-loop-i : goal.decreases-loop-i
decreases-loop-i l = l.i
