-- From the last field to the first, the numbers are those of the fields from a place on.
use Rattle.constraint.proofs.Library.{List, ◌-◌, ap, arith, sym}
use Rattle.constraint.specs.Types.{Field}
use Rattle.table_row.proofs.FieldByField.{fields_end}
use Rattle.row_type.specs.Parameters.{with_fields}
use Rattle.row_type.proofs.{RowNumbers.field_before}
use Rattle.row_type.proofs.from_constraint.with_fields.Goals as goal

pub loop-i-init : goal.loop-i-init
loop-i-init c =
    let a = c.args in
    (omega arith, sym (ap (λ (fields : List Field). with_fields fields a.parameters) (fields_end a.roles a.values.now 18 (omega arith))))

pub loop-i-preserved : goal.loop-i-preserved
loop-i-preserved c =
    let loop = c.loop-i in let a = c.args in (
      omega arith,
      field_before a.roles a.values.now (loop.i - 1) loop.i (omega arith) (omega arith) a.parameters loop.next
          c.with_field-next.result loop.invariant.1 c.with_field-next.ensures,
    )
