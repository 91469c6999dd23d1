-- The fields of the values are the constraint's, and so are the numbers.
use Rattle.constraint.proofs.Library.{List, ◌∙◌, ap₂, ℕ}
use Rattle.table_row.specs.Records.{fields_as}
use Rattle.table_row.proofs.Judging.{known_row}
use Rattle.row_type.specs.Parameters.{with_fields}
use Rattle.row_type.specs.declared.Parameters.{Parameters}
use Rattle.row_type.proofs.{RowNumbers.row_parameters}
use Rattle.row_type.proofs.from_constraint.parameters_of.Goals as goal

pub returns : goal.returns
returns c =
    let a = c.args in let v = a.values.now in let edition = c.requires.0 in
    c.with_fields.ensures
    ∙ ap₂ (λ (roles : List ℕ) (parameters : Parameters). with_fields (fields_as roles v) parameters) c.roles_of.ensures
    c.no_fields.ensures
    ∙ row_parameters edition a.tag v (known_row edition a.tag v c.requires.1)
