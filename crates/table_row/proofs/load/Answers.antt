-- The values are read where the definition reads them.
use Rattle.constraint.proofs.Library.{List, ◌∙◌, ap, ap₂, sets, ℕ}
use Rattle.table_row.specs.Records.{roles_of, values_at}
use Rattle.table_row.proofs.load.Goals as goal

pub returns : goal.returns
returns c =
    let a = c.args in
    let body = a.body.now in (
      c.byte_at-tag.ensures,
      c.fill.ensures ∙ ap (λ (l : List ℕ). sets a.values.now 0 (values_at l body 1))
          (c.roles_of-roles.ensures ∙ ap₂ roles_of c.byte_at-tag.ensures (c.from.ensures ∙ c.byte_at-n.ensures)),
    )
