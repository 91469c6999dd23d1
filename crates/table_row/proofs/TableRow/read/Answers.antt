-- The values are read where the definition reads them.
use Rattle.constraint.proofs.Library.{List, ◌∙◌, ap₂, arith, replicate, ℕ}
use Rattle.constraint.specs.Steps.{at}
use Rattle.table_row.specs.Records.{roles_of, values_at}
use Rattle.table_row.specs.declared.TableRow.{TableRow}
use Rattle.table_row.proofs.{Standing.values_length, Stores.sets_all}
use Rattle.table_row.proofs.TableRow.read.Goals as goal

-- a record of a type and values
row : ℕ → List ℕ → TableRow
row t v = record { tag = t; values = v }

pub returns : goal.returns
unfolding row
returns c =
    let body = c.args.body.now in
    let roles = roles_of (at body 0) (at body 1) in
    ap₂ row c.load-tag.ensures.0
    (c.load-tag.ensures.1 ∙ sets_all (replicate 18 0) (values_at roles body 1) (omega (arith, values_length roles body 1)))
