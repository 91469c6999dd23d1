-- The widths are summed, of which none is above 8.
use Rattle.constraint.proofs.Library.{◌^◌, ◌∙◌, arith, refl, rules}
use Rattle.std.proofs.lemmas.Iterator.{YieldsList-from_map, YieldsList-from_slice}
use Rattle.std.proofs.lemmas.Iterator.Consumers.{fits_from_yields_list, sum_from_yields_List}
use Rattle.table_row.specs.Records.{width}
use Rattle.table_row.proofs.Lines.{total_small, total_sum}
use Rattle.table_row.proofs.fields.Fields.size.Goals as goal

pub sum-requires-clause-fits : goal.sum-requires-clause-fits
sum-requires-clause-fits c =
    let roles = c.args.self.roles.now in
    fits_from_yields_list c.map.result (2 ^ 64) (YieldsList-from_map _ width (YieldsList-from_slice roles cc) refl (λ x r q k. search rules))
    (omega (arith, total_sum roles, total_small roles))

pub returns : goal.returns
returns c =
    let roles = c.args.self.roles.now in
    sum_from_yields_List c.map.result _ c.sum.ensures.ran
    (YieldsList-from_map _ width (YieldsList-from_slice roles cc) refl (λ x r q k. search rules)) ∙ total_sum roles
