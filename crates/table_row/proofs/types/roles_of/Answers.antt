-- The role of each place is that of the definition.
use Rattle.constraint.proofs.Library.{◌-◌, ◌∙◌, ◌≡◌, ap₂, arith, cond, List, refl, rules, ℕ}
use Rattle.std.proofs.lemmas.List.FromFn.{fill_by_all}
use Rattle.constraint.specs.Steps.{at}
use Rattle.table_row.specs.Records.{role_at, uses}
use Rattle.table_row.proofs.Exits.{each_given}
use Rattle.table_row.proofs.types.roles_of.Goals as goal

pub returns : goal.returns
returns c =
    let t = c.args.tag in let n = c.args.n in
    let line = c.role_line-line in let needs = c.need_line-needs in
    let items = c.from_fn.ensures.items in
    fill_by_all (role_at t n) c.from_fn.result 18 0 items.long (λ k below.
    each_given _ _ (role_at t n) 18 (λ i x q there call.
    let own : x ≡ cond (uses (at needs.result i - 48) n) (at line.result i) 0 = search rules in
    (search rules, own ∙ ap₂ (λ (l m : List ℕ). cond (uses (at m i - 48) n) (at l i) 0) line.ensures needs.ensures))
    c.from_fn.result 18 0 (omega arith) _ refl items.each k 0 (omega arith) below)
