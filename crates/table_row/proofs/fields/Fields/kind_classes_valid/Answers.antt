-- The test of each pair of a role and a value is that of all fields.
use borrow.Author.Tests.{tests}
use Rattle.constraint.proofs.Library.{arith, rules}
use Rattle.constraint.specs.Accepted.{KindClassFits}
use Rattle.std.proofs.lemmas.Iterator.{YieldsList-from_slice, YieldsList-from_zip, cases_from_all}
use Rattle.table_row.proofs.FieldByField.{Fits, pairs_asked}
use Rattle.table_row.proofs.fields.Fields.kind_classes_valid.Goals as goal

pub returns : goal.returns
returns c =
    let roles = c.args.self.roles.now in let values = c.args.self.values.now in
    pairs_asked KindClassFits roles values (omega (arith, c.args.self.roles_long, c.args.self.values_long)) _
    (cases_from_all c.all.new.self _ _ (Fits KindClassFits roles values) (λ p. ¬ Fits KindClassFits roles values p) c.all.ensures.ran
    (YieldsList-from_zip (YieldsList-from_slice roles cc) (YieldsList-from_slice values cc)) (λ x q k. search (rules, tests))
    (λ x q k. search (rules, tests)))
