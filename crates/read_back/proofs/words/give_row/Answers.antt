-- A row of a known type is given as its body; no other is.
use Rattle.constraint.proofs.Library.{ap, arith, not, subst, sym, ℕ}
use Rattle.constraint.proofs.Judged.{failed, yes_of}
use Rattle.constraint.specs.Steps.{at}
use Rattle.constraint.specs.Types.{TypeKnown}
use Rattle.read_back.proofs.Holding.{far_back, given_back, known_back, unknown_back}
use Rattle.read_back.proofs.words.give_row.Goals as goal

-- a number that is no byte is above those of the types
pub returns-in_default : goal.returns-in_default
returns-in_default c =
    let a = c.args in let parameters = c.parameters_at-parameters in
    far_back a.words.now parameters.result parameters.ensures a.body.now (omega (arith, c.in_default.ensures))

pub returns-then-not-type_known : goal.returns-then-not-type_known
returns-then-not-type_known c =
    let test = c.type_known in let values = c.values_in-values in
    let a = c.args in let parameters = c.parameters_at-parameters in
    unknown_back a.words.now parameters.result parameters.ensures values.result values.ensures a.body.now
    (λ known. failed test.result test.ensures (ap not c.if-not-type_known.true)
    (subst (λ (t : ℕ). TypeKnown 2 t (at values.result 0)) (sym c.in-Ok.ensures.1) known))

pub give_body-requires : goal.give_body-requires
give_body-requires c =
    let test = c.type_known in let values = c.values_in-values in
    let a = c.args in let parameters = c.parameters_at-parameters in
    let same = c.in-Ok.ensures.1 in
    rw same (known_back a.words.now parameters.result parameters.ensures values.result values.ensures a.body.now
    (rw same at (yes_of test.result test.ensures c.if-not-type_known.false)))

pub returns : goal.returns
returns c =
    let values = c.values_in-values in
    let a = c.args in let parameters = c.parameters_at-parameters in
    given_back a.words.now parameters.result parameters.ensures values.result values.ensures a.body.now
    (rw c.in-Ok.ensures.1 at c.give_body.ensures)
