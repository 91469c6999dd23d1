-- The loop stores value after value: storing those left in what there is now gives the whole.
use Rattle.constraint.proofs.Library.{List, ◌∙◌, ap, ap₂, arith, length, replicate, sym, take, ℕ}
use Rattle.read_back.specs.Back.{constant_limit, values_back}
use Rattle.read_back.proofs.Values.{all_stored, constants_late, value_more, none_left}
use Rattle.read_back.proofs.words.values_in.Goals as goal

pub loop-i-init : goal.loop-i-init
loop-i-init c =
    let a = c.args in let roles = c.roles_of-roles in
    all_stored (replicate 18 0) roles.result a.parameters (take constant_limit a.times.now) c.constants_from-first.result
    (sym (ap length roles.ensures))

pub value_at-requires : goal.value_at-requires
value_at-requires c = (omega (arith, constants_late c.args.parameters.tag, c.constants_from-first.ensures), omega arith)

pub loop-i-preserved : goal.loop-i-preserved
loop-i-preserved c =
    let loop = c.loop-i in let roles = c.roles_of-roles in
    let a = c.args in
    rw (c.value_at.ensures, c.behind_field-rest.ensures)
    (sym (value_more loop.values roles.result loop.rest (take constant_limit a.times.now) c.constants_from-first.result loop.i
    (omega (arith, ap length roles.ensures))) ∙ loop.invariant)

pub returns : goal.returns
returns c =
    let loop = c.loop-i in let roles = c.roles_of-roles in
    let a = c.args in let p = a.parameters in let words = take constant_limit a.times.now in
    sym (none_left loop.values roles.result loop.rest words c.constants_from-first.result loop.i (ap length roles.ensures ∙ omega arith))
    ∙ loop.invariant
    ∙ ap₂ (λ (l : List ℕ) (first : ℕ). values_back l p words first 0) roles.ensures c.constants_from-first.ensures

pub overflow_cast-tag : goal.overflow_cast-tag
overflow_cast-tag c = omega (arith, c.requires)
