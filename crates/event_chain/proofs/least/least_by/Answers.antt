-- The least so far is that of the numbers passed.
use Rattle.event_chain.specs.Coloured.{least_of}
use Rattle.constraint.proofs.Library.{◌∙◌, ◌≡◌, add-one, ap, arith, refl}
use Rattle.event_chain.proofs.least.least_by.Goals as goal

pub loop-i-init : goal.loop-i-init
unfolding least_of
loop-i-init g c = λ h k. refl

pub loop-i-preserved : goal.loop-i-preserved
unfolding least_of
loop-i-preserved g c = λ h k.
    rw (add-one c.loop-i.i, c.min-least.ensures, c.loop-i.invariant h k, k c.loop-i.i c.f.result (omega arith) c.f.ensures)

pub returns : goal.returns
returns g c = λ h k.
    let end : c.loop-i.i ≡ c.args.n = omega arith in
    c.loop-i.invariant h k ∙ ap (least_of h) end
