-- Each start's number goes to its place.
use Rattle.constraint.proofs.Library.{arith, refl}
use Rattle.stretch.proofs.{Runs.needs_more, Runs.needs_start}
use Rattle.stretch.proofs.needs.Goals as goal

pub loop-start-preserved : goal.loop-start-preserved
loop-start-preserved c = needs_more _ _ _ _ _ _ c.loop-start.invariant (omega (arith, c.requires.0))
    c.need_from.ensures

pub loop-start-init : goal.loop-start-init
loop-start-init c = needs_start _ _ _ _ refl

pub need_from-requires : goal.need_from-requires
need_from-requires c = c.requires

pub offset_bounds-need-start : goal.offset_bounds-need-start
offset_bounds-need-start c = omega (arith, c.requires.0)

pub bounds-need-start : goal.bounds-need-start
bounds-need-start c = omega (arith, c.requires.0)

pub returns : goal.returns
returns c = λ start h. c.loop-start.invariant.each start (omega (arith, h, c.loop-start-test.false))
