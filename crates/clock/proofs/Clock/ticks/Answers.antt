-- Each turn takes one tick more, which leaves the first free times.
use Rattle.clock.proofs.{Laws.ticks_more}
use Rattle.clock.specs.Clock.{no_tick}
use Rattle.constraint.proofs.Library.{◌∙◌, refl}
use Rattle.clock.proofs.Clock.ticks.Goals as goal

pub loop-time-init : goal.loop-time-init
loop-time-init c = (no_tick, refl)

pub loop-time-preserved : goal.loop-time-preserved
loop-time-preserved c = (
  ticks_more c.loop-time.invariant.0 c.in-Some.ensures c.in-Ok.ensures.takes,
  c.in-Ok.ensures.frees ∙ c.loop-time.invariant.1,
)
