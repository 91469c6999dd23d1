-- The loop goes from word to word.
use Rattle.event_chain.specs.Coloured.{most_of}
use Rattle.constraint.proofs.Library.{add-one, refl}
use Rattle.event_chain.proofs.input_synchronization.most.Goals as goal

pub loop-x-init : goal.loop-x-init
unfolding most_of
loop-x-init c = refl

pub loop-x-preserved : goal.loop-x-preserved
unfolding most_of
loop-x-preserved c = rw (add-one c.loop-x.x-index, c.max-most.ensures, ← c.loop-x.invariant)
