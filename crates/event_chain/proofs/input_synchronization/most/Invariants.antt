-- The loop goes from word to word.
use Rattle.event_chain.specs.Coloured.{most_of}
use Rattle.constraint.proofs.Library.{◌≡◌}
use Rattle.constraint.specs.Steps.{at}
use Rattle.event_chain.proofs.input_synchronization.most.Given as goal

abbrev pub invariant-loop-x : goal.invariant-loop-x
invariant-loop-x l = l.most ≡ most_of (at l.w) l.x-index
