-- Each turn takes one tick more.
use Rattle.clock.specs.Clock.{Ticks}
use Rattle.constraint.proofs.Library.{◌-◌, ◌≡◌, length}
use Rattle.clock.proofs.Clock.ticks.Given as goal

abbrev pub invariant-loop-time : goal.invariant-loop-time
invariant-loop-time l = Ticks l.bytes l.place l.initial.self l.at l.self × (l.self.next ≡ l.initial.self.next)

abbrev pub decreases-loop-time : goal.decreases-loop-time
decreases-loop-time l = length l.bytes - l.at
