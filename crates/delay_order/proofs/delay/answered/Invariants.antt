-- The target answers every source that the loop has passed; once it has passed 64 it has passed every time of the ring, which repeats itself.
use Rattle.constraint.proofs.Library.{◌+◌, ◌<◌, ◌≡◌, leb}
use Rattle.constraint.proofs.Library.{true, ℕ}
use Rattle.ring.specs.Ring.{time_at}
use Rattle.delay_order.proofs.delay.answered.Given as goal

abbrev pub invariant-loop-n : goal.invariant-loop-n
invariant-loop-n l = (i : ℕ) → i < l.n → leb (time_at l.times.words.now l.times.head i + l.lower) l.t ≡ true
