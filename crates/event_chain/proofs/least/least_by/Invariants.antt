-- The least so far is that of the numbers passed.
use Rattle.event_chain.specs.Coloured.{least_of}
use Rattle.constraint.proofs.Library.{◌<◌, ◌≡◌, ℕ}
use Rattle.event_chain.proofs.least.least_by.Given as goal

abbrev pub invariant-loop-i : goal.invariant-loop-i
invariant-loop-i g l = (h : ℕ → ℕ) → ((i r : ℕ) → i < l.n → goal.F-post g l.f i r → r ≡ h i) → l.least ≡ least_of h l.i
