-- Why a row broke, by the definitions alone (§15.14, §15.15).
use Rattle.std.specs.Prelude.{ℕ, ◌+◌, ◌≤◌, ◌<◌, ◌≡◌, true, List, [], ◌∷◌, ◌++◌, ◌↔◌, length}
use Rattle.constraint.specs.Limits.{last_time}
use Rattle.constraint.specs.Streams.{kind_of}
use Rattle.constraint.specs.Steps.{Step, event, tick, close, clock, among}
use Rattle.constraint.specs.Accepted.{kinds}
use Rattle.constraint.specs.Continuation.{Open}
use Rattle.constraint.specs.Constraint.{Constraint}

-- the step of a number is s, after the steps before it
pub record StepAt (steps : List Step) (n : ℕ) (before : List Step) (s : Step) : Type 0 where
  pub rest : List Step
  pub splits : steps ≡ before ++ (s ∷ rest)
  pub numbered : n ≡ length before + 1

-- §15.14, §15.15: why step n broke the row, and the moment. 1: it was overdue. Before the step the row had a deadline: it was open after a tick
-- exactly if the tick was not after it; and the step moved the clock past it. 2: an event of one of the row's kinds broke it, which a tick to its
-- time would not have done. 3: the close broke it
pub data Cause (c : Constraint) (steps : List Step) (n : ℕ) : ℕ → ℕ → Type 0 where
  overdue : (before : List Step) (s : Step) (d : ℕ) → StepAt steps n before s → clock before ≤ d → d < clock (before ++ (s ∷ []))
      → ((t : ℕ) → clock before < t → t ≤ last_time → Open c (before ++ (tick t ∷ [])) ↔ (t ≤ d)) → Cause c steps n 1 d
  by_event : (before : List Step) (k t : ℕ) → StepAt steps n before (event k t) → among (kind_of k) (kinds c) ≡ true
      → (clock before < t → Open c (before ++ (tick t ∷ []))) → Cause c steps n 2 t
  at_close : (before : List Step) → StepAt steps n before close → Cause c steps n 3 (clock before)
