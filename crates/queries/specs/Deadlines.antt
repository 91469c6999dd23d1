-- Until when a row stays open if no event comes (§15.6 to §15.9).
use Rattle.std.specs.Prelude.{ℕ, ◌≤◌, ◌<◌, ◌≡◌, true, false, List, [], ◌∷◌, ◌++◌, ◌⊎◌, ◌↔◌}
use Rattle.std.proofs.Math.Option.{none, some}
use Rattle.std.proofs.Math.ListN.{get_elem?}
use Rattle.constraint.specs.Limits.{last_time, no_limit}
use Rattle.constraint.specs.Steps.{Step, tick, clock, closed}
use Rattle.constraint.specs.Continuation.{Open}
use Rattle.constraint.specs.Constraint.{Constraint}

-- what holds for each tick to a time after the clock and up to the last time
abbrev pub EachTick : List Step → (ℕ → List Step → Type 0) → Type 0
EachTick steps P = (t : ℕ) → clock steps < t → t ≤ last_time → P t (steps ++ (tick t ∷ []))

-- §15.6, §15.7: the deadline of a row that can be met still, before the close: the row is open after a tick exactly when the tick is not after it; or
-- there is none, as each tick leaves the row open
pub data DeadlineWhileOpen (c : Constraint) (steps : List Step) : ℕ → Type 0 where
  until : (d : ℕ) → clock steps ≤ d → d < last_time → EachTick steps (λ t after. Open c after ↔ (t ≤ d)) → DeadlineWhileOpen c steps d
  endless : EachTick steps (λ t after. Open c after) → DeadlineWhileOpen c steps no_limit

-- §15.7: a row that is broken has none, and after the close none has
pub data Deadline (c : Constraint) (steps : List Step) : ℕ → Type 0 where
  running : {d : ℕ} → closed steps ≡ false → Open c steps → DeadlineWhileOpen c steps d → Deadline c steps d
  over : (closed steps ≡ true) ⊎ (¬ Open c steps) → Deadline c steps no_limit

-- §15.8: the deadline of a row number; none where there is no such row
pub data RowDeadline (rows : List Constraint) (steps : List Step) (i : ℕ) : ℕ → Type 0 where
  row : {d : ℕ} (c : Constraint) → get_elem? rows i ≡ some c → Deadline c steps d → RowDeadline rows steps i d
  no_row_lem : get_elem? rows i ≡ none → RowDeadline rows steps i no_limit

-- §15.9: the least of them
pub record LeastDeadline (rows : List Constraint) (steps : List Step) (d : ℕ) : Type 0 where
  pub of_one : (i : ℕ) × RowDeadline rows steps i d
  pub least : (i e : ℕ) → RowDeadline rows steps i e → d ≤ e
