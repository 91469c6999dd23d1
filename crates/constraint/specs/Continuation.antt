-- What may still come (§2.3), and what a row reads (§2.4 to §2.6; 01, time).
use Rattle.std.specs.Prelude.{ℕ, ◌≤◌, ◌<◌, ◌≡◌, true, false, List, [], ◌∷◌, ◌++◌, length, take}
use Rattle.constraint.specs.Limits.{stream_count}
use Rattle.constraint.specs.Steps.{Step, event, at, times, clock, closed}
use Rattle.constraint.specs.Meets.{Meets}
use Rattle.constraint.specs.Constraint.{Constraint}
use Rattle.constraint.specs.declared.Verdict.{Verdict}

-- §1.3, §8.11; 01, time; CR 6: the time is not before the clock, and it is after all earlier events of the stream
abbrev pub EventInOrder : List Step → ℕ → ℕ → Type 0
EventInOrder steps s t = (clock steps ≤ t) × ((i : ℕ) → i < length (times s steps) → at (times s steps) i < t)

-- §2.3; 01, time; CR 6: a continuation: further events of any stream that could be taken one after the other. There is no largest time. After the
-- close no event can follow
pub data Continues : List Step → List Step → Type 0 where
  stop : {steps : List Step} → Continues steps []
  more : {steps further : List Step} (s t : ℕ) → closed steps ≡ false → s < stream_count → EventInOrder steps s t
      → Continues (steps ++ (event s t ∷ [])) further → Continues steps (event s t ∷ further)

-- §2.4; 01, time: the row is open: there is a continuation with which all events together do what the row asks
abbrev pub Open : Constraint → List Step → Type 0
Open c steps = (further : List Step) × Continues steps further × Meets c (steps ++ further)

-- §2.5; 01, time: the row is broken at step n: no such continuation is left after n steps, and after fewer steps there was one. `take n steps` are
-- the first n steps
pub record BrokenAt (c : Constraint) (steps : List Step) (n : ℕ) : Type 0 where
  pub counted : n ≤ length steps
  pub before : (k : ℕ) → k < n → Open c (take k steps)
  pub after : ¬ Open c (take n steps)

-- §2.4 to §2.6; 01, time: what a row reads after the steps: open; kept, which is open after the close; or broken at step n
pub data Reads (c : Constraint) (steps : List Step) : Verdict → Type 0 where
  reads_open : closed steps ≡ false → Open c steps → Reads c steps Verdict.Open
  reads_kept : closed steps ≡ true → Open c steps → Reads c steps Verdict.Kept
  reads_broken : (n : ℕ) → BrokenAt c steps n → Reads c steps (Verdict.Broken n)
