-- What a joined recording holds of its inputs (§13.4; CR 8).
use Rattle.std.specs.Prelude.{ℕ, Bool, false, cond, List, [], ◌∷◌}
use Rattle.constraint.specs.Steps.{Step, event, tick, close, among}
use Rattle.constraint.specs.Joined.{time_of}

-- §13.4; CR 8: the records of both, those of each in their order, every one, and no other
pub data Interleaves : List Step → List Step → List Step → Type 0 where
  no_record : Interleaves [] [] []
  of_first : {first second all : List Step} (s : Step) → Interleaves first second all → Interleaves (s ∷ first) second (s ∷ all)
  of_second : {first second all : List Step} (s : Step) → Interleaves first second all → Interleaves first (s ∷ second) (s ∷ all)

-- §13.4; CR 8: the times of some steps
abbrev pub times_of : List Step → List ℕ
times_of [] = []
times_of (s ∷ steps) = time_of s ∷ times_of steps

-- §13.4; CR 8: a tick to one of these times
abbrev pub is_tick_at : List ℕ → Step → Bool
is_tick_at moments (event s t) = false
is_tick_at moments (tick t) = among t moments
is_tick_at moments close = false

-- §13.4; CR 8: the steps without the ticks to these times
unfoldable pub without : List ℕ → List Step → List Step
without moments [] = []
without moments (s ∷ steps) = cond (is_tick_at moments s) (without moments steps) (s ∷ without moments steps)
