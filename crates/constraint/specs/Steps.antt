-- Steps, and what a list of accepted steps has recorded (§1.3 to §1.7; 01, time).
use Rattle.std.specs.Prelude.{ℕ, Bool, true, false, cond, ◌||◌, List, [], ◌∷◌, get_or, eqb}

-- §1.3 to §1.5, §1.9; 01, time; CR 6: a step: an event of a stream at a time; a tick, which moves the clock to a time; or the close. `event 0 10` is
-- 0@10, of the plain kind 0
pub data Step : Type 0 where
  event : ℕ → ℕ → Step
  tick : ℕ → Step
  close : Step

-- the i-th number of a list, counted from 0; past the end it is 0
abbrev pub at : List ℕ → ℕ → ℕ
at list i = get_or list i 0

-- §2.1; 01, time: the times of the events of one stream, in the order recorded
unfoldable pub times : ℕ → List Step → List ℕ
times k [] = []
times k (event j t ∷ steps) = cond (eqb j k) (t ∷ times k steps) (times k steps)
times k (tick t ∷ steps) = times k steps
times k (close ∷ steps) = times k steps

-- §2.1: k is one of these streams, or of these kinds
abbrev pub among : ℕ → List ℕ → Bool
among k [] = false
among k (j ∷ ks) = eqb k j || among k ks

-- §2.1, §5.8; CR 2: the events of these streams, each with its stream and its time, in the order recorded
unfoldable pub own : List ℕ → List Step → List (ℕ × ℕ)
own ks [] = []
own ks (event k t ∷ steps) = cond (among k ks) ((k, t) ∷ own ks steps) (own ks steps)
own ks (tick t ∷ steps) = own ks steps
own ks (close ∷ steps) = own ks steps

-- §1.3 to §1.5; 01, time: the clock after the steps, given the clock before them. The close does not move it
unfoldable pub clock_from : ℕ → List Step → ℕ
clock_from now [] = now
clock_from now (event k t ∷ steps) = clock_from t steps
clock_from now (tick t ∷ steps) = clock_from t steps
clock_from now (close ∷ steps) = clock_from now steps

-- §1.6; 01, time: the clock after the steps, which starts at 0
abbrev pub clock : List Step → ℕ
clock steps = clock_from 0 steps

-- §1.5, §8.8; 01, time: the close is one of the steps
unfoldable pub closed : List Step → Bool
closed [] = false
closed (event k t ∷ steps) = closed steps
closed (tick t ∷ steps) = closed steps
closed (close ∷ steps) = true
