-- How many wait in a row (§6.1 to §6.4; 01, what waits).
use Rattle.std.specs.Prelude.{ℕ, ◌+◌, ◌-◌, max, min, Bool, false, ◌&&◌, ◌||◌, cond, List, [], ◌∷◌, map, length, leb, eqb}
use Rattle.constraint.specs.Limits.{no_limit}
use Rattle.constraint.specs.Steps.{Step, times}
use Rattle.constraint.specs.Constraint.{Constraint, Delay, StrongDelay, Repeat, Sporadic, Burst, Order, StrongSynchronization, ExecutionTime}
use Rattle.constraint.specs.Constraint.{Reaction, Repetition, Synchronization, Age, OutputSynchronization, InputSynchronization, Pattern}
use Rattle.constraint.specs.Constraint.{Arbitrary, Comparison}

-- §6.1: tests whether t is lower to upper after s, where upper may be the mark for no limit. It agrees with `Apart` (`answered_true`,
-- `answered_by_lem`)
abbrev pub in_interval : ℕ → ℕ → ℕ → ℕ → Bool
in_interval lower upper s t = leb (s + lower) t && (eqb upper no_limit || leb t (s + upper))

-- §6.1; 01, what waits: some target is in the interval of the source at s
unfoldable pub answered : ℕ → ℕ → ℕ → List ℕ → Bool
answered lower upper s [] = false
answered lower upper s (t ∷ ts) = in_interval lower upper s t || answered lower upper s ts

-- §6.1; 01, what waits; CR 1: the number of sources that have no target in their interval so far
unfoldable pub unanswered : ℕ → ℕ → List ℕ → List ℕ → ℕ
unanswered lower upper [] targets = 0
unanswered lower upper (s ∷ ss) targets = cond (answered lower upper s targets) 0 1 + unanswered lower upper ss targets

-- §6.3: the largest of some numbers
unfoldable pub largest : List ℕ → ℕ
largest [] = 0
largest (x ∷ xs) = max x (largest xs)

-- §6.3: the smallest of some numbers
unfoldable pub least : List ℕ → ℕ
least [] = 0
least (x ∷ []) = x
least (x ∷ (y ∷ ys)) = min x (least (y ∷ ys))

-- §6.3; 01, what waits: the groups that are begun and not complete. The kind with the most events gives how many are begun, the kind with the fewest
-- how many are complete
unfoldable pub begun_incomplete : List ℕ → List Step → ℕ
begun_incomplete kinds steps = let counts : List ℕ = map (λ k. length (times k steps)) kinds in largest counts - least counts

-- §5.9.7, §6.1 to §6.4; 01, what waits; CR 2, 6, 10: how many wait in a row, by its type: the sources, or the begun groups, that still need an event
unfoldable pub waiting : Constraint → List Step → ℕ
waiting (Delay source target lower upper) steps = unanswered lower upper (times source steps) (times target steps)
waiting (StrongDelay source target lower upper) steps = length (times source steps) - length (times target steps)
waiting (StrongSynchronization kinds tolerance) steps = begun_incomplete kinds steps
waiting (Repeat event span lower upper) steps = 0
waiting (Sporadic event lower upper jitter minimum) steps = 0
waiting (Burst event maximum len minimum) steps = 0
waiting (Order source target) steps = 0
waiting (ExecutionTime start stop preempt resume lower upper) steps = 0
waiting (Reaction stimulus response minimum maximum) steps = 0
waiting (Repetition event span lower upper jitter) steps = 0
waiting (Synchronization kinds tolerance) steps = 0
waiting (Age stimulus response minimum maximum) steps = 0
waiting (OutputSynchronization stimulus responses tolerance) steps = 0
waiting (InputSynchronization stimuli response tolerance) steps = 0
waiting (Pattern event period jitter minimum offsets) steps = 0
waiting (Arbitrary event pairs) steps = 0
waiting (Comparison operator left right) steps = 0
