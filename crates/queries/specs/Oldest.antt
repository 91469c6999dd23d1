-- The oldest that waits in a row, and its stream, by the recording alone (§15.18).
use Rattle.std.specs.Prelude.{ℕ, cond, List, [], ◌∷◌, map, length, get_or, ltb, eqb}
use Rattle.constraint.specs.Limits.{no_limit}
use Rattle.constraint.specs.Steps.{Step, times}
use Rattle.constraint.specs.Waiting.{answered, least, waiting}
use Rattle.constraint.specs.Constraint.{Constraint, Delay, StrongDelay, Repeat, Sporadic, Burst, Order, StrongSynchronization, ExecutionTime}
use Rattle.constraint.specs.Constraint.{Reaction, Repetition, Synchronization, Age, OutputSynchronization, InputSynchronization, Pattern}
use Rattle.constraint.specs.Constraint.{Arbitrary, Comparison}

-- §15.19: no stream
abbrev pub no_stream : ℕ
no_stream = 255

-- §6.1: the first source that has no target in its interval so far
unfoldable pub first_unanswered : ℕ → ℕ → List ℕ → List ℕ → ℕ
first_unanswered lower upper [] targets = no_limit
first_unanswered lower upper (s ∷ ss) targets = cond (answered lower upper s targets) (first_unanswered lower upper ss targets) s

-- §6.3: how many groups are complete, so the place of the oldest that is not: the kind with the fewest events gives it
abbrev pub complete_groups : List ℕ → List Step → ℕ
complete_groups kinds steps = least (map (λ k. length (times k steps)) kinds)

-- §6.3: the time of the first event of the group at a place
abbrev pub group_start : ℕ → List ℕ → List Step → ℕ
group_start place kinds steps = least (map (λ k. get_or (times k steps) place no_limit) kinds)

-- §15.18: the first of the kinds that has an event in the group at a place
unfoldable pub first_of_group : ℕ → List ℕ → List Step → ℕ
first_of_group place [] steps = no_stream
first_of_group place (k ∷ ks) steps = cond (ltb place (length (times k steps))) k (first_of_group place ks steps)

-- §15.18: the time of the oldest that waits in a row, by its type: the first source that is not answered, the first source beyond the number of
-- targets, the first event of the oldest group that is not complete
unfoldable pub oldest : Constraint → List Step → ℕ
oldest (Delay source target lower upper) steps = first_unanswered lower upper (times source steps) (times target steps)
oldest (StrongDelay source target lower upper) steps = get_or (times source steps) (length (times target steps)) no_limit
oldest (StrongSynchronization kinds tolerance) steps = group_start (complete_groups kinds steps) kinds steps
oldest (Repeat event span lower upper) steps = no_limit
oldest (Sporadic event lower upper jitter minimum) steps = no_limit
oldest (Burst event maximum len minimum) steps = no_limit
oldest (Order source target) steps = no_limit
oldest (ExecutionTime start stop preempt resume lower upper) steps = no_limit
oldest (Reaction stimulus response minimum maximum) steps = no_limit
oldest (Repetition event span lower upper jitter) steps = no_limit
oldest (Synchronization kinds tolerance) steps = no_limit
oldest (Age stimulus response minimum maximum) steps = no_limit
oldest (OutputSynchronization stimulus responses tolerance) steps = no_limit
oldest (InputSynchronization stimuli response tolerance) steps = no_limit
oldest (Pattern event period jitter minimum offsets) steps = no_limit
oldest (Arbitrary event pairs) steps = no_limit
oldest (Comparison operator left right) steps = no_limit

-- §15.18: its stream: the source's, or of a group that of the first kind that has an event in it
unfoldable pub oldest_stream : Constraint → List Step → ℕ
oldest_stream (Delay source target lower upper) steps = cond (eqb (waiting (Delay source target lower upper) steps) 0) no_stream source
oldest_stream (StrongDelay source target lower upper) steps = cond (eqb (waiting (StrongDelay source target lower upper) steps) 0) no_stream source
oldest_stream (StrongSynchronization kinds tolerance) steps = first_of_group (complete_groups kinds steps) kinds steps
oldest_stream (Repeat event span lower upper) steps = no_stream
oldest_stream (Sporadic event lower upper jitter minimum) steps = no_stream
oldest_stream (Burst event maximum len minimum) steps = no_stream
oldest_stream (Order source target) steps = no_stream
oldest_stream (ExecutionTime start stop preempt resume lower upper) steps = no_stream
oldest_stream (Reaction stimulus response minimum maximum) steps = no_stream
oldest_stream (Repetition event span lower upper jitter) steps = no_stream
oldest_stream (Synchronization kinds tolerance) steps = no_stream
oldest_stream (Age stimulus response minimum maximum) steps = no_stream
oldest_stream (OutputSynchronization stimulus responses tolerance) steps = no_stream
oldest_stream (InputSynchronization stimuli response tolerance) steps = no_stream
oldest_stream (Pattern event period jitter minimum offsets) steps = no_stream
oldest_stream (Arbitrary event pairs) steps = no_stream
oldest_stream (Comparison operator left right) steps = no_stream
