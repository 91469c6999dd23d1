-- Further examples that the contract shows beside its clauses, of Delays without an upper limit, of signals that stop, of long clocks, and of the
-- types from ExecutionTime on: calls that are all taken, and what the row reads after them.
use Rattle.std.specs.Prelude.{ℕ, zero, suc, ◌+◌, ◌-◌, ◌^◌, List, [], ◌∷◌, ◌++◌, replicate}
use Rattle.constraint.specs.Limits.{last_time, no_limit}
use Rattle.constraint.specs.Constraint.{Pattern, Arbitrary, Comparison}
use Rattle.constraint.specs.Examples.{Example, reads}
use Rattle.constraint.specs.Answer.{Answer}
use Rattle.constraint.specs.Answer.{Taken, Refused}
use Rattle.constraint.specs.declared.Call.{Call}
use Rattle.constraint.specs.declared.Call.TheVariants.{Event, ColouredEvent, Tick, Close}
use Rattle.constraint.specs.Constraint.{Constraint}
use Rattle.constraint.specs.Constraint.{Delay, Repeat, Sporadic, Burst, ExecutionTime, Reaction, Repetition, Synchronization, Age}
use Rattle.constraint.specs.Constraint.{OutputSynchronization, InputSynchronization}
use Rattle.constraint.specs.declared.Verdict.TheVariants.{Open, Kept, Broken}

-- §5.1.6, §5.1.7; CR 1: Delays without an upper limit
abbrev pub unlimited_delays : List Example
unlimited_delays =
    -- the clock alone never breaks the row, the close does, also where a target came too early
    reads (Delay 0 1 2 no_limit) (Event 0 10 ∷ Tick 1000000 ∷ []) Open
    ∷ reads (Delay 0 1 2 no_limit) (Event 0 10 ∷ Tick 1000000 ∷ Close ∷ []) (Broken 3)
    ∷ reads (Delay 0 1 2 no_limit) (Event 0 10 ∷ Event 1 11 ∷ []) Open
    ∷ reads (Delay 0 1 2 no_limit) (Event 0 10 ∷ Event 1 11 ∷ Close ∷ []) (Broken 3)
    -- a target at lower, and one as late as a time can be; no source at all
    ∷ reads (Delay 0 1 2 no_limit) (Event 0 10 ∷ Event 1 12 ∷ Close ∷ []) Kept
    ∷ reads (Delay 0 1 2 no_limit) (Event 0 10 ∷ Event 1 last_time ∷ Close ∷ []) Kept
    ∷ reads (Delay 0 1 2 no_limit) (Close ∷ []) Kept
    -- a target answers the sources at least lower before it, and only those
    ∷ reads (Delay 0 1 2 no_limit) (Event 0 1 ∷ Event 0 5 ∷ Event 1 7 ∷ Close ∷ []) Kept
    ∷ reads (Delay 0 1 2 no_limit) (Event 0 1 ∷ Event 0 6 ∷ Event 1 7 ∷ []) Open
    ∷ reads (Delay 0 1 2 no_limit) (Event 0 1 ∷ Event 0 6 ∷ Event 1 7 ∷ Close ∷ []) (Broken 4)
    ∷ reads (Delay 0 1 2 no_limit) (Event 0 1 ∷ Event 0 6 ∷ Event 1 7 ∷ Event 1 8 ∷ Close ∷ []) Kept
    -- a target given before its source, at the same time and before it
    ∷ reads (Delay 0 1 0 no_limit) (Event 1 10 ∷ Event 0 10 ∷ Close ∷ []) Kept
    ∷ reads (Delay 0 1 0 no_limit) (Event 1 10 ∷ Event 0 11 ∷ Close ∷ []) (Broken 3)
    -- the largest lower: past the last time that can be recorded, and at it
    ∷ reads (Delay 0 1 last_time no_limit) (Event 0 1 ∷ Tick last_time ∷ []) Open
    ∷ reads (Delay 0 1 last_time no_limit) (Event 0 1 ∷ Tick last_time ∷ Close ∷ []) (Broken 3)
    ∷ reads (Delay 0 1 last_time no_limit) (Event 0 0 ∷ Event 1 last_time ∷ Close ∷ []) Kept
    ∷ []

-- §5.3.2, §5.4.4; CR 3: signals that stop
abbrev pub silences : List Example
silences =
    -- the clock at upper after the last event, and past it, by a tick or by an event of another kind
    reads (Repeat 0 1 4 4) (Event 0 0 ∷ Tick 4 ∷ []) Open
    ∷ reads (Repeat 0 1 4 4) (Event 0 0 ∷ Tick 4 ∷ Close ∷ []) Kept
    ∷ reads (Repeat 0 1 4 4) (Event 0 0 ∷ Tick 5 ∷ []) (Broken 2)
    ∷ reads (Repeat 0 1 4 4) (Event 0 0 ∷ Event 9 5 ∷ []) (Broken 2)
    ∷ reads (Repeat 0 1 4 4) (Event 0 0 ∷ Tick 4 ∷ Event 0 4 ∷ Tick 8 ∷ []) Open
    ∷ reads (Repeat 0 1 4 4) (Event 0 0 ∷ Tick 4 ∷ Event 0 4 ∷ Tick 8 ∷ Tick 9 ∷ []) (Broken 5)
    -- nothing is due before the first event
    ∷ reads (Repeat 0 1 4 4) (Tick 100 ∷ Close ∷ []) Kept
    -- no limit, and the smallest one
    ∷ reads (Repeat 0 1 4 no_limit) (Event 0 0 ∷ Tick 100 ∷ Close ∷ []) Kept
    ∷ reads (Repeat 0 1 0 0) (Event 0 7 ∷ Close ∷ []) Kept
    ∷ reads (Repeat 0 1 0 0) (Event 0 7 ∷ Tick 8 ∷ []) (Broken 2)
    -- the oldest event that has none span places after it counts, also among the first ones
    ∷ reads (Repeat 0 2 4 5) (Event 0 1 ∷ Event 0 3 ∷ Tick 6 ∷ []) Open
    ∷ reads (Repeat 0 2 4 5) (Event 0 1 ∷ Event 0 3 ∷ Tick 6 ∷ Tick 7 ∷ []) (Broken 4)
    ∷ reads (Repeat 0 2 4 5) (Event 0 1 ∷ Event 0 3 ∷ Event 0 6 ∷ Tick 8 ∷ []) Open
    ∷ reads (Repeat 0 2 4 5) (Event 0 1 ∷ Event 0 3 ∷ Event 0 6 ∷ Tick 8 ∷ Tick 9 ∷ []) (Broken 5)
    ∷ reads (Repeat 0 3 0 5) (Event 0 1 ∷ Event 0 6 ∷ []) Open
    ∷ reads (Repeat 0 3 0 5) (Event 0 1 ∷ Event 0 7 ∷ []) (Broken 2)
    -- a Burst has no limit
    ∷ reads (Burst 0 1 4 0) (Event 0 0 ∷ Tick 100 ∷ Close ∷ []) Kept
    -- the last point can be as late as its event, or earlier where the points before it leave it no choice
    ∷ reads (Sporadic 0 5 5 2 0) (Event 0 2 ∷ Tick 9 ∷ []) Open
    ∷ reads (Sporadic 0 5 5 2 0) (Event 0 2 ∷ Tick 9 ∷ Tick 10 ∷ []) (Broken 3)
    ∷ reads (Sporadic 0 5 5 2 0) (Event 0 2 ∷ Event 0 9 ∷ Tick 14 ∷ []) Open
    ∷ reads (Sporadic 0 5 5 2 0) (Event 0 2 ∷ Event 0 9 ∷ Tick 14 ∷ Tick 15 ∷ []) (Broken 4)
    ∷ reads (Sporadic 0 5 no_limit 2 0) (Event 0 2 ∷ Tick 1000000 ∷ Close ∷ []) Kept
    ∷ reads (Sporadic 0 0 0 3 0) (Event 0 7 ∷ Tick 10 ∷ []) Open
    ∷ reads (Sporadic 0 0 0 3 0) (Event 0 7 ∷ Tick 10 ∷ Tick 11 ∷ []) (Broken 3)
    ∷ reads (Sporadic 0 0 0 3 0) (Event 0 7 ∷ Event 0 8 ∷ []) (Broken 2)
    ∷ []

-- §5.8.1 to §5.8.6; CR 2: ExecutionTime, of start 0, stop 1, preempt 2 and resume 3
abbrev pub execution_times : List Example
execution_times =
    -- §5.8, §5.8.5: no event of the row's, and an execution that runs as short and as long as it may
    reads (ExecutionTime 0 1 2 3 2 5) (Close ∷ []) Kept
    ∷ reads (ExecutionTime 0 1 2 3 2 5) (Event 9 3 ∷ Tick 4 ∷ Close ∷ []) Kept
    ∷ reads (ExecutionTime 0 1 2 3 2 5) (Event 0 0 ∷ Event 1 2 ∷ Close ∷ []) Kept
    ∷ reads (ExecutionTime 0 1 2 3 2 5) (Event 0 0 ∷ Tick 5 ∷ Event 1 5 ∷ Close ∷ []) Kept
    ∷ reads (ExecutionTime 0 1 2 3 2 5) (Event 0 0 ∷ Event 1 1 ∷ []) (Broken 2)
    -- §5.8.3: the last moment of a running execution, and the one after it
    ∷ reads (ExecutionTime 0 1 2 3 2 5) (Event 0 0 ∷ Tick 5 ∷ []) Open
    ∷ reads (ExecutionTime 0 1 2 3 2 5) (Event 0 0 ∷ Tick 6 ∷ []) (Broken 2)
    ∷ reads (ExecutionTime 0 1 2 3 2 5) (Event 0 0 ∷ Event 9 6 ∷ []) (Broken 2)
    -- §5.8.2, §5.8.4: a preempt that leaves no time to run; a preempted execution, for however long
    ∷ reads (ExecutionTime 0 1 2 3 2 5) (Event 0 0 ∷ Event 2 5 ∷ []) (Broken 2)
    ∷ reads (ExecutionTime 0 1 2 3 2 5) (Event 0 0 ∷ Event 2 4 ∷ Tick 1000 ∷ []) Open
    ∷ reads (ExecutionTime 0 1 2 3 2 5) (Event 0 0 ∷ Event 2 4 ∷ Tick 1000 ∷ Event 3 1000 ∷ Tick 1001 ∷ []) Open
    ∷ reads (ExecutionTime 0 1 2 3 2 5) (Event 0 0 ∷ Event 2 4 ∷ Tick 1000 ∷ Event 3 1000 ∷ Tick 1001 ∷ Tick 1002 ∷ []) (Broken 6)
    ∷ reads (ExecutionTime 0 1 2 3 2 5) (Event 0 0 ∷ Event 2 4 ∷ Event 3 1000 ∷ Event 1 1001 ∷ Close ∷ []) Kept
    ∷ reads (ExecutionTime 0 1 2 3 2 5) (Event 0 0 ∷ Event 2 1 ∷ Event 3 2 ∷ Event 2 3 ∷ Event 3 9 ∷ Event 1 10 ∷ Close ∷ []) Kept
    -- §5.8.5: a close after a start, a preempt or a resume
    ∷ reads (ExecutionTime 0 1 2 3 2 5) (Event 0 0 ∷ Close ∷ []) (Broken 2)
    ∷ reads (ExecutionTime 0 1 2 3 2 5) (Event 0 0 ∷ Event 2 3 ∷ Close ∷ []) (Broken 3)
    ∷ reads (ExecutionTime 0 1 2 3 2 5) (Event 0 0 ∷ Event 2 3 ∷ Event 3 4 ∷ Close ∷ []) (Broken 4)
    -- §5.8.1: two events at one time, one execution after the other, and an event that may not come next
    ∷ reads (ExecutionTime 0 1 2 3 2 5) (Event 0 0 ∷ Event 1 3 ∷ Event 0 3 ∷ []) (Broken 3)
    ∷ reads (ExecutionTime 0 1 2 3 2 5) (Event 0 0 ∷ Event 2 0 ∷ []) (Broken 2)
    ∷ reads (ExecutionTime 0 1 2 3 2 5) (Event 0 0 ∷ Event 1 3 ∷ Event 0 4 ∷ Event 1 9 ∷ Close ∷ []) Kept
    ∷ reads (ExecutionTime 0 1 2 3 2 5) (Event 0 0 ∷ Event 2 2 ∷ Event 1 4 ∷ []) (Broken 3)
    ∷ reads (ExecutionTime 0 1 2 3 2 5) (Event 0 0 ∷ Event 0 1 ∷ []) (Broken 2)
    ∷ reads (ExecutionTime 0 1 2 3 2 5) (Event 1 4 ∷ []) (Broken 1)
    ∷ reads (ExecutionTime 0 1 2 3 2 5) (Event 0 0 ∷ Event 3 1 ∷ []) (Broken 2)
    -- §5.8.6: the smallest bounds
    ∷ reads (ExecutionTime 0 1 2 3 0 0) (Event 0 7 ∷ []) (Broken 1)
    ∷ reads (ExecutionTime 0 1 2 3 0 0) (Tick 7 ∷ Close ∷ []) Kept
    ∷ reads (ExecutionTime 0 1 2 3 1 1) (Event 0 7 ∷ Event 1 8 ∷ Close ∷ []) Kept
    ∷ reads (ExecutionTime 0 1 2 3 1 1) (Event 0 7 ∷ Event 2 8 ∷ []) (Broken 2)
    ∷ []

-- §5.10 to §5.10.4; CR 10: Repetition
abbrev pub repetitions : List Example
repetitions =
    -- §5.10.2: the points rise; each chain taken singly has its points
    reads (Repetition 0 2 10 10 5) (Event 0 5 ∷ Event 0 16 ∷ Event 0 17 ∷ Event 0 29 ∷ Close ∷ []) Kept
    ∷ reads (Repetition 0 2 10 10 5) (Event 0 5 ∷ Event 0 16 ∷ Event 0 17 ∷ Event 0 30 ∷ []) (Broken 4)
    ∷ reads (Repetition 0 2 10 10 5) (Event 0 5 ∷ Event 0 16 ∷ Event 0 17 ∷ Event 0 31 ∷ []) (Broken 4)
    ∷ reads (Repetition 0 2 10 10 5) (Event 0 5 ∷ Event 0 16 ∷ Event 0 17 ∷ Event 0 29 ∷ Event 0 30 ∷ Event 0 39 ∷ []) Open
    ∷ reads (Repetition 0 2 10 10 5) (Event 0 5 ∷ Event 0 16 ∷ Event 0 17 ∷ Event 0 29 ∷ Event 0 30 ∷ Event 0 40 ∷ []) (Broken 6)
    ∷ reads (Repetition 0 2 0 2 1) (Event 0 0 ∷ Event 0 2 ∷ Event 0 3 ∷ Event 0 5 ∷ []) (Broken 4)
    ∷ reads (Repetition 0 2 2 2 3) (Event 0 3 ∷ Event 0 4 ∷ Event 0 8 ∷ Event 0 9 ∷ []) Open
    ∷ reads (Repetition 0 2 2 2 3) (Event 0 3 ∷ Event 0 5 ∷ Event 0 8 ∷ Event 0 10 ∷ []) (Broken 4)
    ∷ reads (Repetition 0 3 0 3 10) (Event 0 4 ∷ Event 0 14 ∷ Event 0 15 ∷ Event 0 17 ∷ []) Open
    ∷ reads (Repetition 0 3 0 3 10) (Event 0 4 ∷ Event 0 14 ∷ Event 0 15 ∷ Event 0 18 ∷ []) (Broken 4)
    -- §5.10: points span places apart are lower to upper apart
    ∷ reads (Repetition 0 2 4 5 1) (Event 0 1 ∷ Event 0 3 ∷ Event 0 5 ∷ Event 0 8 ∷ Event 0 10 ∷ []) Open
    ∷ reads (Repetition 0 8 80 80 0)
    (Event 0 0 ∷ Event 0 10 ∷ Event 0 20 ∷ Event 0 30 ∷ Event 0 40 ∷ Event 0 50 ∷ Event 0 60 ∷ Event 0 70 ∷ Event 0 80 ∷ Event 0 90 ∷ [])
    Open
    ∷ reads (Repetition 0 8 80 80 0)
    (Event 0 0 ∷ Event 0 10 ∷ Event 0 20 ∷ Event 0 30 ∷ Event 0 40 ∷ Event 0 50 ∷ Event 0 60 ∷ Event 0 70 ∷ Event 0 80 ∷ Event 0 91 ∷ [])
    (Broken 10)
    -- §5.10.1: the first span events never break it; the next one does where upper is below the span
    ∷ reads (Repetition 0 2 0 1 9) (Event 0 10 ∷ Event 0 11 ∷ Close ∷ []) Kept
    ∷ reads (Repetition 0 2 0 1 9) (Event 0 10 ∷ Event 0 11 ∷ Event 0 12 ∷ []) (Broken 3)
    ∷ reads (Repetition 0 2 0 0 0) (Event 0 0 ∷ Event 0 2 ∷ Close ∷ []) Kept
    ∷ reads (Repetition 0 2 0 10 0) (Event 0 0 ∷ Event 0 100 ∷ []) Open
    ∷ reads (Repetition 0 2 0 10 0) (Event 0 0 ∷ Event 0 100 ∷ Event 0 101 ∷ []) (Broken 3)
    -- §5.10.3: a span of 1
    ∷ reads (Repetition 0 1 5 5 2) (Event 0 2 ∷ Event 0 9 ∷ Event 0 14 ∷ []) Open
    ∷ reads (Repetition 0 1 5 5 2) (Event 0 2 ∷ Event 0 9 ∷ Event 0 16 ∷ []) (Broken 3)
    ∷ reads (Repetition 0 1 10 10 5) (Event 0 2 ∷ Event 0 10 ∷ []) Open
    ∷ reads (Repetition 0 1 10 10 5) (Event 0 2 ∷ Event 0 9 ∷ []) (Broken 2)
    ∷ reads (Repetition 0 1 0 0 4) (Event 0 9 ∷ []) Open
    ∷ reads (Repetition 0 1 0 0 4) (Event 0 9 ∷ Event 0 10 ∷ []) (Broken 2)
    ∷ reads (Repetition 0 1 0 0 1) (Event 0 0 ∷ Event 0 1 ∷ []) (Broken 2)
    ∷ reads (Repetition 0 1 0 0 1) (Event 0 1 ∷ Event 0 2 ∷ []) (Broken 2)
    ∷ reads (Repetition 0 1 2 2 1) (Event 0 0 ∷ Event 0 1 ∷ []) (Broken 2)
    -- §5.10.4: silence and the close break nothing
    ∷ reads (Repetition 0 1 5 5 0) (Event 0 0 ∷ Tick 6 ∷ Tick last_time ∷ Close ∷ []) Kept
    ∷ reads (Repetition 0 2 10 10 5) (Event 0 5 ∷ Event 9 1000 ∷ Event 0 1001 ∷ []) Open
    ∷ reads (Repetition 0 2 10 10 5) (Tick last_time ∷ Close ∷ []) Kept
    -- the last time
    ∷ reads (Repetition 0 2 0 last_time last_time) (Event 0 0 ∷ Event 0 1 ∷ Event 0 2 ∷ Event 0 last_time ∷ []) Open
    ∷ reads (Repetition 0 2 last_time last_time last_time) (Event 0 0 ∷ Event 0 1 ∷ Event 0 last_time ∷ []) Open
    ∷ reads (Repetition 0 2 last_time last_time last_time) (Event 0 0 ∷ Event 0 1 ∷ Event 0 (last_time - 1) ∷ []) (Broken 3)
    ∷ []

-- §1.1, §1.10; CR 12: past the last time of the first versions, and up to the last
abbrev pub long_clocks : List Example
long_clocks =
    reads (Delay 0 1 2 3) (Event 0 (2 ^ 56) ∷ Tick (2 ^ 56 + 3) ∷ []) Open
    ∷ reads (Delay 0 1 2 3) (Event 0 (2 ^ 56) ∷ Tick (2 ^ 56 + 3) ∷ Tick (2 ^ 56 + 4) ∷ []) (Broken 3)
    ∷ reads (Delay 0 1 last_time last_time) (Event 0 0 ∷ Event 1 last_time ∷ Close ∷ []) Kept
    ∷ reads (Delay 0 1 last_time last_time) (Event 0 last_time ∷ []) Open
    ∷ reads (Delay 0 1 last_time last_time) (Event 0 last_time ∷ Close ∷ []) (Broken 2)
    -- the largest deadline: a point at the last time, an upper and a jitter
    ∷ reads (Sporadic 0 last_time last_time last_time 0) (Event 0 (last_time - 1) ∷ Event 0 last_time ∷ []) Open
    ∷ reads (Sporadic 0 last_time last_time last_time 0) (Event 0 (last_time - 1) ∷ Event 0 last_time ∷ Close ∷ []) Kept
    ∷ reads (Sporadic 0 last_time last_time 0 0) (Event 0 0 ∷ Event 0 last_time ∷ Close ∷ []) Kept
    ∷ reads (Sporadic 0 last_time last_time 0 0) (Event 0 1 ∷ Event 0 last_time ∷ []) (Broken 2)
    ∷ reads (ExecutionTime 0 1 2 3 0 last_time) (Event 0 (last_time - 1) ∷ Event 1 last_time ∷ Close ∷ []) Kept
    ∷ []

-- §5.15: Patterns of one kind: period, jitter, minimum, offsets
abbrev pub patterns : List Example
patterns =
    -- figure 2.16 of the language's definition, in tenths: all events hang on one start
    reads (Pattern 0 50 5 5 (10 ∷ 20 ∷ 25 ∷ []))
    (Event 0 12 ∷ Event 0 22 ∷ Event 0 28 ∷ Event 0 60 ∷ Event 0 70 ∷ Event 0 80 ∷ Event 0 115 ∷ Event 0 120 ∷ Event 0 125 ∷ Close ∷ []) Kept
    ∷ reads (Pattern 0 50 5 5 (10 ∷ 20 ∷ 25 ∷ []))
    (Event 0 12 ∷ Event 0 22 ∷ Event 0 28 ∷ Event 0 60 ∷ Event 0 70 ∷ Event 0 80 ∷ Event 0 116 ∷ []) (Broken 7)
    -- two events in each group; a group may be begun at the close
    ∷ reads (Pattern 0 10 1 0 (0 ∷ 3 ∷ [])) (Event 0 5 ∷ Event 0 8 ∷ Close ∷ []) Kept
    ∷ reads (Pattern 0 10 1 0 (0 ∷ 3 ∷ [])) (Event 0 5 ∷ Close ∷ []) Kept
    ∷ reads (Pattern 0 10 1 0 (0 ∷ 3 ∷ [])) (Event 0 5 ∷ Tick 9 ∷ []) Open
    ∷ reads (Pattern 0 10 1 0 (0 ∷ 3 ∷ [])) (Event 0 5 ∷ Tick 9 ∷ Tick 10 ∷ []) (Broken 3)
    ∷ reads (Pattern 0 10 1 0 (0 ∷ 3 ∷ [])) (Event 0 5 ∷ Event 0 9 ∷ Event 0 15 ∷ []) Open
    ∷ reads (Pattern 0 10 1 0 (0 ∷ 3 ∷ [])) (Event 0 5 ∷ Event 0 9 ∷ Event 0 16 ∷ []) Open
    ∷ reads (Pattern 0 10 1 0 (0 ∷ 3 ∷ [])) (Event 0 5 ∷ Event 0 9 ∷ Event 0 14 ∷ []) (Broken 3)
    ∷ reads (Pattern 0 10 1 0 (0 ∷ 3 ∷ [])) (Event 0 5 ∷ Event 0 9 ∷ Event 0 17 ∷ []) (Broken 3)
    ∷ reads (Pattern 0 10 1 0 (0 ∷ 3 ∷ [])) (Event 0 5 ∷ Event 0 8 ∷ Tick 16 ∷ []) Open
    ∷ reads (Pattern 0 10 1 0 (0 ∷ 3 ∷ [])) (Event 0 5 ∷ Event 0 8 ∷ Tick 17 ∷ []) (Broken 3)
    -- the start is not below 0
    ∷ reads (Pattern 0 10 0 0 (4 ∷ 6 ∷ [])) (Event 0 4 ∷ Event 0 6 ∷ Close ∷ []) Kept
    ∷ reads (Pattern 0 10 0 0 (4 ∷ 6 ∷ [])) (Event 0 3 ∷ []) (Broken 1)
    ∷ reads (Pattern 0 3 0 0 (1 ∷ 2 ∷ [])) (Event 0 0 ∷ []) (Broken 1)
    -- without a period there is one group
    ∷ reads (Pattern 0 0 0 0 (0 ∷ 2 ∷ [])) (Event 0 1 ∷ []) Open
    ∷ reads (Pattern 0 0 0 0 (0 ∷ 2 ∷ [])) (Event 0 1 ∷ Event 0 3 ∷ []) (Broken 2)
    ∷ reads (Pattern 0 0 1 0 (0 ∷ [])) (Event 0 2 ∷ Event 0 3 ∷ []) (Broken 2)
    -- neighbours are at least minimum apart
    ∷ reads (Pattern 0 10 2 5 (0 ∷ 3 ∷ [])) (Event 0 7 ∷ Event 0 12 ∷ Event 0 17 ∷ []) Open
    ∷ reads (Pattern 0 10 2 5 (0 ∷ 3 ∷ [])) (Event 0 7 ∷ Event 0 12 ∷ Event 0 18 ∷ []) Open
    ∷ reads (Pattern 0 10 2 5 (0 ∷ 3 ∷ [])) (Event 0 7 ∷ Event 0 11 ∷ []) (Broken 2)
    ∷ reads (Pattern 0 10 2 5 (0 ∷ 3 ∷ [])) (Event 0 7 ∷ Tick 12 ∷ []) Open
    ∷ reads (Pattern 0 10 2 5 (0 ∷ 3 ∷ [])) (Event 0 7 ∷ Tick 13 ∷ []) (Broken 2)
    -- offsets may exceed the period
    ∷ reads (Pattern 0 5 1 0 (7 ∷ 9 ∷ [])) (Event 0 7 ∷ Event 0 9 ∷ Event 0 12 ∷ Event 0 14 ∷ Close ∷ []) Kept
    ∷ reads (Pattern 0 5 1 0 (7 ∷ 9 ∷ [])) (Event 0 6 ∷ []) (Broken 1)
    ∷ reads (Pattern 0 3 2 0 (0 ∷ 4 ∷ [])) (Event 0 0 ∷ Event 0 4 ∷ Event 0 5 ∷ Event 0 8 ∷ Close ∷ []) Kept
    ∷ reads (Pattern 0 3 2 0 (0 ∷ 4 ∷ [])) (Event 0 0 ∷ Event 0 3 ∷ []) (Broken 2)
    -- jitter does not add up, and the due time goes by the start
    ∷ reads (Pattern 0 2 1 3 (0 ∷ [])) (Event 0 1 ∷ Event 0 4 ∷ Event 0 7 ∷ []) (Broken 3)
    ∷ reads (Pattern 0 5 1 0 (0 ∷ [])) (Event 0 0 ∷ Event 0 6 ∷ []) Open
    ∷ reads (Pattern 0 5 1 0 (0 ∷ [])) (Event 0 0 ∷ Event 0 6 ∷ Event 0 12 ∷ []) (Broken 3)
    ∷ reads (Pattern 0 0 2 0 (1 ∷ 3 ∷ [])) (Event 0 1 ∷ Tick 5 ∷ []) Open
    ∷ reads (Pattern 0 0 2 0 (1 ∷ 3 ∷ [])) (Event 0 1 ∷ Tick 6 ∷ []) (Broken 2)
    -- nothing is due before the first event
    ∷ reads (Pattern 0 10 0 0 (0 ∷ [])) (Tick 1000 ∷ Close ∷ []) Kept
    ∷ []

-- §5.16: Arbitraries of one kind, by their pairs
abbrev pub arbitraries : List Example
arbitraries =
    -- figure 2.17 of the language's definition
    reads (Arbitrary 0 ((1, 5) ∷ (2, 6) ∷ (3, 7) ∷ [])) (Event 0 1 ∷ Event 0 2 ∷ Event 0 3 ∷ Event 0 5 ∷ Event 0 8 ∷ Event 0 10 ∷ Close ∷ []) Kept
    ∷ reads (Arbitrary 0 ((1, 5) ∷ (2, 6) ∷ (3, 7) ∷ [])) (Event 0 1 ∷ Event 0 2 ∷ Event 0 3 ∷ Event 0 5 ∷ Event 0 8 ∷ Event 0 11 ∷ []) (Broken 6)
    -- each pair has its own minimum and its own maximum
    ∷ reads (Arbitrary 0 ((2, no_limit) ∷ (5, no_limit) ∷ [])) (Event 0 0 ∷ Event 0 2 ∷ Event 0 5 ∷ []) Open
    ∷ reads (Arbitrary 0 ((2, no_limit) ∷ (5, no_limit) ∷ [])) (Event 0 0 ∷ Event 0 2 ∷ Event 0 4 ∷ []) (Broken 3)
    ∷ reads (Arbitrary 0 ((0, 4) ∷ (0, 6) ∷ [])) (Event 0 0 ∷ Event 0 4 ∷ Event 0 6 ∷ []) Open
    ∷ reads (Arbitrary 0 ((0, 4) ∷ (0, 6) ∷ [])) (Event 0 0 ∷ Event 0 4 ∷ Event 0 7 ∷ []) (Broken 3)
    -- a later pair counts, not the first alone
    ∷ reads (Arbitrary 0 ((1, no_limit) ∷ (0, 1) ∷ [])) (Event 0 0 ∷ Event 0 3 ∷ []) (Broken 2)
    ∷ reads (Arbitrary 0 ((1, no_limit) ∷ (0, 1) ∷ [])) (Event 0 0 ∷ Event 0 1 ∷ Event 0 2 ∷ []) (Broken 3)
    -- the oldest event that has none i places after it counts, also among the first ones
    ∷ reads (Arbitrary 0 ((0, 5) ∷ (0, 6) ∷ [])) (Event 0 0 ∷ Event 0 1 ∷ Tick 6 ∷ []) Open
    ∷ reads (Arbitrary 0 ((0, 5) ∷ (0, 6) ∷ [])) (Event 0 0 ∷ Event 0 1 ∷ Tick 6 ∷ Tick 7 ∷ []) (Broken 4)
    ∷ reads (Arbitrary 0 ((0, no_limit) ∷ (0, 3) ∷ [])) (Event 0 2 ∷ Tick 5 ∷ []) Open
    ∷ reads (Arbitrary 0 ((0, no_limit) ∷ (0, 3) ∷ [])) (Event 0 2 ∷ Tick 5 ∷ Tick 6 ∷ []) (Broken 3)
    -- pairs that contradict each other leave room for two events
    ∷ reads (Arbitrary 0 ((0, 4) ∷ (10, 12) ∷ [])) (Event 0 0 ∷ Event 0 4 ∷ []) Open
    ∷ reads (Arbitrary 0 ((0, 4) ∷ (10, 12) ∷ [])) (Event 0 0 ∷ Event 0 4 ∷ Event 0 8 ∷ []) (Broken 3)
    ∷ reads (Arbitrary 0 ((0, 4) ∷ (10, 12) ∷ [])) (Event 0 0 ∷ Event 0 4 ∷ Tick 8 ∷ []) Open
    ∷ reads (Arbitrary 0 ((0, 4) ∷ (10, 12) ∷ [])) (Event 0 0 ∷ Event 0 4 ∷ Tick 9 ∷ []) (Broken 3)
    -- as a Burst of at most 2 in 5
    ∷ reads (Arbitrary 0 ((0, no_limit) ∷ (5, no_limit) ∷ [])) (Event 0 0 ∷ Event 0 1 ∷ Event 0 5 ∷ []) Open
    ∷ reads (Arbitrary 0 ((0, no_limit) ∷ (5, no_limit) ∷ [])) (Event 0 0 ∷ Event 0 1 ∷ Event 0 4 ∷ []) (Broken 3)
    -- eight pairs
    ∷ reads (Arbitrary 0 ((10, 10) ∷ (20, 20) ∷ (30, 30) ∷ (40, 40) ∷ (50, 50) ∷ (60, 60) ∷ (70, 70) ∷ (80, 80) ∷ []))
    (Event 0 0 ∷ Event 0 10 ∷ Event 0 20 ∷ Event 0 30 ∷ Event 0 40 ∷ Event 0 50 ∷ Event 0 60 ∷ Event 0 70 ∷ Event 0 80 ∷ Event 0 90 ∷ []) Open
    ∷ reads (Arbitrary 0 ((10, 10) ∷ (20, 20) ∷ (30, 30) ∷ (40, 40) ∷ (50, 50) ∷ (60, 60) ∷ (70, 70) ∷ (80, 80) ∷ []))
    (Event 0 0 ∷ Event 0 10 ∷ Event 0 20 ∷ Event 0 30 ∷ Event 0 40 ∷ Event 0 50 ∷ Event 0 60 ∷ Event 0 70 ∷ Event 0 80 ∷ Event 0 91
    ∷ []) (Broken 10)
    -- nothing is due before the first event
    ∷ reads (Arbitrary 0 ((0, 1) ∷ [])) (Tick 1000 ∷ Close ∷ []) Kept
    ∷ []

-- §5.17: Comparisons
abbrev pub comparisons : List Example
comparisons =
    -- a true one is kept, whatever comes
    reads (Comparison 1 3 3) (Close ∷ []) Kept
    ∷ reads (Comparison 3 5 3) (Event 0 4 ∷ Tick 9 ∷ []) Open
    ∷ reads (Comparison 3 5 3) (Event 0 4 ∷ Tick 9 ∷ Close ∷ []) Kept
    ∷ reads (Comparison 5 4 4) (Close ∷ []) Kept
    ∷ reads (Comparison 2 3 4) (Event 0 7 ∷ []) Open
    ∷ reads (Comparison 4 5 3) (Event 0 7 ∷ Close ∷ []) Kept
    ∷ []

-- §5.3.5; CR 3: a table of two rows: sources crowd the first, and the second falls silent
abbrev pub crowded_rows : List Constraint
crowded_rows = Delay 0 1 0 no_limit ∷ Repeat 2 1 0 64 ∷ []

-- n sources, one at each time from a first time on
abbrev pub sources : ℕ → ℕ → List Call
sources zero t = []
sources (suc n) t = Event 0 t ∷ sources n (t + 1)

-- the 65th source is refused
abbrev pub crowded_calls : List Call
crowded_calls = Event 2 0 ∷ sources 64 1 ++ (Event 0 65 ∷ [])

abbrev pub crowded_answers : List Answer
crowded_answers = replicate 65 Taken ++ (Refused 12 ∷ [])

-- §5.9.1 to §5.9.7; CR 6: Reactions
abbrev pub reactions : List Example
reactions =
    -- one first response for all stimuli of a colour: it can suit two that are close, and not two that are far apart
    reads (Reaction 48 49 4 6) (ColouredEvent 48 1 10 ∷ ColouredEvent 48 1 13 ∷ []) (Broken 2)
    ∷ reads (Reaction 48 49 4 6) (ColouredEvent 48 1 10 ∷ ColouredEvent 48 1 12 ∷ []) Open
    ∷ reads (Reaction 48 49 4 6) (ColouredEvent 48 1 10 ∷ ColouredEvent 48 1 12 ∷ ColouredEvent 49 1 16 ∷ Close ∷ []) Kept
    ∷ reads (Reaction 48 49 4 6) (ColouredEvent 48 1 10 ∷ ColouredEvent 48 1 12 ∷ ColouredEvent 49 1 15 ∷ []) (Broken 3)
    -- the last moment, the one after it, and a response of another colour; a close before the response
    ∷ reads (Reaction 48 49 4 6) (ColouredEvent 48 1 10 ∷ Tick 16 ∷ []) Open
    ∷ reads (Reaction 48 49 4 6) (ColouredEvent 48 1 10 ∷ Tick 16 ∷ Tick 17 ∷ []) (Broken 3)
    ∷ reads (Reaction 48 49 4 6) (ColouredEvent 48 1 10 ∷ ColouredEvent 49 2 14 ∷ Tick 17 ∷ []) (Broken 3)
    ∷ reads (Reaction 48 49 4 6) (ColouredEvent 48 1 10 ∷ Close ∷ []) (Broken 2)
    -- a response without a stimulus, and a stimulus after it
    ∷ reads (Reaction 48 49 4 6) (ColouredEvent 49 3 5 ∷ Close ∷ []) Kept
    ∷ reads (Reaction 48 49 4 6) (ColouredEvent 49 3 5 ∷ ColouredEvent 48 3 6 ∷ []) (Broken 2)
    ∷ reads (Reaction 48 49 4 6) (ColouredEvent 48 0 10 ∷ ColouredEvent 49 0 15 ∷ ColouredEvent 48 0 20 ∷ []) (Broken 3)
    -- later responses do not count
    ∷ reads (Reaction 48 49 4 6) (ColouredEvent 48 0 10 ∷ ColouredEvent 49 0 15 ∷ ColouredEvent 49 0 99 ∷ Close ∷ []) Kept
    -- both ends of the interval, and either order within one time
    ∷ reads (Reaction 48 49 4 6) (ColouredEvent 48 7 10 ∷ ColouredEvent 49 7 14 ∷ Close ∷ []) Kept
    ∷ reads (Reaction 48 49 4 6) (ColouredEvent 48 7 10 ∷ ColouredEvent 49 7 13 ∷ []) (Broken 2)
    ∷ reads (Reaction 48 49 0 3) (ColouredEvent 49 0 5 ∷ ColouredEvent 48 0 5 ∷ Close ∷ []) Kept
    ∷ reads (Reaction 48 49 1 3) (ColouredEvent 49 0 5 ∷ ColouredEvent 48 0 5 ∷ []) (Broken 2)
    -- colours do not disturb each other
    ∷ reads (Reaction 48 49 4 6) (ColouredEvent 48 0 10 ∷ ColouredEvent 48 1 11 ∷ ColouredEvent 49 1 15 ∷ ColouredEvent 49 0 16 ∷ Close ∷ []) Kept
    ∷ []

-- §5.12: Ages
abbrev pub ages : List Example
ages =
    -- both ends of the interval, and one moment before and after it
    reads (Age 48 49 2 4) (ColouredEvent 48 1 10 ∷ ColouredEvent 49 1 12 ∷ Close ∷ []) Kept
    ∷ reads (Age 48 49 2 4) (ColouredEvent 48 1 10 ∷ ColouredEvent 49 1 14 ∷ Close ∷ []) Kept
    ∷ reads (Age 48 49 2 4) (ColouredEvent 48 1 10 ∷ ColouredEvent 49 1 11 ∷ []) (Broken 2)
    ∷ reads (Age 48 49 2 4) (ColouredEvent 48 1 10 ∷ ColouredEvent 49 1 15 ∷ []) (Broken 2)
    -- a response without a stimulus of its colour
    ∷ reads (Age 48 49 2 4) (ColouredEvent 49 1 5 ∷ []) (Broken 1)
    ∷ reads (Age 48 49 2 4) (ColouredEvent 48 2 3 ∷ ColouredEvent 49 1 5 ∷ []) (Broken 2)
    -- the latest stimulus counts
    ∷ reads (Age 48 49 2 4) (ColouredEvent 48 1 10 ∷ ColouredEvent 48 1 12 ∷ ColouredEvent 49 1 14 ∷ Close ∷ []) Kept
    ∷ reads (Age 48 49 2 4) (ColouredEvent 48 1 10 ∷ ColouredEvent 48 1 12 ∷ ColouredEvent 49 1 13 ∷ []) (Broken 3)
    -- several responses, and a stimulus after a response
    ∷ reads (Age 48 49 2 4) (ColouredEvent 48 1 10 ∷ ColouredEvent 49 1 12 ∷ ColouredEvent 49 1 14 ∷ Close ∷ []) Kept
    ∷ reads (Age 48 49 2 4) (ColouredEvent 48 1 10 ∷ ColouredEvent 49 1 12 ∷ ColouredEvent 49 1 15 ∷ []) (Broken 3)
    ∷ reads (Age 48 49 2 4) (ColouredEvent 48 1 10 ∷ ColouredEvent 49 1 12 ∷ ColouredEvent 48 1 13 ∷ []) (Broken 3)
    -- a stimulus without a response
    ∷ reads (Age 48 49 2 4) (ColouredEvent 48 1 10 ∷ Tick 1000 ∷ []) Open
    ∷ reads (Age 48 49 2 4) (ColouredEvent 48 1 10 ∷ Tick 1000 ∷ Close ∷ []) Kept
    -- with a minimum of 0 the stimulus may come in a later step of the same time
    ∷ reads (Age 48 49 0 3) (ColouredEvent 49 0 5 ∷ []) Open
    ∷ reads (Age 48 49 0 3) (ColouredEvent 49 0 5 ∷ ColouredEvent 48 0 5 ∷ Close ∷ []) Kept
    ∷ reads (Age 48 49 0 3) (ColouredEvent 49 0 5 ∷ Tick 6 ∷ []) (Broken 2)
    ∷ reads (Age 48 49 0 3) (ColouredEvent 49 0 5 ∷ Close ∷ []) (Broken 2)
    ∷ reads (Age 48 49 0 3) (ColouredEvent 48 0 1 ∷ ColouredEvent 49 0 9 ∷ []) Open
    ∷ reads (Age 48 49 0 3) (ColouredEvent 48 0 1 ∷ ColouredEvent 49 0 9 ∷ ColouredEvent 48 0 9 ∷ Close ∷ []) Kept
    ∷ reads (Age 48 49 0 3) (ColouredEvent 48 0 1 ∷ ColouredEvent 49 0 9 ∷ Tick 10 ∷ []) (Broken 3)
    ∷ reads (Age 48 49 0 3) (ColouredEvent 48 0 8 ∷ ColouredEvent 49 0 9 ∷ ColouredEvent 48 0 9 ∷ ColouredEvent 49 0 12 ∷ Close ∷ []) Kept
    ∷ []

-- §5.13: OutputSynchronizations
abbrev two_responses : Constraint
two_responses = OutputSynchronization 48 (49 ∷ 50 ∷ []) 2

abbrev four_responses : Constraint
four_responses = OutputSynchronization 48 (49 ∷ 50 ∷ 51 ∷ 52 ∷ []) 2

abbrev pub output_synchronizations : List Example
output_synchronizations =
    -- the first responses are within tolerance, and later responses do not count
    reads two_responses (ColouredEvent 48 1 5 ∷ ColouredEvent 49 1 20 ∷ ColouredEvent 50 1 22 ∷ Close ∷ []) Kept
    ∷ reads two_responses
    (ColouredEvent 48 1 5 ∷ ColouredEvent 49 1 20 ∷ ColouredEvent 49 1 21 ∷ ColouredEvent 50 1 22 ∷ ColouredEvent 50 1 90 ∷ Close ∷ []) Kept
    -- the last moment of a kind without a response, and the one after it
    ∷ reads two_responses (ColouredEvent 48 1 5 ∷ ColouredEvent 49 1 20 ∷ Tick 22 ∷ []) Open
    ∷ reads two_responses (ColouredEvent 48 1 5 ∷ ColouredEvent 49 1 20 ∷ Tick 22 ∷ Tick 23 ∷ []) (Broken 4)
    -- before the first response there is no last moment, but the close
    ∷ reads two_responses (ColouredEvent 48 1 5 ∷ Tick 1000 ∷ []) Open
    ∷ reads two_responses (ColouredEvent 48 1 5 ∷ Tick 1000 ∷ Close ∷ []) (Broken 3)
    -- responses without a stimulus, and a stimulus after them or at the same time
    ∷ reads two_responses (ColouredEvent 49 1 5 ∷ Tick 9 ∷ Close ∷ []) Kept
    ∷ reads two_responses (ColouredEvent 49 1 5 ∷ ColouredEvent 48 1 6 ∷ []) (Broken 2)
    ∷ reads two_responses (ColouredEvent 49 1 5 ∷ ColouredEvent 48 1 5 ∷ ColouredEvent 50 1 7 ∷ Close ∷ []) Kept
    ∷ reads two_responses (ColouredEvent 49 1 5 ∷ ColouredEvent 48 1 5 ∷ Tick 8 ∷ []) (Broken 3)
    -- a stimulus between the responses, and several stimuli before them
    ∷ reads two_responses (ColouredEvent 48 1 5 ∷ ColouredEvent 49 1 6 ∷ ColouredEvent 48 1 7 ∷ []) (Broken 3)
    ∷ reads two_responses (ColouredEvent 48 1 5 ∷ ColouredEvent 48 1 6 ∷ ColouredEvent 49 1 6 ∷ ColouredEvent 50 1 6 ∷ Close ∷ []) Kept
    -- two colours
    ∷ reads two_responses (ColouredEvent 48 1 5 ∷ ColouredEvent 48 2 5 ∷ ColouredEvent 49 1 6 ∷ ColouredEvent 50 2 7 ∷ Tick 8 ∷ []) Open
    ∷ reads two_responses (ColouredEvent 48 1 5 ∷ ColouredEvent 48 2 5 ∷ ColouredEvent 49 1 6 ∷ ColouredEvent 50 2 7 ∷ Tick 8 ∷ Tick 9 ∷ [])
    (Broken 6)
    ∷ reads two_responses
    (ColouredEvent 48 1 5 ∷ ColouredEvent 48 2 5 ∷ ColouredEvent 49 1 6 ∷ ColouredEvent 50 2 7 ∷ ColouredEvent 50 1 8
    ∷ ColouredEvent 49 2 9 ∷ Close ∷ []) Kept
    -- four kinds of responses, in any order
    ∷ reads four_responses (ColouredEvent 48 7 5 ∷ ColouredEvent 52 7 20 ∷ ColouredEvent 50 7 21 ∷ ColouredEvent 49 7 22 ∷ []) Open
    ∷ reads four_responses
    (ColouredEvent 48 7 5 ∷ ColouredEvent 52 7 20 ∷ ColouredEvent 50 7 21 ∷ ColouredEvent 49 7 22 ∷ ColouredEvent 51 7 22 ∷ Close ∷ []) Kept
    ∷ reads four_responses
    (ColouredEvent 48 7 5 ∷ ColouredEvent 52 7 20 ∷ ColouredEvent 50 7 21 ∷ ColouredEvent 49 7 22 ∷ ColouredEvent 51 7 23 ∷ []) (Broken 5)
    ∷ []

-- §5.14: InputSynchronizations
abbrev two_stimuli : ℕ → Constraint
two_stimuli tolerance = InputSynchronization (48 ∷ 49 ∷ []) 50 tolerance

abbrev four_stimuli : Constraint
four_stimuli = InputSynchronization (48 ∷ 49 ∷ 50 ∷ 51 ∷ []) 52 2

abbrev pub input_synchronizations : List Example
input_synchronizations =
    -- the latest stimuli are within tolerance, and later responses do not count
    reads (two_stimuli 2) (ColouredEvent 48 1 5 ∷ ColouredEvent 49 1 7 ∷ ColouredEvent 50 1 20 ∷ Close ∷ []) Kept
    ∷ reads (two_stimuli 2) (ColouredEvent 48 1 1 ∷ ColouredEvent 49 1 5 ∷ ColouredEvent 48 1 6 ∷ ColouredEvent 50 1 9 ∷ Close ∷ []) Kept
    ∷ reads (two_stimuli 2) (ColouredEvent 48 1 5 ∷ ColouredEvent 49 1 6 ∷ ColouredEvent 50 1 9 ∷ ColouredEvent 50 1 30 ∷ Close ∷ []) Kept
    -- they are not: without a response nothing is asked; with one a stimulus at its time can still come
    ∷ reads (two_stimuli 2) (ColouredEvent 48 1 5 ∷ ColouredEvent 49 1 8 ∷ Tick 100 ∷ Close ∷ []) Kept
    ∷ reads (two_stimuli 2) (ColouredEvent 48 1 5 ∷ ColouredEvent 49 1 8 ∷ ColouredEvent 50 1 20 ∷ []) Open
    ∷ reads (two_stimuli 2) (ColouredEvent 48 1 5 ∷ ColouredEvent 49 1 8 ∷ ColouredEvent 50 1 20 ∷ Tick 21 ∷ []) (Broken 4)
    ∷ reads (two_stimuli 2) (ColouredEvent 48 1 5 ∷ ColouredEvent 49 1 8 ∷ ColouredEvent 50 1 8 ∷ ColouredEvent 48 1 8 ∷ Close ∷ []) Kept
    -- a stimulus after the response
    ∷ reads (two_stimuli 2) (ColouredEvent 48 1 5 ∷ ColouredEvent 49 1 6 ∷ ColouredEvent 50 1 9 ∷ ColouredEvent 48 1 10 ∷ []) (Broken 4)
    -- a response without stimuli, and with a stimulus of another colour
    ∷ reads (two_stimuli 2) (ColouredEvent 50 1 9 ∷ []) Open
    ∷ reads (two_stimuli 2) (ColouredEvent 50 1 9 ∷ Tick 10 ∷ []) (Broken 2)
    ∷ reads (two_stimuli 2) (ColouredEvent 50 1 9 ∷ Close ∷ []) (Broken 2)
    ∷ reads (two_stimuli 2) (ColouredEvent 50 1 9 ∷ ColouredEvent 48 1 9 ∷ ColouredEvent 49 1 9 ∷ Close ∷ []) Kept
    ∷ reads (two_stimuli 2) (ColouredEvent 48 1 5 ∷ ColouredEvent 49 2 5 ∷ ColouredEvent 50 1 6 ∷ Tick 7 ∷ []) (Broken 4)
    -- tolerance 0: a stimulus at the time of the response can make stimuli too far apart
    ∷ reads (two_stimuli 0) (ColouredEvent 48 1 8 ∷ ColouredEvent 49 1 8 ∷ ColouredEvent 50 1 9 ∷ ColouredEvent 48 1 9 ∷ []) Open
    ∷ reads (two_stimuli 0) (ColouredEvent 48 1 8 ∷ ColouredEvent 49 1 8 ∷ ColouredEvent 50 1 9 ∷ ColouredEvent 48 1 9 ∷ Tick 10 ∷ []) (Broken 5)
    ∷ reads (two_stimuli 0)
    (ColouredEvent 48 1 8 ∷ ColouredEvent 49 1 8 ∷ ColouredEvent 50 1 9 ∷ ColouredEvent 48 1 9 ∷ ColouredEvent 49 1 9 ∷ Close ∷ []) Kept
    -- four kinds of stimuli
    ∷ reads four_stimuli
    (ColouredEvent 51 3 5 ∷ ColouredEvent 49 3 6 ∷ ColouredEvent 48 3 7 ∷ ColouredEvent 50 3 7 ∷ ColouredEvent 52 3 9 ∷ Close ∷ []) Kept
    ∷ reads four_stimuli
    (ColouredEvent 51 3 5 ∷ ColouredEvent 49 3 6 ∷ ColouredEvent 48 3 7 ∷ ColouredEvent 50 3 8 ∷ ColouredEvent 52 3 9 ∷ Tick 10 ∷ []) (Broken 6)
    ∷ []

-- §5.11 to §5.11.5: Synchronizations
abbrev pub synchronizations : List Example
synchronizations =
    -- §5.11: both kinds within tolerance, a kind that has two events in a window, and an event that lies in two windows
    reads (Synchronization (0 ∷ 1 ∷ []) 2) (Event 0 5 ∷ Event 1 7 ∷ []) Open
    ∷ reads (Synchronization (0 ∷ 1 ∷ []) 2) (Event 0 5 ∷ Event 1 7 ∷ Close ∷ []) Kept
    ∷ reads (Synchronization (0 ∷ 1 ∷ []) 2) (Event 0 5 ∷ Event 0 6 ∷ Event 1 7 ∷ Close ∷ []) Kept
    ∷ reads (Synchronization (0 ∷ 1 ∷ []) 2) (Event 0 5 ∷ Event 1 7 ∷ Event 0 9 ∷ Close ∷ []) Kept
    -- §5.11.2: the last moment of an event that lies in no full window, and the one after it
    ∷ reads (Synchronization (0 ∷ 1 ∷ []) 2) (Event 0 5 ∷ Event 1 7 ∷ Event 0 10 ∷ Tick 12 ∷ []) Open
    ∷ reads (Synchronization (0 ∷ 1 ∷ []) 2) (Event 0 5 ∷ Event 1 7 ∷ Event 0 10 ∷ Tick 12 ∷ Tick 13 ∷ []) (Broken 5)
    ∷ reads (Synchronization (0 ∷ 1 ∷ []) 2) (Event 0 5 ∷ Tick 7 ∷ []) Open
    ∷ reads (Synchronization (0 ∷ 1 ∷ []) 2) (Event 0 5 ∷ Tick 8 ∷ []) (Broken 2)
    ∷ reads (Synchronization (0 ∷ 1 ∷ []) 2) (Event 0 5 ∷ Event 0 8 ∷ []) (Broken 2)
    ∷ reads (Synchronization (0 ∷ 1 ∷ []) 2) (Event 0 5 ∷ Event 9 7 ∷ Event 9 8 ∷ []) (Broken 3)
    -- three kinds and four
    ∷ reads (Synchronization (0 ∷ 1 ∷ 2 ∷ []) 2) (Event 0 5 ∷ Event 1 6 ∷ Event 2 7 ∷ Event 0 8 ∷ Close ∷ []) Kept
    ∷ reads (Synchronization (0 ∷ 1 ∷ 2 ∷ []) 2) (Event 0 5 ∷ Event 1 6 ∷ Event 2 7 ∷ Event 0 9 ∷ []) Open
    ∷ reads (Synchronization (0 ∷ 1 ∷ 2 ∷ []) 2) (Event 0 5 ∷ Event 1 6 ∷ Event 2 7 ∷ Event 0 9 ∷ Close ∷ []) (Broken 5)
    ∷ reads (Synchronization (0 ∷ 1 ∷ 2 ∷ []) 2) (Event 0 5 ∷ Event 1 6 ∷ Event 2 7 ∷ Event 0 9 ∷ Event 1 9 ∷ Close ∷ []) Kept
    ∷ reads (Synchronization (0 ∷ 1 ∷ 2 ∷ 3 ∷ []) 2) (Event 3 5 ∷ Event 2 6 ∷ Event 1 6 ∷ Event 0 7 ∷ Close ∷ []) Kept
    ∷ reads (Synchronization (0 ∷ 1 ∷ 2 ∷ 3 ∷ []) 2) (Event 3 5 ∷ Event 2 6 ∷ Event 1 6 ∷ Event 0 8 ∷ []) (Broken 4)
    -- §5.11.3: the close, with an event in no full window and with no event
    ∷ reads (Synchronization (0 ∷ 1 ∷ []) 2) (Event 0 5 ∷ Close ∷ []) (Broken 2)
    ∷ reads (Synchronization (0 ∷ 1 ∷ []) 2) (Tick 9 ∷ Close ∷ []) Kept
    -- §5.11.4: tolerance 0
    ∷ reads (Synchronization (0 ∷ 1 ∷ []) 0) (Event 1 5 ∷ Event 0 5 ∷ Close ∷ []) Kept
    ∷ reads (Synchronization (0 ∷ 1 ∷ []) 0) (Event 0 5 ∷ Tick 6 ∷ []) (Broken 2)
    ∷ reads (Synchronization (0 ∷ 1 ∷ []) 0) (Event 0 5 ∷ Event 1 5 ∷ Event 0 9 ∷ Event 1 9 ∷ Close ∷ []) Kept
    -- §5.11.5: however many events come, none is refused
    ∷ reads (Synchronization (0 ∷ 1 ∷ []) 1000) (sources 200 1) Open
    ∷ reads (Synchronization (0 ∷ 1 ∷ []) 1000) (sources 200 1 ++ (Event 1 201 ∷ Close ∷ [])) Kept
    ∷ reads (Synchronization (0 ∷ 1 ∷ []) 1000) (sources 200 1 ++ (Tick 1001 ∷ [])) Open
    ∷ reads (Synchronization (0 ∷ 1 ∷ []) 1000) (sources 200 1 ++ (Tick 1001 ∷ Tick 1002 ∷ [])) (Broken 202)
    -- the last time
    ∷ reads (Synchronization (0 ∷ 1 ∷ []) last_time) (Event 0 0 ∷ Event 1 last_time ∷ Close ∷ []) Kept
    ∷ reads (Synchronization (0 ∷ 1 ∷ []) last_time) (Event 0 1 ∷ Tick last_time ∷ []) Open
    ∷ []
