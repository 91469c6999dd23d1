-- What each row asks of all events together. Some rows also ask something of the clock (§2.2, §5.1 to §5.17; 01, rows 1 to 7; CR 1, 2, 3, 6, 10).
use Rattle.std.specs.Prelude.{ℕ, zero, suc, ◌+◌, ◌-◌, ◌≤◌, ◌<◌, ◌≡◌, cond, List, [], ◌∷◌, map, ◌⊎◌, length, eqb}
use Rattle.std.proofs.Math.Option.{Option, none, some}
use Rattle.constraint.specs.Limits.{last_colour, no_limit}
use Rattle.constraint.specs.Streams.{stream}
use Rattle.constraint.specs.Steps.{Step, at, times, own, clock}
use Rattle.constraint.specs.Constraint.{Constraint, Delay, StrongDelay, Repeat, Sporadic, Burst, Order, StrongSynchronization, ExecutionTime}
use Rattle.constraint.specs.Constraint.{Reaction, Repetition, Synchronization, Age, OutputSynchronization, InputSynchronization, Pattern}
use Rattle.constraint.specs.Constraint.{Arbitrary, Comparison}

-- §5.2; 01, row 2: y is lower to upper after x, both ends included
abbrev pub Between : ℕ → ℕ → ℕ → ℕ → Type 0
Between lower upper x y = (x + lower ≤ y) × (y ≤ x + upper)

-- §4.7; 01, table; CR 1: y is at most upper after x, or upper is the mark for no limit
abbrev pub NotLater : ℕ → ℕ → ℕ → Type 0
NotLater upper x y = (upper ≡ no_limit) ⊎ (y ≤ x + upper)

-- §5.1; 01, row 1; CR 1: y is lower to upper after x, where upper may be the mark for no limit. `in_interval` tests it (`answered_true`,
-- `answered_by_lem`)
abbrev pub Apart : ℕ → ℕ → ℕ → ℕ → Type 0
Apart lower upper x y = (x + lower ≤ y) × NotLater upper x y

-- §5.1, §5.1.6; 01, row 1; CR 1: each source has a target lower to upper after it, or at least lower after it if upper is the mark for no limit
unfoldable pub MeetsDelay : ℕ → ℕ → List ℕ → List ℕ → Type 0
MeetsDelay lower upper sources targets =
    (i : ℕ) → i < length sources → (j : ℕ) × (j < length targets) × Apart lower upper (at sources i) (at targets j)

-- §5.2; 01, row 2: there are as many targets as sources, and the i-th target is lower to upper after the i-th source
unfoldable pub MeetsStrongDelay : ℕ → ℕ → List ℕ → List ℕ → Type 0
MeetsStrongDelay lower upper sources targets =
    (length targets ≡ length sources) × ((i : ℕ) → i < length sources → Between lower upper (at sources i) (at targets i))

-- §5.3; 01, row 3: an event and the one span places after it are lower to upper apart
unfoldable pub SpansApart : ℕ → ℕ → ℕ → List ℕ → Type 0
SpansApart span lower upper events = (i : ℕ) → i + span < length events → Apart lower upper (at events i) (at events (i + span))

-- §5.3; 01, row 3; CR 3: the events of a Repeat are `SpansApart`. An event with no event span places after it is at most upper before the clock `now`
unfoldable pub MeetsRepeat : ℕ → ℕ → ℕ → List ℕ → ℕ → Type 0
MeetsRepeat span lower upper events now =
    SpansApart span lower upper events × ((i : ℕ) → i < length events → length events ≤ i + span → NotLater upper (at events i) now)

-- §5.4, §5.5; 01, rows 4 and 5: consecutive events are at least minimum apart
abbrev pub AtLeastApart : ℕ → List ℕ → Type 0
AtLeastApart minimum events = SpansApart 1 minimum no_limit events

-- §5.4, §5.10; 01, row 4; CR 10: a point for each event, at most jitter before it. The points rise, and points span places apart are lower to upper
-- apart
pub record HiddenPoints (span lower upper jitter : ℕ) (events points : List ℕ) : Type 0 where
  pub one_each : length points ≡ length events
  pub near : (i : ℕ) → i < length events → Between 0 jitter (at points i) (at events i)
  pub rise : (i : ℕ) → i + 1 < length events → at points i < at points (i + 1)
  pub apart : (i : ℕ) → i + span < length events → Apart lower upper (at points i) (at points (i + span))

-- §5.4; CR 3: the last point, if there is one, is at most upper + jitter before the clock `now`
abbrev pub LastNotLater : ℕ → ℕ → List ℕ → ℕ → Type 0
LastNotLater upper jitter points now = (i : ℕ) → i + 1 ≡ length points → NotLater upper (at points i + jitter) now

-- §5.4; 01, row 4; CR 3: one list of points of span 1 satisfies both, and consecutive events are at least minimum apart
unfoldable pub MeetsSporadic : ℕ → ℕ → ℕ → ℕ → List ℕ → ℕ → Type 0
MeetsSporadic lower upper jitter minimum events now =
    ((points : List ℕ) × HiddenPoints 1 lower upper jitter events points × LastNotLater upper jitter points now) × AtLeastApart minimum events

-- §5.10; CR 10: there are hidden points of the span
unfoldable pub MeetsRepetition : ℕ → ℕ → ℕ → ℕ → List ℕ → Type 0
MeetsRepetition span lower upper jitter events = (points : List ℕ) × HiddenPoints span lower upper jitter events points

-- §5.5; 01, row 5: events maximum places apart are at least len apart, and consecutive events are at least minimum apart
unfoldable pub MeetsBurst : ℕ → ℕ → ℕ → List ℕ → Type 0
MeetsBurst maximum len minimum events = SpansApart maximum len no_limit events × AtLeastApart minimum events

-- §5.6; 01, row 6: there are as many targets as sources, and the i-th source is not after the i-th target
unfoldable pub MeetsOrder : List ℕ → List ℕ → Type 0
MeetsOrder sources targets = (length targets ≡ length sources) × ((i : ℕ) → i < length sources → at sources i ≤ at targets i)

-- §5.7; 01, row 7: any two of the kinds have equally many events, and their i-th events are at most tolerance apart
unfoldable pub MeetsStrongSynchronization : List ℕ → ℕ → List Step → Type 0
MeetsStrongSynchronization kinds tolerance steps =
    (j k : ℕ) → j < length kinds → k < length kinds →
    (length (times (at kinds j) steps) ≡ length (times (at kinds k) steps))
    × ((i : ℕ) → i < length (times (at kinds j) steps) → at (times (at kinds j) steps) i ≤ at (times (at kinds k) steps) i + tolerance)

-- §5.11: the j-th of the kinds has an event at s
abbrev pub Recorded : List ℕ → List Step → ℕ → ℕ → Type 0
Recorded kinds steps j s = (i : ℕ) × (i < length (times (at kinds j) steps)) × (at (times (at kinds j) steps) i ≡ s)

-- §5.11: the window from x to x + tolerance is full, both ends included: each of the n kinds has an event in it, where `Event j s` is one of the j-th
abbrev pub FullWindow : (ℕ → ℕ → Type 0) → ℕ → ℕ → ℕ → Type 0
FullWindow Event n tolerance x = (j : ℕ) → j < n → (s : ℕ) × Event j s × Between 0 tolerance x s

-- §5.11: the time e lies in a full window
abbrev pub Covered : (ℕ → ℕ → Type 0) → ℕ → ℕ → ℕ → Type 0
Covered Event n tolerance e = (x : ℕ) × Between 0 tolerance x e × FullWindow Event n tolerance x

-- §5.11: each event of the row's kinds lies in a window from some x to x + tolerance in which every kind has an event
unfoldable pub MeetsSynchronization : List ℕ → ℕ → List Step → Type 0
MeetsSynchronization kinds tolerance steps =
    (j s : ℕ) → j < length kinds → Recorded kinds steps j s → Covered (Recorded kinds steps) (length kinds) tolerance s

module _ (start stop preempt resume lower upper : ℕ) where
  -- §5.8; CR 2: the row's events from the time `free` on, either between two executions or within one that started at s and was preempted for the
  -- time `preempted`: no event; a start; a preempt and its resume; a stop lower to upper after the start, where preempted time does not count
  pub data Executes : Option (ℕ × ℕ) → ℕ → List (ℕ × ℕ) → Type 0 where
    no_event_lem : {free : ℕ} → Executes none free []
    started : {free : ℕ} {later : List (ℕ × ℕ)} (s : ℕ) → free ≤ s → Executes (some (s, 0)) (s + 1) later → Executes none free ((start, s) ∷ later)
    paused : {s preempted free : ℕ} {later : List (ℕ × ℕ)} (p r : ℕ) → free ≤ p → p < r → Executes (some (s, preempted + (r - p))) (r + 1) later
        → Executes (some (s, preempted)) free ((preempt, p) ∷ (resume, r) ∷ later)
    stopped : {s preempted free : ℕ} {later : List (ℕ × ℕ)} (t : ℕ) → free ≤ t → Between (lower + preempted) (upper + preempted) s t
        → Executes none (t + 1) later → Executes (some (s, preempted)) free ((stop, t) ∷ later)

-- §5.8; CR 2: all of the row's events, from time 0 on
unfoldable pub MeetsExecutionTime : ℕ → ℕ → ℕ → ℕ → ℕ → ℕ → List (ℕ × ℕ) → Type 0
MeetsExecutionTime start stop preempt resume lower upper events = Executes start stop preempt resume lower upper none 0 events

-- §5.9; CR 6: for one colour: if there is a stimulus there is a response, and the first response is minimum to maximum after every stimulus
unfoldable pub MeetsReaction : ℕ → ℕ → List ℕ → List ℕ → Type 0
MeetsReaction minimum maximum stimuli responses =
    (i : ℕ) → i < length stimuli → (0 < length responses) × Between minimum maximum (at stimuli i) (at responses 0)

-- §5.12: for one colour: each response has a stimulus, and is minimum to maximum after the latest stimulus of all
unfoldable pub MeetsAge : ℕ → ℕ → List ℕ → List ℕ → Type 0
MeetsAge minimum maximum stimuli responses =
    (i : ℕ) → i < length responses → (0 < length stimuli) × Between minimum maximum (at stimuli (length stimuli - 1)) (at responses i)

-- §5.13: for one colour: if there is a stimulus, each of the kinds has a response, no stimulus is after a kind's first response, and any two first
-- responses are at most tolerance apart
unfoldable pub MeetsOutputSynchronization : ℕ → List ℕ → ℕ → ℕ → List Step → Type 0
MeetsOutputSynchronization stimulus kinds tolerance colour steps =
    let stimuli : List ℕ = times (stream stimulus colour) steps in
    let responses : ℕ → List ℕ = λ j. times (stream (at kinds j) colour) steps in
    (i j k : ℕ) → i < length stimuli → j < length kinds → k < length kinds
    → (0 < length (responses j)) × (at stimuli i ≤ at (responses j) 0) × (at (responses j) 0 ≤ at (responses k) 0 + tolerance)

-- §5.14: the latest of some times; times rise within a stream, so it is the last
abbrev pub latest_of : List ℕ → ℕ
latest_of ts = at ts (length ts - 1)

-- §5.14: for one colour: if there is a response, each of the kinds has a stimulus, no kind's latest stimulus is after a response, and any two latest
-- stimuli are at most tolerance apart
unfoldable pub MeetsInputSynchronization : List ℕ → ℕ → ℕ → ℕ → List Step → Type 0
MeetsInputSynchronization kinds response tolerance colour steps =
    let stimuli : ℕ → List ℕ = λ j. times (stream (at kinds j) colour) steps in
    let responses : List ℕ = times (stream response colour) steps in
    (i j k : ℕ) → i < length responses → j < length kinds → k < length kinds
    → (0 < length (stimuli j)) × (latest_of (stimuli j) ≤ at responses i) × (latest_of (stimuli j) ≤ latest_of (stimuli k) + tolerance)

-- §5.15: the number of the j-th event in its group of n events
unfoldable pub number_of : ℕ → ℕ → ℕ
number_of n zero = 0
number_of n (suc j) = cond (eqb (number_of n j + 1) n) 0 (number_of n j + 1)

-- §5.15: how much later the point of the j-th event's group is than the first point. A group follows the one before it by a period
unfoldable pub point_of : ℕ → ℕ → ℕ → ℕ
point_of n period zero = 0
point_of n period (suc j) = cond (eqb (number_of n j + 1) n) (point_of n period j + period) (point_of n period j)

-- §5.15: the place of the j-th event, counted from the start
abbrev pub place_of : ℕ → List ℕ → ℕ → ℕ
place_of period offsets j = point_of (length offsets) period j + at offsets (number_of (length offsets) j)

-- §5.15: from some start on each event is at most jitter after its place, and the next event is not overdue at the clock `now`. Consecutive events
-- are at least minimum apart, and a second group has another point
unfoldable pub MeetsPattern : ℕ → ℕ → ℕ → List ℕ → List ℕ → ℕ → Type 0
MeetsPattern period jitter minimum offsets events now =
    ((start : ℕ) × ((j : ℕ) → j < length events → Between 0 jitter (start + place_of period offsets j) (at events j))
    × (0 < length events → now ≤ start + place_of period offsets (length events) + jitter))
    × AtLeastApart minimum events × (length offsets < length events → 0 < period)

-- §5.16: for each i from 1 on what a Repeat of span i asks, with the i-th minimum as its lower and the i-th maximum as its upper
unfoldable pub MeetsArbitrary : List ℕ → List ℕ → List ℕ → ℕ → Type 0
MeetsArbitrary minima maxima events now = (i : ℕ) → i < length minima → MeetsRepeat (i + 1) (at minima i) (at maxima i) events now

-- §5.17: what the operators 1 to 5 say of two numbers: ≤, <, ≥, >, =
abbrev pub Compares : ℕ → ℕ → ℕ → Type 0
Compares operator x y =
    cond (eqb operator 1) (x ≤ y) (cond (eqb operator 2) (x < y) (cond (eqb operator 3) (y ≤ x) (cond (eqb operator 4) (y < x) (x ≡ y))))

-- §2.1, §2.2, §5.9, §5.12 to §5.17; 01, rows; CR 3: what a row asks of all events together and of the clock after them
unfoldable pub Meets : Constraint → List Step → Type 0
Meets (Delay source target lower upper) steps = MeetsDelay lower upper (times source steps) (times target steps)
Meets (StrongDelay source target lower upper) steps = MeetsStrongDelay lower upper (times source steps) (times target steps)
Meets (Repeat event span lower upper) steps = MeetsRepeat span lower upper (times event steps) (clock steps)
Meets (Sporadic event lower upper jitter minimum) steps = MeetsSporadic lower upper jitter minimum (times event steps) (clock steps)
Meets (Burst event maximum len minimum) steps = MeetsBurst maximum len minimum (times event steps)
Meets (Order source target) steps = MeetsOrder (times source steps) (times target steps)
Meets (StrongSynchronization kinds tolerance) steps = MeetsStrongSynchronization kinds tolerance steps
Meets (ExecutionTime start stop preempt resume lower upper) steps =
    MeetsExecutionTime start stop preempt resume lower upper (own (start ∷ stop ∷ preempt ∷ resume ∷ []) steps)
Meets (Reaction stimulus response minimum maximum) steps =
    (colour : ℕ) → colour ≤ last_colour → MeetsReaction minimum maximum (times (stream stimulus colour) steps) (times (stream response colour) steps)
Meets (Repetition event span lower upper jitter) steps = MeetsRepetition span lower upper jitter (times event steps)
Meets (Synchronization kinds tolerance) steps = MeetsSynchronization kinds tolerance steps
Meets (Age stimulus response minimum maximum) steps =
    (colour : ℕ) → colour ≤ last_colour → MeetsAge minimum maximum (times (stream stimulus colour) steps) (times (stream response colour) steps)
Meets (OutputSynchronization stimulus responses tolerance) steps =
    (colour : ℕ) → colour ≤ last_colour → MeetsOutputSynchronization stimulus responses tolerance colour steps
Meets (InputSynchronization stimuli response tolerance) steps =
    (colour : ℕ) → colour ≤ last_colour → MeetsInputSynchronization stimuli response tolerance colour steps
Meets (Pattern event period jitter minimum offsets) steps = MeetsPattern period jitter minimum offsets (times event steps) (clock steps)
Meets (Arbitrary event pairs) steps = MeetsArbitrary (map (λ p. p.0) pairs) (map (λ p. p.1) pairs) (times event steps) (clock steps)
Meets (Comparison operator left right) steps = Compares operator left right
