-- What a host is promised of each number that it asks a monitor for (§15).
use Rattle.std.specs.Prelude.{ℕ, zero, suc, ◌/◌, ◌%◌, ◌^◌, ◌<◌, ◌≡◌, true, false, List, [], ◌∷◌, ◌++◌, ◌⊎◌, length, ltb, Option, Some, None}
use Rattle.std.proofs.Math.Option.{none, some}
use Rattle.std.proofs.Math.ListN.{get_elem?}
use Rattle.constraint.specs.Limits.{no_limit, row_limit, waiting_limit}
use Rattle.constraint.specs.Steps.{Step, clock, closed}
use Rattle.constraint.specs.Continuation.{BrokenAt, Open}
use Rattle.constraint.specs.Waiting.{waiting}
use Rattle.constraint.specs.Questions.{Judged}
use Rattle.constraint.specs.Accepted.{Accepted}
use Rattle.constraint.specs.Run.{step_for, questions, Request, Left}
use Rattle.queries.specs.Deadlines.{RowDeadline, LeastDeadline}
use Rattle.queries.specs.Oldest.{no_stream, oldest, oldest_stream}
use Rattle.constraint.specs.Answer.{Refused}
use Rattle.constraint.specs.declared.Call.{Call}
use Rattle.constraint.specs.Constraint.{Constraint}
use Rattle.row.specs.Cause.{Cause}
use Rattle.row.specs.Machine.{mark}
use Rattle.monitor.specs.Contract.{after, Remains}
use Rattle.monitor.specs.declared.Monitor.{Monitor}
use Rattle.in_place.specs.Contract.{HoldsMonitor}
use Rattle.in_place.specs.Layout.{Words}
use Rattle.queries.specs.Numbers.{there}
use Rattle.queries.specs.Numbers.{cause_of, moment_of, deadline_of, least_of, waiting_of, broken_rows_of, crowded_row_of}
use Rattle.queries.specs.Numbers.{oldest_of, oldest_stream_of}

-- §15.4: bit i of a number
unfoldable pub bit : ℕ → ℕ → ℕ
bit n zero = n % 2
bit n (suc i) = bit (n / 2) i

-- §15.4: bit i is 1 exactly where row i reads broken
pub record BrokenRows (rows : List Constraint) (steps : List Step) (mask : ℕ) : Type 0 where
  pub small : mask < 2 ^ 32
  pub broken : (i : ℕ) → i < row_limit → bit mask i ≡ 1 → (c : Constraint) × (get_elem? rows i ≡ some c) × (¬ Open c steps)
  pub marked : (i : ℕ) (c : Constraint) → get_elem? rows i ≡ some c → ¬ Open c steps → bit mask i ≡ 1

-- §15.5: how many wait in a row that reads open; 0 of any other, and where there is no such row
pub data RowWaiting (rows : List Constraint) (steps : List Step) (i : ℕ) : ℕ → Type 0 where
  open_row : (c : Constraint) → get_elem? rows i ≡ some c → closed steps ≡ false → Open c steps → RowWaiting rows steps i (waiting c steps)
  other_row : (c : Constraint) → get_elem? rows i ≡ some c → (closed steps ≡ true) ⊎ (¬ Open c steps) → RowWaiting rows steps i 0
  no_row_lem : get_elem? rows i ≡ none → RowWaiting rows steps i 0

-- §15.18, §15.19: the time and the stream of the oldest that waits in a row that reads open; none of any other, and where there is no such row
pub data RowOldest (rows : List Constraint) (steps : List Step) (i : ℕ) : ℕ → ℕ → Type 0 where
  open_oldest : (c : Constraint) → get_elem? rows i ≡ some c → closed steps ≡ false → Open c steps
      → RowOldest rows steps i (oldest c steps) (oldest_stream c steps)
  other_oldest : (c : Constraint) → get_elem? rows i ≡ some c → (closed steps ≡ true) ⊎ (¬ Open c steps) → RowOldest rows steps i no_limit no_stream
  no_oldest : get_elem? rows i ≡ none → RowOldest rows steps i no_limit no_stream

-- §15.14, §15.15: the cause and the moment of a row that reads broken; none of any other, and where there is no such row
pub data RowCause (rows : List Constraint) (steps : List Step) (i : ℕ) : ℕ → ℕ → Type 0 where
  broken_row : (c : Constraint) (n : ℕ) {cause moment : ℕ} → get_elem? rows i ≡ some c → BrokenAt c steps n → Cause c steps n cause moment
      → RowCause rows steps i cause moment
  unbroken_row : (c : Constraint) → get_elem? rows i ≡ some c → Open c steps → RowCause rows steps i 0 no_limit
  missing_row : get_elem? rows i ≡ none → RowCause rows steps i 0 no_limit

-- §15.11: the call would leave the row open with more than 64 waiting (§8.12)
abbrev pub Crowds : List Step → Call → Constraint → Type 0
Crowds steps call c = Open c (steps ++ (step_for call ∷ [])) × (waiting_limit < waiting c (steps ++ (step_for call ∷ [])))

-- §8.12, §15.11: the first row that a call would crowd, where it is refused with 12; 32 where it is not
pub data CrowdedRow (rows : List Constraint) (steps : List Step) (call : Call) : ℕ → Type 0 where
  crowded : (i : ℕ) (c : Constraint) → Judged (questions rows steps call) (Refused 12) → get_elem? rows i ≡ some c → Crowds steps call c
      → ((j : ℕ) (d : Constraint) → j < i → get_elem? rows j ≡ some d → ¬ Crowds steps call d) → CrowdedRow rows steps call i
  none_crowded : ¬ Judged (questions rows steps call) (Refused 12) → CrowdedRow rows steps call row_limit

-- the place of a row that is there is its number
abbrev pub PlaceOf : Words → ℕ → Option ℕ → Type 0
PlaceOf words row (Some i) = (i ≡ row) × (i < row_limit) × ((m : Monitor) → HoldsMonitor words m → there row m.len ≡ true)
PlaceOf words row None = (m : Monitor) → HoldsMonitor words m → there row m.len ≡ false

-- ---- the contracts

-- an answer: the number that is read off the monitor, and what it says of the rows and of the steps that the requests have left
pub record QueryAnswer (m : Monitor) (number : ℕ) (Says : List Constraint → List Step → ℕ → Type 0) (answer : ℕ) : Type 0 where
  pub equals : answer ≡ number
  pub means : (rows : List Constraint) (requests : List Request) → Accepted rows → m ≡ after rows requests
      → (left : Left) × Remains rows requests left × Says rows left.steps answer

-- §15.1: the clock
abbrev pub AsksClock : Monitor → ℕ → Type 0
AsksClock m = QueryAnswer m m.clock (λ rows steps n. n ≡ clock steps)

-- §15.2: how many steps were taken, the close included
abbrev pub AsksSteps : Monitor → ℕ → Type 0
AsksSteps m = QueryAnswer m m.count (λ rows steps n. n ≡ length steps)

-- §15.3: 1 once the recording is closed, else 0
abbrev pub AsksClosed : Monitor → ℕ → Type 0
AsksClosed m = QueryAnswer m (mark (ltb 0 m.closed)) (λ rows steps n. n ≡ mark (closed steps))

abbrev pub AsksBrokenRows : Monitor → ℕ → Type 0
AsksBrokenRows m = QueryAnswer m (broken_rows_of m) BrokenRows

abbrev pub AsksWaiting : Monitor → ℕ → ℕ → Type 0
AsksWaiting m i = QueryAnswer m (waiting_of m i) (λ rows steps. RowWaiting rows steps i)

-- §15.19: the time, with the stream that the other call answers; and the stream, with the time
abbrev pub AsksOldest : Monitor → ℕ → ℕ → Type 0
AsksOldest m i = QueryAnswer m (oldest_of m i) (λ rows steps time. RowOldest rows steps i time (oldest_stream_of m i))

abbrev pub AsksOldestStream : Monitor → ℕ → ℕ → Type 0
AsksOldestStream m i = QueryAnswer m (oldest_stream_of m i) (λ rows steps stream. RowOldest rows steps i (oldest_of m i) stream)

-- §15.16: the cause, with the moment that the other call answers; and the moment, with the cause
abbrev pub AsksCause : Monitor → ℕ → ℕ → Type 0
AsksCause m i = QueryAnswer m (cause_of m i) (λ rows steps cause. RowCause rows steps i cause (moment_of m i))

abbrev pub AsksMoment : Monitor → ℕ → ℕ → Type 0
AsksMoment m i = QueryAnswer m (moment_of m i) (λ rows steps moment. RowCause rows steps i (cause_of m i) moment)

abbrev pub AsksRowDeadline : Monitor → ℕ → ℕ → Type 0
AsksRowDeadline m i = QueryAnswer m (deadline_of m i) (λ rows steps. RowDeadline rows steps i)

abbrev pub AsksDeadline : Monitor → ℕ → Type 0
AsksDeadline m = QueryAnswer m (least_of m row_limit) LeastDeadline

abbrev pub AsksCrowdedRow : Monitor → Call → ℕ → Type 0
AsksCrowdedRow m call = QueryAnswer m (crowded_row_of m call) (λ rows steps. CrowdedRow rows steps call)
