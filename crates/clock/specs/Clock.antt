-- The clock of a recording: the questions of its records and steps without 12.
use Rattle.std.specs.Prelude.{ℕ, ◌+◌, ◌<◌, ◌≤◌, ◌≡◌, List, [], ◌∷◌, ◌++◌, map, length, replicate, Result, Ok, Err}
use Rattle.constraint.specs.Limits.{stream_count}
use Rattle.constraint.specs.Steps.{Step}
use Rattle.constraint.specs.Questions.{Judged}
use Rattle.constraint.specs.Run.{step_for, questions, asks}
use Rattle.constraint.specs.Table.{length_at}
use Rattle.constraint.specs.Recording.{RecordAt, call_at, record_questions}
use Rattle.constraint.specs.Answer.{Taken, Refused}
use Rattle.constraint.specs.Answers.{refusal_number}
use Rattle.constraint.specs.declared.Call.{Call}
use Rattle.constraint.specs.declared.Refusal.{Refusal}
use Rattle.monitor.specs.Contract.{after}
use Rattle.monitor.specs.Beside.{TakesAll}
use Rattle.monitor.specs.declared.Monitor.{Monitor}
use Rattle.recording.specs.declared.CallRead.{CallRead}
use Rattle.clock.specs.declared.Clock.{Clock}

-- the clock, count, first free times and mark of the close of a monitor
abbrev pub clock_of : Monitor → Clock
clock_of m = record { time = m.clock; count = m.count; next = m.next; closed = m.closed }

-- the clock after these steps: that of a monitor over no rows, after calls that are all taken and have recorded them
pub record After (steps : List Step) (o : Clock) : Type 0 where
  pub calls : List Call
  pub all_taken_lem : TakesAll [] calls steps
  pub is : o ≡ clock_of (after [] (map asks calls))

-- the clock before any step, where all first free times are 0
abbrev pub Starts : Clock → Type 0
Starts o = After [] o × (o.next ≡ replicate stream_count 0)

-- a call: 0 where its questions but 12 are all answered "yes", and the clock after it; else the number of the first "no", and the clock as it was
pub record TakesCall (o : Clock) (call : Call) (number : ℕ) (later : Clock) : Type 0 where
  pub taken : number ≡ 0 → (steps : List Step) → After steps o
      → Judged (questions [] steps call) Taken × After (steps ++ (step_for call ∷ [])) later
  pub refused : 0 < number → (steps : List Step) → After steps o → Judged (questions [] steps call) (Refused number)
  pub as_it_was : 0 < number → later ≡ o

-- a record that is taken: 14 and its step's questions but 12 are all answered "yes"; its call, the place behind it, and the clock after it
pub record TakesRecord (bytes : List ℕ) (place : ℕ) (r : CallRead) (o later : Clock) : Type 0 where
  pub taken : (steps : List Step) → After steps o
      → Judged (record_questions [] steps bytes place) Taken × After (steps ++ (step_for r.call ∷ [])) later
  pub there : RecordAt bytes place
  pub call_is : call_at bytes place ≡ r.call
  pub next_is : (r.next ≡ place + 2 + length_at bytes place) × (r.next ≤ length bytes)

-- one that is refused: the number of the first "no", and the clock as it was
pub record RefusesRecord (bytes : List ℕ) (place number : ℕ) (o later : Clock) : Type 0 where
  pub refused : (steps : List Step) → After steps o → Judged (record_questions [] steps bytes place) (Refused number)
  pub as_it_was : later ≡ o
  pub none : ¬ RecordAt bytes place → number ≡ 14

-- the record at a place
abbrev pub ReadsNext : List ℕ → ℕ → Clock → Result CallRead Refusal → Clock → Type 0
ReadsNext bytes place o (Ok r) later = TakesRecord bytes place r o later
ReadsNext bytes place o (Err refusal) later = RefusesRecord bytes place (refusal_number refusal) o later

-- ticks from a place on, each of them taken: the place behind them and the clock then
pub data Ticks (bytes : List ℕ) : ℕ → Clock → ℕ → Clock → Type 0 where
  no_tick : {place : ℕ} {o : Clock} → Ticks bytes place o place o
  more_ticks : {place before : ℕ} {o now : Clock} (t : ℕ) (r : CallRead) (later : Clock) → Ticks bytes place o before now
      → TakesRecord bytes before r now later → r.call ≡ Call.Tick t → Ticks bytes place o r.next later
