-- What the monitor's functions promise, in the buyer's words: over every accepted table and every list of calls and withdrawals.
use Rattle.std.specs.Prelude.{ℕ, ◌≡◌, List, [], ◌∷◌, ◌++◌, Result, Ok, Err}
use Rattle.std.proofs.Math.Option.{Option, none, some}
use Rattle.constraint.specs.Questions.{Judged}
use Rattle.constraint.specs.Accepted.{rows_questions, Accepted}
use Rattle.constraint.specs.Run.{Request, asks, withdraws, Left, none_left, request_questions, Run}
use Rattle.constraint.specs.Promise.{Outcome, ReadsRow, play}
use Rattle.constraint.specs.Answer.{Answer}
use Rattle.constraint.specs.Answer.{Taken, Refused}
use Rattle.constraint.specs.Constraint.{Constraint}
use Rattle.constraint.specs.declared.Refusal.{Refusal}
use Rattle.constraint.specs.declared.Verdict.{Verdict}
use Rattle.table_row.specs.Tables.{rows_of}
use Rattle.table_row.specs.declared.Table.{Table}
use Rattle.monitor.specs.Machine.{monitor_of, step_of, withdraw_of, verdict_of}
use Rattle.monitor.specs.declared.Monitor.{Monitor}
use Rattle.monitor.specs.Stepped.{RowVerdict}
use Rattle.monitor.specs.Stepped.{Stepped}

-- what the machine gives for a request
abbrev pub result_of : Monitor → Request → Stepped
result_of m (asks s) = step_of m s
result_of m withdraws = withdraw_of m

-- §3.4: a request, and the monitor that it is put to
abbrev pub step : Monitor → Request → Outcome Monitor
step m r = record { answer = (result_of m r).answer; monitor = (result_of m r).monitor }

-- §3.4, §3.13: the monitor after a list of requests, from a fresh one over the rows
unfoldable pub after : List Constraint → List Request → Monitor
after rows requests = (play step (monitor_of rows) requests).monitor

-- the list of requests has left these steps
abbrev pub Remains : List Constraint → List Request → Left → Type 0
Remains rows requests left = (answers : List Answer) × Run rows none_left requests answers left

-- ---- the contracts

-- §9.7: a fresh monitor, its rows asked 3 to 7 in an edition; over an accepted table the monitor before any call, and on a refusal the one over no
-- rows
pub record FreshlyIn (edition : ℕ) (table : Table) (answer : Answer) (m : Monitor) : Type 0 where
  pub judged : Judged (rows_questions edition 0 (rows_of table) []) answer
  pub made : answer ≡ Taken → m ≡ after (rows_of table) []
  pub refused : (n : ℕ) → answer ≡ Refused n → m ≡ after [] []

-- §9.7: the monitor over a table that a result says: on an error the one over no rows
abbrev pub made_of : Result Monitor Refusal → Monitor
made_of (Ok monitor) = monitor
made_of (Err refusal) = after [] []

-- §3.6, §9.7: in the first edition
abbrev pub Freshly : Table → Answer → Monitor → Type 0
Freshly = FreshlyIn 1

-- §3.6, §3.13, §11.2
-- a request: the answer that its questions give over what the requests have left, and the monitor after the longer list of requests
pub record Steps (m : Monitor) (r : Request) (result : Stepped) : Type 0 where
  pub equals : result ≡ result_of m r
  pub means : (rows : List Constraint) (requests : List Request) → Accepted rows → m ≡ after rows requests
      → ((left : Left) × Remains rows requests left × Judged (request_questions rows left r) result.answer)
      × (result.monitor ≡ after rows (requests ++ (r ∷ [])))

-- §3.5, §3.6, §3.13: the verdict of a row number: what the row reads after the steps that the requests have left, or none where there is no such row
pub record Reading (m : Monitor) (i : ℕ) (verdict : Option Verdict) : Type 0 where
  pub equals : verdict ≡ verdict_of m i
  pub means : (rows : List Constraint) (requests : List Request) → Accepted rows → m ≡ after rows requests
      → (left : Left) × Remains rows requests left × ReadsRow rows left.steps i verdict

-- the verdict in an answer: none in a refusal
abbrev pub verdict_in : RowVerdict → Option Verdict
verdict_in (RowVerdict.Reads v) = some v
verdict_in (RowVerdict.Refused n) = none

-- §3.6, §8.15, §9.6: a row that is not there is refused with 15
pub record VerdictOf (m : Monitor) (i : ℕ) (answer : RowVerdict) : Type 0 where
  pub reads : Reading m i (verdict_in answer)
  pub number : (n : ℕ) → answer ≡ RowVerdict.Refused n → n ≡ 15

-- the step in a verdict: 0 where it is another verdict, or none
abbrev pub step_in : Option Verdict → ℕ
step_in none = 0
step_in (some Verdict.Open) = 0
step_in (some Verdict.Kept) = 0
step_in (some (Verdict.Broken n)) = n
