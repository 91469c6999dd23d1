-- The results of the monitor by value (§3.4).
use Rattle.std.specs.Prelude.{ℕ, Bool, true, false, Option, Some, None, Result, Ok, Err}
use Rattle.constraint.specs.Answer.{Answer}
use Rattle.constraint.specs.Answers.{refusal_number}
use Rattle.constraint.specs.declared.Refusal.{Refusal}
use Rattle.constraint.specs.declared.Verdict.{Verdict}
use Rattle.monitor.specs.declared.Monitor.{Monitor}

-- §3.4: the answer to a call and the monitor after it; on a refusal the monitor as it was
pub record Stepped : Type 0 where
  pub answer : Answer
  pub monitor : Monitor

-- §3.4, §9.2: what a result says of a monitor that is asked: on an error the monitor is as it was
abbrev pub stepped_of : Monitor → Result Monitor Refusal → Stepped
stepped_of before (Ok monitor) = record { answer = Answer.Taken; monitor = monitor }
stepped_of before (Err refusal) = record { answer = Answer.Refused (refusal_number refusal); monitor = before }

-- the rows of a monitor after a step, and whether it crowds one of them
pub record RowsStepped : Type 0 where
  pub crowded : Bool
  pub monitor : Monitor

-- what an optional monitor says of one whose rows take a step: none where the step crowds one of them
abbrev pub rows_stepped_of : Monitor → Option Monitor → RowsStepped
rows_stepped_of before (Some monitor) = record { crowded = false; monitor = monitor }
rows_stepped_of before None = record { crowded = true; monitor = before }

-- §2.4 to §2.6, §8.15: the answer to the question for a row's verdict
pub data RowVerdict : Type 0 where
  Reads : Verdict → RowVerdict
  Refused : ℕ → RowVerdict

-- the answer that a result is
abbrev pub row_verdict_of : Result Verdict Refusal → RowVerdict
row_verdict_of (Ok verdict) = RowVerdict.Reads verdict
row_verdict_of (Err refusal) = RowVerdict.Refused (refusal_number refusal)
