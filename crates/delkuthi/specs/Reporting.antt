-- What the report on a lent monitor promises: the bytes of the report, and the monitor that has taken the recording.
use Rattle.std.specs.Prelude.{ℕ, ◌≡◌, true, false, cond, List, [], length, ltb}
use Rattle.constraint.specs.Steps.{Step, closed}
use Rattle.constraint.specs.Accepted.{Accepted}
use Rattle.constraint.specs.Run.{Request, Left}
use Rattle.constraint.specs.Report.{closed_text, EachReads, ReportsUpTo}
use Rattle.constraint.specs.Table.{ReadsTableUpTo, table_of, table_refused}
use Rattle.constraint.specs.Constraint.{Constraint}
use Rattle.constraint.specs.declared.Verdict.{Verdict}
use Rattle.text.specs.Content.{Copied}
use Rattle.monitor.specs.Contract.{after, Remains}
use Rattle.monitor.specs.declared.Monitor.{Monitor}
use Rattle.in_place.specs.Layout.{Words, words_of_lent}
use Rattle.fresh.specs.Fresh.{BeginsUpTo, fresh_lent}
use Rattle.table.specs.ReadAnswer.{ReadAnswer}
use Rattle.delkuthi.specs.Summary.{summary_of, report_text}
use Rattle.delkuthi.specs.Taking.{RecordingLeaves}

-- §7.22: the answer to a table and a recording, and every word of the lent monitor then: the table's refusal, and all as it was; or the recording's
-- answer, and what its calls leave of the monitor that is fresh over the table, as `delkuthi_fresh` makes it
pub data LeftBy (newest : ℕ) (before : Words) (table recording : List ℕ) : ReadAnswer → Words → Type 0 where
  unused : (n place : ℕ) → ReadsTableUpTo newest table (table_refused n place)
      → LeftBy newest before table recording (ReadAnswer.Refused n place) before
  used : (rows : List Constraint) (answer : ReadAnswer) (after : Words) → ReadsTableUpTo newest table (table_of rows)
      → BeginsUpTo newest table before 0 (words_of_lent (fresh_lent rows))
      → RecordingLeaves rows recording answer (words_of_lent (fresh_lent rows)) after
      → LeftBy newest before table recording answer after

-- §7.22: the number and the buffer are the report's, whatever lay in the monitor; and the monitor has been used, however short the buffer is
pub record ReportsOnUpTo (newest : ℕ) (before : Words) (table recording buffer : List ℕ) (number : ℕ) (written : List ℕ) (after : Words)
    : Type 0 where
  pub reports : ReportsUpTo newest table recording buffer number written
  pub answer : ReadAnswer
  pub left_by : LeftBy newest before table recording answer after

-- §7.22: for a table of the first edition
abbrev pub ReportsOn : Words → List ℕ → List ℕ → List ℕ → ℕ → List ℕ → Words → Type 0
ReportsOn = ReportsOnUpTo 1

-- ---- of a monitor that was stepped call by call

-- §7.23
-- the bytes that a recording of the same steps is reported in, once these are closed: a count of them and what each row reads; before the close
-- nothing is written
pub data ReportsSteps (rows : List Constraint) (steps : List Step) (before : List ℕ) : ℕ → List ℕ → Type 0 where
  unclosed : closed steps ≡ false → ReportsSteps rows steps before 0 before
  reported : {answer : ℕ} {written : List ℕ} (verdicts : List Verdict) → closed steps ≡ true → EachReads steps rows verdicts
      → Copied (closed_text (length steps) verdicts) before answer written → ReportsSteps rows steps before answer written

-- §7.4: the bytes of the report of any monitor: none before its close
abbrev pub reported_of : Monitor → List ℕ
reported_of m = cond (ltb 0 m.closed) (report_text ReadAnswer.Accepted (summary_of m)) []

-- §7.4, §7.8, §7.23: the report of a monitor: of one that requests have made, that of the steps that they have left
pub record ReportsOf (m : Monitor) (before : List ℕ) (answer : ℕ) (written : List ℕ) : Type 0 where
  pub equals : Copied (reported_of m) before answer written
  pub means : (rows : List Constraint) (requests : List Request) → Accepted rows → m ≡ after rows requests
      → (left : Left) × Remains rows requests left × ReportsSteps rows left.steps before answer written
