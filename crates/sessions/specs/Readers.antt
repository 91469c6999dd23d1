-- What the exported calls that only read answer, by the rows and the steps that are left (§11.2, §15).
use Rattle.std.specs.Prelude.{ℕ, ◌≡◌, List, length}
use Rattle.std.proofs.Math.Option.{Option}
use Rattle.constraint.specs.Steps.{Step, clock, closed}
use Rattle.constraint.specs.Promise.{ReadsRow}
use Rattle.constraint.specs.Page.{Pages}
use Rattle.constraint.specs.declared.Call.{Call}
use Rattle.constraint.specs.Constraint.{Constraint}
use Rattle.constraint.specs.declared.Verdict.{Verdict}
use Rattle.row.specs.Machine.{mark}
use Rattle.monitor.specs.Contract.{step_in}
use Rattle.in_place.specs.Contract.{ReadOff}
use Rattle.delkuthi.specs.Host.{Memory}
use Rattle.delkuthi.specs.Lent.{word_of, WordOfVerdict, StepOfVerdict, NumberOfRows}
use Rattle.delkuthi.specs.Printed.{WritesPage}
use Rattle.delkuthi.specs.Reporting.{ReportsSteps, ReportsOf}
use Rattle.read_back.specs.Contract.{MonitorRowBack, RowBack}
use Rattle.queries.specs.Deadlines.{RowDeadline, LeastDeadline}
use Rattle.queries.specs.Contract.{BrokenRows, RowWaiting, CrowdedRow, AsksClock, AsksSteps, AsksClosed, AsksBrokenRows, AsksWaiting}
use Rattle.queries.specs.Contract.{AsksRowDeadline, AsksDeadline, AsksCrowdedRow, AsksCause, AsksMoment, RowCause}
use Rattle.queries.specs.Contract.{AsksOldest, AsksOldestStream, RowOldest}

-- §11.2: each of the eighteen answers what the definitions say of the rows after these steps
pub record ReadsAs (h : Memory) (rows : List Constraint) (steps : List Step) : Type 0 where
  -- §11.5: `delkuthi_row_verdict` and `delkuthi_row_step`: the word and the step of what the row reads
  pub verdicts : (i : ℕ) → (v : Option Verdict) × ReadsRow rows steps i v
      × ((word : ℕ) → ReadOff h (λ m. WordOfVerdict m i) word → word ≡ word_of v)
      × ((step : ℕ) → ReadOff h (λ m. StepOfVerdict m i) step → step ≡ step_in v)
  -- §11.5: `delkuthi_rows`
  pub counted : (number : ℕ) → ReadOff h NumberOfRows number → number ≡ length rows
  -- §9.14: `delkuthi_monitor_row`
  pub row_back : (i : ℕ) (buffer : List ℕ) (number : ℕ) (written : List ℕ) → ReadOff h (λ m answer. MonitorRowBack m i buffer answer written) number
      → RowBack rows i buffer number written
  -- §7.14: `delkuthi_page`
  pub paged : (buffer : List ℕ) (number : ℕ) (written : List ℕ) → ReadOff h (λ m answer. WritesPage m buffer answer written) number
      → Pages rows steps buffer number written
  -- §7.5: `delkuthi_report_of`
  pub reported : (buffer : List ℕ) (number : ℕ) (written : List ℕ) → ReadOff h (λ m answer. ReportsOf m buffer answer written) number
      → ReportsSteps rows steps buffer number written
  -- §15.1 to §15.3: `delkuthi_clock`, `delkuthi_steps` and `delkuthi_closed`
  pub clock_is : (time : ℕ) → ReadOff h AsksClock time → time ≡ clock steps
  pub steps_are : (number : ℕ) → ReadOff h AsksSteps number → number ≡ length steps
  pub closed_is : (number : ℕ) → ReadOff h AsksClosed number → number ≡ mark (closed steps)
  -- §15.4: `delkuthi_broken_rows`
  pub broken_rows : (mask : ℕ) → ReadOff h AsksBrokenRows mask → BrokenRows rows steps mask
  -- §15.5: `delkuthi_row_waiting`
  pub row_waiting : (i number : ℕ) → ReadOff h (λ m. AsksWaiting m i) number → RowWaiting rows steps i number
  -- §15.19: `delkuthi_row_oldest` and `delkuthi_row_oldest_stream`
  pub row_oldest : (i time stream : ℕ) → ReadOff h (λ m. AsksOldest m i) time → ReadOff h (λ m. AsksOldestStream m i) stream
      → RowOldest rows steps i time stream
  -- §15.8, §15.9: `delkuthi_row_deadline` and `delkuthi_deadline`
  pub row_deadline : (i time : ℕ) → ReadOff h (λ m. AsksRowDeadline m i) time → RowDeadline rows steps i time
  pub deadline : (time : ℕ) → ReadOff h AsksDeadline time → LeastDeadline rows steps time
  -- §15.14 to §15.16: `delkuthi_row_cause` and `delkuthi_row_moment`
  pub row_cause : (i cause moment : ℕ) → ReadOff h (λ m. AsksCause m i) cause → ReadOff h (λ m. AsksMoment m i) moment
      → RowCause rows steps i cause moment
  -- §15.11: `delkuthi_crowded_row`
  pub crowded_row : (kind time i : ℕ) → ReadOff h (λ m. AsksCrowdedRow m (Call.Event kind time)) i
      → CrowdedRow rows steps (Call.Event kind time) i
