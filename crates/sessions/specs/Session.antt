-- Lists of all the exported calls that change what a host lends, from any memory, and what is promised after them (§3.1 to §3.15, §7.22, §11.2).
use Rattle.std.specs.Prelude.{ℕ, ◌+◌, ◌*◌, ◌<◌, ◌≡◌, true, List, [], ◌∷◌, ◌++◌}
use Rattle.constraint.specs.Steps.{Step, close}
use Rattle.constraint.specs.Questions.{Judged}
use Rattle.constraint.specs.Run.{Request, withdraws, Left, none_left, request_questions, left_by}
use Rattle.constraint.specs.Table.{ReadsTableUpTo, table_of, table_refused}
use Rattle.constraint.specs.Recording.{ReadsRecording, recording_of, recording_refused}
use Rattle.constraint.specs.Report.{ReportsUpTo}
use Rattle.constraint.specs.Constraint.{Constraint}
use Rattle.in_place.specs.Contract.{answer_from, Takes}
use Rattle.fresh.specs.Fresh.{BeginsUpTo}
use Rattle.delkuthi.specs.Host.{Memory}
use Rattle.delkuthi.specs.Taking.{StepsBefore}
use Rattle.delkuthi.specs.Reporting.{ReportsOnUpTo}
use Rattle.delkuthi.specs.TakingRecords.{NumbersTaken, taken_number, TakeLeaves}
use Rattle.delkuthi.specs.WithdrawingStep.{WithdrawsStep, step_questions}
use Rattle.table.specs.ReadAnswer.{ReadAnswer}
use Rattle.sessions.specs.Monitors.{Monitors}

-- ---- the calls

-- §11.2
-- from the memory before to the memory after, each call with its arguments and its answer, known by its contract alone. `newest` is 1 for the calls
-- of the first edition and 2 for those that take both
pub data Session : Memory → Memory → Type 0 where
  none : {h : Memory} → Session h h
  -- `delkuthi_fresh`, `delkuthi_fresh_2`
  fresh : {h mid end : Memory} (newest : ℕ) (table : List ℕ) (number : ℕ) → BeginsUpTo newest table h number mid → Session mid end → Session h end
  -- `delkuthi_event`, `delkuthi_coloured_event`, `delkuthi_tick`, `delkuthi_close`, `delkuthi_withdraw`
  request : {h mid end : Memory} (r : Request) (number : ℕ) → Takes h r number mid → Session mid end → Session h end
  -- `delkuthi_report_on`, `delkuthi_report_on_2`
  report_on : {h mid end : Memory} (newest : ℕ) (table recording buffer : List ℕ) (number : ℕ) (written : List ℕ)
      → ReportsOnUpTo newest h table recording buffer number written mid → Session mid end → Session h end
  -- `delkuthi_take`
  take : {h mid end : Memory} (recording : List ℕ) (number : ℕ) → NumbersTaken h recording number mid → Session mid end → Session h end
  -- `delkuthi_withdraw_step`
  withdraw_step : {h mid end : Memory} (step number : ℕ) → WithdrawsStep h step number mid → Session mid end → Session h end

-- §3.8, §9.2: each call that is refused leaves the memory as it was; a report on it, where its table is refused; records, where the version byte
-- or the first record is refused
abbrev pub Unchanged : {h end : Memory} → Session h end → Type 0
Unchanged none = Unit {0}
Unchanged (fresh {h = h} {mid = mid} newest table number begins rest) = (0 < number → mid ≡ h) × Unchanged rest
Unchanged (request {h = h} {mid = mid} r number takes rest) = (0 < number → mid ≡ h) × Unchanged rest
Unchanged (report_on {h = h} {mid = mid} newest table recording buffer number written reports rest) =
    ((n place : ℕ) → ReadsTableUpTo newest table (table_refused n place) → mid ≡ h) × Unchanged rest
Unchanged (take {h = h} {mid = mid} recording number takes rest) = (0 < number → number < 512 → mid ≡ h) × Unchanged rest
Unchanged (withdraw_step {h = h} {mid = mid} step number answered rest) = (0 < number → mid ≡ h) × Unchanged rest

-- ---- what each call answers and leaves, by the definitions alone

-- §11.2: what is known of the memory: nothing before a table is accepted; then the rows of the last table and the steps that are left
pub data Standing : Type 0 where
  nothing : Standing
  monitor : (rows : List Constraint) (left : Left) → Standing

-- §3.12: steps that were all taken are left, and the last may be withdrawn
abbrev pub all_left : List Step → Left
all_left [] = none_left
all_left (s ∷ steps) = record { steps = s ∷ steps; may = true }

-- §11.5: a monitor made fresh
pub data FreshAnswers (newest : ℕ) (table : List ℕ) (before : Standing) : ℕ → Standing → Type 0 where
  accepted : (rows : List Constraint) → ReadsTableUpTo newest table (table_of rows) → FreshAnswers newest table before 0 (monitor rows none_left)
  refused : (n place : ℕ) → ReadsTableUpTo newest table (table_refused n place) → 0 < n → n < 256
      → FreshAnswers newest table before (place * 256 + n) before

-- §3.3, §3.13: a call or a withdrawal; of memory of which nothing is known nothing is said
pub data RequestAnswers (r : Request) : Standing → ℕ → Standing → Type 0 where
  free : (number : ℕ) → RequestAnswers r nothing number nothing
  judged : (rows : List Constraint) (left : Left) (number : ℕ) → Judged (request_questions rows left r) (answer_from number)
      → RequestAnswers r (monitor rows left) number (monitor rows (left_by left r (answer_from number)))

-- §7.22: a report: the steps of the whole recording and the close are left, or those before the record that is refused
pub data ReportLeaves (newest : ℕ) (table recording : List ℕ) (before : Standing) : Standing → Type 0 where
  no_table : (n place : ℕ) → ReadsTableUpTo newest table (table_refused n place) → ReportLeaves newest table recording before before
  no_record : (rows : List Constraint) (n place : ℕ) (steps : List Step) → ReadsTableUpTo newest table (table_of rows)
      → ReadsRecording rows recording (recording_refused n place) → StepsBefore rows recording place steps
      → ReportLeaves newest table recording before (monitor rows (all_left steps))
  all_taken_lem : (rows : List Constraint) (steps : List Step) → ReadsTableUpTo newest table (table_of rows)
      → ReadsRecording rows recording (recording_of steps)
      → ReportLeaves newest table recording before (monitor rows (all_left (steps ++ (close ∷ []))))

-- §7.24: records: the steps of all of them, or of those before the record that is refused, follow the steps that were left
pub data TakeAnswers (recording : List ℕ) : Standing → ReadAnswer → Standing → Type 0 where
  free : (answer : ReadAnswer) → TakeAnswers recording nothing answer nothing
  taken : (rows : List Constraint) (left : Left) (answer : ReadAnswer) (end : Left) → TakeLeaves rows recording left answer end
      → TakeAnswers recording (monitor rows left) answer (monitor rows end)

-- §3.17: a withdrawal of one step
pub data StepAnswers (step : ℕ) : Standing → ℕ → Standing → Type 0 where
  free : (number : ℕ) → StepAnswers step nothing number nothing
  judged : (rows : List Constraint) (left : Left) (number : ℕ) → Judged (step_questions left step) (answer_from number)
      → StepAnswers step (monitor rows left) number (monitor rows (left_by left withdraws (answer_from number)))

-- §11.2: each call of the list answers so, over what the calls before it have left
abbrev pub SessionAnswers : {h end : Memory} → Standing → Session h end → Standing → Type 0
SessionAnswers before none after = before ≡ after
SessionAnswers before (fresh newest table number begins rest) after =
    (then : Standing) × FreshAnswers newest table before number then × SessionAnswers then rest after
SessionAnswers before (request r number takes rest) after =
    (then : Standing) × RequestAnswers r before number then × SessionAnswers then rest after
SessionAnswers before (report_on newest table recording buffer number written reports rest) after =
    ReportsUpTo newest table recording buffer number written
    × (then : Standing) × ReportLeaves newest table recording before then × SessionAnswers then rest after
SessionAnswers before (take recording number takes rest) after =
    (answer : ReadAnswer) × (number ≡ taken_number answer)
    × (then : Standing) × TakeAnswers recording before answer then × SessionAnswers then rest after
SessionAnswers before (withdraw_step step number answered rest) after =
    (then : Standing) × StepAnswers step before number then × SessionAnswers then rest after

-- ---- the promise

-- where a table was accepted, all that is promised of a monitor
abbrev pub Promised : Memory → Standing → Type 0
Promised h nothing = Unit {0}
Promised h (monitor rows left) = Monitors h rows left

-- §3.6, §3.8, §3.13, §7.22, §11.2:
-- after any list of the calls, from any memory: each was answered as the definitions say over what the calls before it had
-- left, each that was refused left the memory as it was, and of the memory after the list all is promised that is promised of a monitor
pub record SessionExact {h end : Memory} (session : Session h end) : Type 0 where
  pub standing : Standing
  pub answers : SessionAnswers nothing session standing
  pub untouched : Unchanged session
  pub promised : Promised end standing
