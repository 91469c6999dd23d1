-- What taking a recording gives: each record is put to the monitor that has taken those before it, and then the close.
use Rattle.std.specs.Prelude.{ℕ, ◌+◌, ◌<◌, List, [], ◌∷◌, ◌++◌, map}
use Rattle.constraint.specs.Steps.{Step, close}
use Rattle.constraint.specs.Questions.{Judged}
use Rattle.constraint.specs.Accepted.{Accepted}
use Rattle.constraint.specs.Table.{length_at}
use Rattle.constraint.specs.Recording.{call_at, record_questions, recording_of, recording_refused}
use Rattle.constraint.specs.Recording.{ReadsRecording}
use Rattle.constraint.specs.Answer.{Taken}
use Rattle.constraint.specs.Run.{step_for, asks}
use Rattle.constraint.specs.declared.Call.{Call}
use Rattle.constraint.specs.Constraint.{Constraint}
use Rattle.monitor.specs.Contract.{after}
use Rattle.monitor.specs.Beside.{TakesAll}
use Rattle.in_place.specs.Contract.{HoldsMonitor}
use Rattle.table.specs.ReadAnswer.{ReadAnswer}
use Rattle.delkuthi.specs.Host.{Memory, Host, none_refused}

-- the steps of the records before a place: none before the version byte and before the first record, which stands behind it
pub data StepsBefore (rows : List Constraint) (bytes : List ℕ) : ℕ → List Step → Type 0 where
  at_version : StepsBefore rows bytes 0 []
  at_first : StepsBefore rows bytes 1 []
  behind : {place : ℕ} {steps : List Step} → 0 < place → StepsBefore rows bytes place steps → Judged (record_questions rows steps bytes place) Taken
      → StepsBefore rows bytes (place + 2 + length_at bytes place) (steps ++ (step_for (call_at bytes place) ∷ []))

-- what each answer says of the recording, and which calls were taken: those of all records and the close, or those of the records before the
-- refused one
abbrev pub RecordingTakenAs : List Constraint → List ℕ → ReadAnswer → List Call → Type 0
RecordingTakenAs rows bytes ReadAnswer.Accepted calls =
    (steps : List Step) × ReadsRecording rows bytes (recording_of steps) × TakesAll rows calls (steps ++ (close ∷ []))
RecordingTakenAs rows bytes (ReadAnswer.Refused n place) calls =
    (steps : List Step) × ReadsRecording rows bytes (recording_refused n place) × StepsBefore rows bytes place steps × TakesAll rows calls steps

-- §7.22: a recording on lent memory: just those calls are made, one after the other, and so every word after them is known
pub record RecordingLeaves (rows : List Constraint) (bytes : List ℕ) (answer : ReadAnswer) (start end : Memory) : Type 0 where
  pub calls : List Call
  pub taken : RecordingTakenAs rows bytes answer calls
  pub host : Host start (map asks calls) (none_refused calls) end

-- so where a fresh monitor over an accepted table lies in the memory
abbrev pub TakesRecords : Memory → List ℕ → ReadAnswer → Memory → Type 0
TakesRecords entry bytes answer exit =
    (rows : List Constraint) → Accepted rows → HoldsMonitor entry (after rows []) → RecordingLeaves rows bytes answer entry exit
