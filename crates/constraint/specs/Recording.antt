-- The recording's format: bytes to accepted steps, or a refusal with its number and place (§7.1, §7.2, §9.4; 01, recording; CR 6).
use Rattle.std.specs.Prelude.{ℕ, ◌+◌, ◌≤◌, ◌<◌, cond, List, [], ◌∷◌, ◌++◌, length, eqb}
use Rattle.constraint.specs.Steps.{Step, at}
use Rattle.constraint.specs.Questions.{Question, Judged}
use Rattle.constraint.specs.declared.Call.{Call}
use Rattle.constraint.specs.Answer.{Taken, Refused}
use Rattle.constraint.specs.Run.{step_for, questions}
use Rattle.constraint.specs.Bytes.{number_at}
use Rattle.constraint.specs.Table.{length_at, body_at, WholeAt}
use Rattle.constraint.specs.Constraint.{Constraint}

-- §7.1, §8.19; CR 6: a recording of version 1 has no colours. Whatever byte is there, its colour reads 255, which is not a colour
abbrev pub colour_in : ℕ → ℕ → ℕ
colour_in version colour = cond (eqb version 1) 255 colour

-- §7.2; 01, recording; CR 6: the call in a record's bytes: nine bytes are an event, ten a coloured event, eight a tick
abbrev pub call_of : ℕ → List ℕ → Call
call_of version body =
    cond (eqb (length body) 9) (Call.Event (at body 0) (number_at 8 body 1))
    (cond (eqb (length body) 10) (Call.ColouredEvent (at body 0) (colour_in version (at body 1)) (number_at 8 body 2))
    (Call.Tick (number_at 8 body 0)))

-- §7.2; 01, recording: the call of the record at a place. The recording's first byte is its version
abbrev pub call_at : List ℕ → ℕ → Call
call_at bytes place = call_of (at bytes 0) (body_at bytes place)

-- §8.14; 01, questions; CR 6: the length field and the record are complete, and the length is 8, 9 or 10
abbrev pub RecordAt : List ℕ → ℕ → Type 0
RecordAt bytes place = WholeAt bytes place × (8 ≤ length_at bytes place) × (length_at bytes place ≤ 10)

-- §9.4; 01, questions: question 14, then the questions of the record's call
unfoldable pub record_questions : List Constraint → List Step → List ℕ → ℕ → List Question
record_questions rows steps bytes place = (14, RecordAt bytes place) ∷ questions rows steps (call_at bytes place)

-- §7.6; 01, report: the result of reading: the accepted steps, or the refusal's number and place
pub data RecordingRead : Type 0 where
  recording_of : List Step → RecordingRead
  recording_refused : ℕ → ℕ → RecordingRead

-- §7.1, §9.4; 01, questions: reads record by record from a place on, after the steps accepted before
pub data ReadsRecords (rows : List Constraint) (bytes : List ℕ) : List Step → ℕ → RecordingRead → Type 0 where
  no_more : {before : List Step} {place : ℕ} → length bytes ≤ place → ReadsRecords rows bytes before place (recording_of before)
  record_refused : {before : List Step} {place : ℕ} (n : ℕ) → place < length bytes → Judged (record_questions rows before bytes place) (Refused n)
      → ReadsRecords rows bytes before place (recording_refused n place)
  record_taken : {before : List Step} {place : ℕ} {read : RecordingRead} → place < length bytes
      → Judged (record_questions rows before bytes place) Taken
      → ReadsRecords rows bytes (before ++ (step_for (call_at bytes place) ∷ [])) (place + 2 + length_at bytes place) read
      → ReadsRecords rows bytes before place read

-- §8.13; 01, questions; CR 6: there is a first byte, and it is 1 or 2
abbrev pub VersionKnown : List ℕ → Type 0
VersionKnown bytes = (0 < length bytes) × (1 ≤ at bytes 0) × (at bytes 0 ≤ 2)

-- §7.1, §8.13, §9.4; 01, questions: question 13, then record by record
pub data ReadsRecording (rows : List Constraint) (bytes : List ℕ) : RecordingRead → Type 0 where
  version_refused : ¬ VersionKnown bytes → ReadsRecording rows bytes (recording_refused 13 0)
  version_taken : {read : RecordingRead} → VersionKnown bytes → ReadsRecords rows bytes [] 1 read → ReadsRecording rows bytes read

-- §12.5, §13.5, §14.5; CR 8, 11, 13: the questions of the recording and of each step except 12. There are no rows, so no row can have too many
-- waiting
abbrev pub ReadsInOrder : List ℕ → RecordingRead → Type 0
ReadsInOrder bytes read = ReadsRecording [] bytes read
