-- What taking the records of a recording on a lent monitor gives (§7.24): each record is one call, up to the first that is refused.
use Rattle.std.specs.Prelude.{ℕ, ◌+◌, ◌<◌, ◌≤◌, ◌≡◌, List, length, Result, Ok, Err}
use Rattle.constraint.specs.Questions.{Judged}
use Rattle.constraint.specs.Table.{length_at}
use Rattle.constraint.specs.Recording.{call_at, RecordAt, VersionKnown, record_questions}
use Rattle.constraint.specs.Run.{asks, Left, left_by}
use Rattle.constraint.specs.Answer.{Taken, Refused}
use Rattle.constraint.specs.Answers.{refusal_number}
use Rattle.constraint.specs.Constraint.{Constraint}
use Rattle.constraint.specs.declared.Refusal.{Refusal}
use Rattle.in_place.specs.Contract.{Takes}
use Rattle.table.specs.ReadAnswer.{ReadAnswer}
use Rattle.delkuthi.specs.Host.{Memory}
use Rattle.delkuthi.specs.Stamps.{place_number}

-- ---- on any memory

-- §7.24: the records from a place on, each as the call that it stands for: the answer is that of the first that is refused
pub data TakesFrom (bytes : List ℕ) : Memory → ℕ → ReadAnswer → Memory → Type 0 where
  all_taken_lem : {h : Memory} {place : ℕ} → length bytes ≤ place → TakesFrom bytes h place ReadAnswer.Accepted h
  not_whole : {h : Memory} {place : ℕ} → place < length bytes → ¬ RecordAt bytes place → TakesFrom bytes h place (ReadAnswer.Refused 14 place) h
  step_refused : {h : Memory} {place : ℕ} (number : ℕ) → place < length bytes → RecordAt bytes place → 0 < number → number < 256
      → Takes h (asks (call_at bytes place)) number h → TakesFrom bytes h place (ReadAnswer.Refused number place) h
  step_taken : {h mid end : Memory} {place : ℕ} {answer : ReadAnswer} → place < length bytes → RecordAt bytes place
      → Takes h (asks (call_at bytes place)) 0 mid → TakesFrom bytes mid (place + 2 + length_at bytes place) answer end
      → TakesFrom bytes h place answer end

-- §7.24: the record at a place: it is taken, and the next one stands behind it; or it is refused, and no word changes
abbrev pub TakesNext : List ℕ → ℕ → Memory → Result ℕ Refusal → Memory → Type 0
TakesNext bytes place h (Ok next) end =
    RecordAt bytes place × (next ≡ place + 2 + length_at bytes place) × Takes h (asks (call_at bytes place)) 0 end
TakesNext bytes place h (Err refusal) end =
    (end ≡ h) × (place < length bytes → TakesFrom bytes h place (ReadAnswer.Refused (refusal_number refusal) place) h)

-- §7.24, §9.4: question 13, then record by record
pub data TakesBytes (bytes : List ℕ) (h : Memory) : ReadAnswer → Memory → Type 0 where
  no_version : ¬ VersionKnown bytes → TakesBytes bytes h (ReadAnswer.Refused 13 0) h
  versioned : {answer : ReadAnswer} {end : Memory} → VersionKnown bytes → TakesFrom bytes h 1 answer end → TakesBytes bytes h answer end

-- §11.5: the number that answers: 0, or 256 times the place and the refusal's number
abbrev pub taken_number : ReadAnswer → ℕ
taken_number ReadAnswer.Accepted = 0
taken_number (ReadAnswer.Refused n place) = place_number place + n

-- §7.24: `delkuthi_take`, whatever was lent; a refusal has a number from 1 to 255
pub record NumbersTaken (h : Memory) (bytes : List ℕ) (number : ℕ) (end : Memory) : Type 0 where
  pub answer : ReadAnswer
  pub takes : TakesBytes bytes h answer end
  pub equals : number ≡ taken_number answer
  pub small : (n place : ℕ) → answer ≡ ReadAnswer.Refused n place → (0 < n) × (n < 256)

-- ---- by the definitions alone

-- §7.24: over the steps that are left, each record is asked 14 and the questions of its step; those before the first "no" are taken
pub data LeavesFrom (rows : List Constraint) (bytes : List ℕ) : Left → ℕ → ReadAnswer → Left → Type 0 where
  no_more : {left : Left} {place : ℕ} → length bytes ≤ place → LeavesFrom rows bytes left place ReadAnswer.Accepted left
  refused : {left : Left} {place : ℕ} (n : ℕ) → place < length bytes → Judged (record_questions rows left.steps bytes place) (Refused n)
      → LeavesFrom rows bytes left place (ReadAnswer.Refused n place) left
  taken : {left end : Left} {place : ℕ} {answer : ReadAnswer} → place < length bytes → Judged (record_questions rows left.steps bytes place) Taken
      → LeavesFrom rows bytes (left_by left (asks (call_at bytes place)) Taken) (place + 2 + length_at bytes place) answer end
      → LeavesFrom rows bytes left place answer end

-- §7.24, §9.4
pub data TakeLeaves (rows : List Constraint) (bytes : List ℕ) (left : Left) : ReadAnswer → Left → Type 0 where
  unknown : ¬ VersionKnown bytes → TakeLeaves rows bytes left (ReadAnswer.Refused 13 0) left
  known : {answer : ReadAnswer} {end : Left} → VersionKnown bytes → LeavesFrom rows bytes left 1 answer end → TakeLeaves rows bytes left answer end
