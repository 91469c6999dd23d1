-- The shortest stretch of consecutive records that breaks a row (§14.1 to §14.7; CR 11).
use Rattle.std.specs.Prelude.{ℕ, zero, suc, ◌+◌, ◌-◌, ◌≤◌, ◌<◌, ◌≡◌, List, [], ◌∷◌, ◌++◌, ◌⊎◌, length, take, drop}
use Rattle.std.proofs.Math.Option.{some}
use Rattle.std.proofs.Math.ListN.{get_elem?}
use Rattle.constraint.specs.Steps.{Step}
use Rattle.constraint.specs.Continuation.{Open}
use Rattle.constraint.specs.Questions.{Question, Judged}
use Rattle.constraint.specs.Run.{step_for, questions}
use Rattle.constraint.specs.Table.{ReadsTableUpTo, table_of, table_refused}
use Rattle.constraint.specs.Recording.{ReadsInOrder, recording_of, recording_refused}
use Rattle.constraint.specs.Answer.{Answer}
use Rattle.constraint.specs.declared.Call.{Call}
use Rattle.constraint.specs.Constraint.{Constraint}

-- §14.1; CR 11: a stretch of consecutive records: the number of its first record, from 0, and its length
pub record Stretch : Type 0 where
  pub first : ℕ
  pub size : ℕ

-- §14.1; CR 11: the stretch of a first record and a length
abbrev pub stretch_of : ℕ → ℕ → Stretch
stretch_of first size = record { first = first; size = size }

-- §14.2; CR 11: a fresh monitor over the rows takes each of these records: all its questions are answered "yes" after the records before it (§9.5)
pub data TakesEach (rows : List Constraint) : List Step → Type 0 where
  takes_none : TakesEach rows []
  takes_more : {records : List Step} (s : Call) → TakesEach rows records → Judged (questions rows records s) Answer.Taken
      → TakesEach rows (records ++ (step_for s ∷ []))

-- §14.2; CR 11: the records break the row: a monitor over this row alone takes every record, and then no continuation is left
abbrev pub Breaks : Constraint → List Step → Type 0
Breaks c records = TakesEach (c ∷ []) records × (¬ Open c records)

-- §14.3; CR 11: the next `left` stretches of one length, from a start on
unfoldable pub starts : ℕ → ℕ → ℕ → List Stretch
starts zero first size = []
starts (suc left) first size = stretch_of first size ∷ starts left (first + 1) size

-- §14.3; CR 11: for the next `left` lengths, from a length on, all stretches of n records that have that length
unfoldable pub sizes : ℕ → ℕ → ℕ → List Stretch
sizes zero n size = []
sizes (suc left) n size = starts (n + 1 - size) 0 size ++ sizes left n (size + 1)

-- §14.3; CR 11: all stretches of n records, ordered by length and then by start
abbrev pub stretches : ℕ → List Stretch
stretches n = sizes n n 1

-- §14.4; CR 11: a stretch of the list has the property
abbrev pub Some : (Stretch → Type 0) → List Stretch → Type 0
Some P [] = ⊥
Some P (s ∷ later) = P s ⊎ Some P later

-- §14.4; CR 11: s is the first stretch of the list that has the property, and this is its place, counted from 1
pub record FirstAt (P : Stretch → Type 0) (list : List Stretch) (s : Stretch) (place : ℕ) : Type 0 where
  pub before : List Stretch
  pub later : List Stretch
  pub in_order : list ≡ before ++ (s ∷ later)
  pub placed : place ≡ length before + 1
  pub has : P s
  pub none_before : ¬ Some P before

-- §14.2, §14.4; CR 11: the records of the stretch break the row
abbrev pub Breaking : Constraint → List Step → Stretch → Type 0
Breaking c steps s = Breaks c (take s.size (drop s.first steps))

-- §14.1; CR 11: the largest number of records in a recording
abbrev pub record_limit : ℕ
record_limit = 256

-- §8.22, §8.23, §14.5; CR 11: the questions after those of the table and the recording: 22, 15 (§8.15) and 23
abbrev pub stretch_questions : List Constraint → List Step → ℕ → List Question
stretch_questions rows steps i =
    (22, length steps ≤ record_limit) ∷ (15, i < length rows)
    ∷ (23, (c : Constraint) × (get_elem? rows i ≡ some c) × Some (Breaking c steps) (stretches (length steps))) ∷ []

-- §14.5; CR 11: a stretch, by its first record and its length, and how many were tried; or a refusal with its number and place
pub data StretchAnswer : Type 0 where
  Found : ℕ → ℕ → ℕ → StretchAnswer
  Refused : ℕ → ℕ → StretchAnswer

-- §14.4, §14.5; CR 11: the answer for row i after the steps of a recording. Refusals 22, 15 and 23 have the place 0
pub data AnswersRow (rows : List Constraint) (steps : List Step) (i : ℕ) : StretchAnswer → Type 0 where
  no_stretch : (n : ℕ) → Judged (stretch_questions rows steps i) (Answer.Refused n) → AnswersRow rows steps i (StretchAnswer.Refused n 0)
  found : (c : Constraint) (first size tried : ℕ) → Judged (stretch_questions rows steps i) Answer.Taken → get_elem? rows i ≡ some c
      → FirstAt (Breaking c steps) (stretches (length steps)) (stretch_of first size) tried
      → AnswersRow rows steps i (StretchAnswer.Found first size tried)

-- §14.5, §16.3; CR 11: the answer for a table and a recording, whose own questions come first
pub data AnswersStretchUpTo (newest : ℕ) (table recording : List ℕ) (i : ℕ) : StretchAnswer → Type 0 where
  no_table : (n place : ℕ) → ReadsTableUpTo newest table (table_refused n place)
      → AnswersStretchUpTo newest table recording i (StretchAnswer.Refused n place)
  no_recording : (rows : List Constraint) (n place : ℕ) → ReadsTableUpTo newest table (table_of rows)
      → ReadsInOrder recording (recording_refused n place) → AnswersStretchUpTo newest table recording i (StretchAnswer.Refused n place)
  answers : (rows : List Constraint) (steps : List Step) {answer : StretchAnswer} → ReadsTableUpTo newest table (table_of rows)
      → ReadsInOrder recording (recording_of steps) → AnswersRow rows steps i answer → AnswersStretchUpTo newest table recording i answer

-- §14.5; CR 11: the answer for a table of the first edition
abbrev pub AnswersStretch : List ℕ → List ℕ → ℕ → StretchAnswer → Type 0
AnswersStretch = AnswersStretchUpTo 1
