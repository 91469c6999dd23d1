-- Stamps known within a range: what a Repeat row of span 1 reads at the close if each stamp may be late (§12.1 to §12.6; CR 13).
use Rattle.std.specs.Prelude.{ℕ, ◌+◌, ◌≤◌, ◌<◌, ◌≡◌, List, [], ◌∷◌, length}
use Rattle.std.proofs.Math.Option.{some}
use Rattle.std.proofs.Math.ListN.{get_elem?}
use Rattle.constraint.specs.Limits.{last_time}
use Rattle.constraint.specs.Steps.{Step, at, times, clock}
use Rattle.constraint.specs.Meets.{Between, MeetsRepeat}
use Rattle.constraint.specs.Questions.{Question, Judged}
use Rattle.constraint.specs.Table.{ReadsTableUpTo, table_of, table_refused}
use Rattle.constraint.specs.Recording.{ReadsInOrder, recording_of, recording_refused}
use Rattle.constraint.specs.Answer.{Answer}
use Rattle.constraint.specs.Constraint.{Constraint, Repeat}
use Rattle.constraint.specs.declared.StampedVerdict.{StampedVerdict}

-- §12.1; CR 13: a choice of true times. A stamp is the recorded time of an event. Its true time is at most e before it and not after it, and true
-- times rise strictly
pub record TrueTimes (e : ℕ) (stamps chosen : List ℕ) : Type 0 where
  pub one_each : length chosen ≡ length stamps
  pub near : (i : ℕ) → i < length stamps → Between 0 e (at chosen i) (at stamps i)
  pub rise : (i : ℕ) → i + 1 < length stamps → at chosen i < at chosen (i + 1)

-- §12.2 to §12.4; CR 13:
-- kept if every choice meets the row at the recorded clock (§5.3), broken if none does, unsure if one does and another does not
pub data ReadsStamps (e lower upper : ℕ) (stamps : List ℕ) (now : ℕ) : StampedVerdict → Type 0 where
  each_meets : ((chosen : List ℕ) → TrueTimes e stamps chosen → MeetsRepeat 1 lower upper chosen now)
      → ReadsStamps e lower upper stamps now StampedVerdict.Kept
  none_meets : ((chosen : List ℕ) → TrueTimes e stamps chosen → ¬ MeetsRepeat 1 lower upper chosen now)
      → ReadsStamps e lower upper stamps now StampedVerdict.Broken
  both_occur : (one other : List ℕ) → TrueTimes e stamps one → MeetsRepeat 1 lower upper one now
      → TrueTimes e stamps other → ¬ MeetsRepeat 1 lower upper other now → ReadsStamps e lower upper stamps now StampedVerdict.Unsure

-- §8.25, §12.5; CR 13: row i is a Repeat of span 1 with these fields
abbrev pub RepeatRow : List Constraint → ℕ → ℕ → ℕ → ℕ → Type 0
RepeatRow rows i k lower upper = get_elem? rows i ≡ some (Repeat k 1 lower upper)

-- §8.25, §12.5; CR 13: the questions after those of the table and the recording: 15 (§8.15), 25, and 10 for e (§8.10)
abbrev pub stamps_questions : List Constraint → ℕ → ℕ → List Question
stamps_questions rows i e =
    (15, i < length rows) ∷ (25, (k : ℕ) × ((lower : ℕ) × ((upper : ℕ) × RepeatRow rows i k lower upper))) ∷ (10, e ≤ last_time) ∷ []

-- §12.5, §12.6; CR 13: what the row reads, or a refusal with its number and place
pub data StampedAnswer : Type 0 where
  Reads : StampedVerdict → StampedAnswer
  Refused : ℕ → ℕ → StampedAnswer

-- §12.5, §12.6, §16.3; CR 13: the answer for row i of a table, a recording and an e. Refusals 15, 25 and 10 have the place 0
pub data AnswersStampsUpTo (newest : ℕ) (table recording : List ℕ) (i e : ℕ) : StampedAnswer → Type 0 where
  no_table : (n place : ℕ) → ReadsTableUpTo newest table (table_refused n place)
      → AnswersStampsUpTo newest table recording i e (StampedAnswer.Refused n place)
  no_recording : (rows : List Constraint) (n place : ℕ) → ReadsTableUpTo newest table (table_of rows)
      → ReadsInOrder recording (recording_refused n place) → AnswersStampsUpTo newest table recording i e (StampedAnswer.Refused n place)
  not_asked : (rows : List Constraint) (steps : List Step) (n : ℕ) → ReadsTableUpTo newest table (table_of rows)
      → ReadsInOrder recording (recording_of steps) → Judged (stamps_questions rows i e) (Answer.Refused n)
      → AnswersStampsUpTo newest table recording i e (StampedAnswer.Refused n 0)
  reads : (rows : List Constraint) (steps : List Step) (k lower upper : ℕ) (v : StampedVerdict) → ReadsTableUpTo newest table (table_of rows)
      → ReadsInOrder recording (recording_of steps) → RepeatRow rows i k lower upper → e ≤ last_time
      → ReadsStamps e lower upper (times k steps) (clock steps) v → AnswersStampsUpTo newest table recording i e (StampedAnswer.Reads v)

-- §12.5, §12.6; CR 13: the answer for a table of the first edition
abbrev pub AnswersStamps : List ℕ → List ℕ → ℕ → ℕ → StampedAnswer → Type 0
AnswersStamps = AnswersStampsUpTo 1
