-- The number that answers a join to a host, and its promise.
use Rattle.std.specs.Prelude.{ℕ, ◌+◌, ◌<◌, ◌≤◌, ◌≡◌, List, [], ◌∷◌, length}
use Rattle.constraint.specs.Steps.{Step}
use Rattle.constraint.specs.Questions.{Question, Judged}
use Rattle.constraint.specs.Recording.{ReadsInOrder, recording_of}
use Rattle.constraint.specs.Joined.{joined_bytes, NoneInCommon, AnswersJoin}
use Rattle.constraint.specs.Answer.{Answer}
use Rattle.constraint.specs.Answer.{Taken, Refused}
use Rattle.constraint.specs.Joined.{JoinAnswer}
use Rattle.delkuthi.specs.Stamps.{place_number}

-- §13.5: the refusal in an answer; a buffer that is too short is 16
abbrev pub join_refusal : JoinAnswer → Answer
join_refusal (JoinAnswer.Joined length) = Taken
join_refusal (JoinAnswer.FirstRefused n place) = Refused n
join_refusal (JoinAnswer.SecondRefused n place) = Refused n
join_refusal JoinAnswer.TooShort = Refused 16

-- §13.5: what is asked of two recordings that are read: 20, and last 16
abbrev pub join_questions : List ℕ → List ℕ → List ℕ → List Step → List Step → List Question
join_questions one two buffer first second = (20, NoneInCommon first second) ∷ (16, length (joined_bytes one two first second) ≤ length buffer) ∷ []

-- §13.8: 256 times the number of bytes; or 256 times the place and the refusal's number, and 128 more where the second is refused
abbrev pub join_number : JoinAnswer → ℕ
join_number (JoinAnswer.Joined length) = place_number length
join_number (JoinAnswer.FirstRefused n place) = place_number place + n
join_number (JoinAnswer.SecondRefused n place) = place_number place + n + 128
join_number JoinAnswer.TooShort = 16

-- §13.8: the number of the answer, which is that of the questions. It tells a refusal from a length, and which is refused, as a refusal has a number
-- from 1 to 127
pub record NumbersJoin (one two before : List ℕ) (number : ℕ) (after : List ℕ) : Type 0 where
  pub answer : JoinAnswer
  pub answers : AnswersJoin one two before answer after
  pub asked : (first second : List Step) → ReadsInOrder one (recording_of first) → ReadsInOrder two (recording_of second)
      → Judged (join_questions one two before first second) (join_refusal answer)
  pub equals : number ≡ join_number answer
  pub small : (n : ℕ) → join_refusal answer ≡ Refused n → (0 < n) × (n < 128)
