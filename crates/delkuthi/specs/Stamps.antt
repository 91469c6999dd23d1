-- The number that answers for late stamps to a host, and its promise.
use Rattle.std.specs.Prelude.{ℕ, ◌+◌, ◌-◌, ◌*◌, ◌^◌, ◌<◌, min, ◌≡◌, List}
use Rattle.constraint.specs.Stamps.{AnswersStampsUpTo}
use Rattle.constraint.specs.Stamps.{StampedAnswer}
use Rattle.constraint.specs.declared.StampedVerdict.{StampedVerdict}

-- §12.6: 256 times the number of the word: kept and broken have those of a row's verdict (§11.5)
abbrev pub verdict_number : StampedVerdict → ℕ
verdict_number StampedVerdict.Kept = 256
verdict_number StampedVerdict.Broken = 512
verdict_number StampedVerdict.Unsure = 768

-- 256 times the place; a place past 2 ^ 56 - 1 counts as that
abbrev pub place_number : ℕ → ℕ
place_number place = min place (2 ^ 56 - 1) * 256

-- §12.6: the word's number, or 256 times the place and the refusal's number
abbrev pub stamped_number : StampedAnswer → ℕ
stamped_number (StampedAnswer.Reads v) = verdict_number v
stamped_number (StampedAnswer.Refused n place) = place_number place + n

-- the number of the answer; it tells a refusal from a word, as a refusal has a number from 1 to 255
pub record NumbersStampsUpTo (newest : ℕ) (table recording : List ℕ) (i e number : ℕ) : Type 0 where
  pub answer : StampedAnswer
  pub answers : AnswersStampsUpTo newest table recording i e answer
  pub equals : number ≡ stamped_number answer
  pub small : (n place : ℕ) → answer ≡ StampedAnswer.Refused n place → (0 < n) × (n < 256)

-- §12.6: for a table of the first edition
abbrev pub NumbersStamps : List ℕ → List ℕ → ℕ → ℕ → ℕ → Type 0
NumbersStamps = NumbersStampsUpTo 1
