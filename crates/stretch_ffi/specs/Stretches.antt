-- The number that answers for the shortest stretch to a host, and its promise.
use Rattle.std.specs.Prelude.{ℕ, ◌+◌, ◌*◌, ◌/◌, ◌%◌, ◌^◌, ◌<◌, ◌≡◌, List}
use Rattle.constraint.specs.Stretches.{AnswersStretchUpTo}
use Rattle.constraint.specs.Answer.{Answer}
use Rattle.constraint.specs.Stretches.{StretchAnswer}
use Rattle.delkuthi.specs.Decoded.{number_in, told_of, Decodes}
use Rattle.delkuthi.specs.Stamps.{place_number}

-- §14.6: the first record's number times 2 ^ 8, the length times 2 ^ 16 and the number tried times 2 ^ 32; or 256 times the place and the
-- refusal's number
abbrev pub stretch_number : StretchAnswer → ℕ
stretch_number (StretchAnswer.Found first size tried) = first * 256 + size * 65536 + tried * 4294967296
stretch_number (StretchAnswer.Refused n place) = place_number place + n

-- the number of the answer; it tells a refusal, whose number is from 1 to 255, from a stretch, and what is said of a stretch
pub record NumbersStretchUpTo (newest : ℕ) (table recording : List ℕ) (i number : ℕ) : Type 0 where
  pub answer : StretchAnswer
  pub answers : AnswersStretchUpTo newest table recording i answer
  pub equals : number ≡ stretch_number answer
  pub small : (n place : ℕ) → answer ≡ StretchAnswer.Refused n place → (0 < n) × (n < 256)
  pub parts : (first size tried : ℕ) → answer ≡ StretchAnswer.Found first size tried → (first < 2 ^ 8) × (size < 2 ^ 16) × (tried < 2 ^ 32)

-- ---- what a host reads off it

-- §14.6: DELKUTHI_STRETCH_FIRST, DELKUTHI_STRETCH_LENGTH and DELKUTHI_STRETCH_TRIED: bits 8 to 15, bits 16 to 31, and the bits from bit 32 on
abbrev pub first_in : ℕ → ℕ
first_in word = word / 256 % 256

abbrev pub size_in : ℕ → ℕ
size_in word = word / 65536 % 65536

abbrev pub tried_in : ℕ → ℕ
tried_in word = word / 4294967296

-- §14.6: the word says the stretch, and that there is one; or the number and the place of the refusal
abbrev pub DecodesStretch : ℕ → StretchAnswer → Type 0
DecodesStretch word (StretchAnswer.Found first size tried) =
    (number_in word ≡ 0) × (first_in word ≡ first) × (size_in word ≡ size) × (tried_in word ≡ tried)
DecodesStretch word (StretchAnswer.Refused n place) = Decodes word (Answer.Refused n) (told_of place)

-- ---- the editions

-- §14.6: for a table of the first edition
abbrev pub NumbersStretch : List ℕ → List ℕ → ℕ → ℕ → Type 0
NumbersStretch = NumbersStretchUpTo 1
