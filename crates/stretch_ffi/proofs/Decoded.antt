-- The answer for a stretch says by the header's macros the stretch or the refusal: each part has its own bits.
use Rattle.constraint.proofs.Library.{List, ◌<◌, ◌≡◌, arith, refl, ℕ}
use Rattle.constraint.specs.Stretches.{AnswersStretchUpTo}
use Rattle.constraint.specs.Stretches.{StretchAnswer}
use Rattle.delkuthi.proofs.Decoded.{word_refused}
use Rattle.delkuthi.specs.Decoded.{told_of}
use Rattle.stretch_ffi.proofs.StretchNumbers.{stretch_short}
use Rattle.stretch_ffi.specs.Stretches.{DecodesStretch, NumbersStretchUpTo, stretch_number}

-- §14.6: the answer of `delkuthi_shortest_stretch` says the stretch, or the number and the place of the refusal
pub stretch_decoded : {newest : ℕ} {table recording : List ℕ} {i word : ℕ} (numbers : NumbersStretchUpTo newest table recording i word)
    → DecodesStretch word numbers.answer
stretch_decoded {newest} {table} {recording} {i} {word} numbers = go numbers.answer numbers.answers numbers.equals numbers.parts
  where
    go : (answer : StretchAnswer) → AnswersStretchUpTo newest table recording i answer → word ≡ stretch_number answer
        → ((first size tried : ℕ) → answer ≡ StretchAnswer.Found first size tried → (first < 256) × (size < 65536) × (tried < 4294967296))
        → DecodesStretch word answer
    go (StretchAnswer.Found first size tried) said is parts =
        let fit = parts first size tried refl in (
          omega (arith, is),
          omega (arith, is, fit.0),
          omega (arith, is, fit.0, fit.1),
          omega (arith, is, fit.0, fit.1),
        )
    go (StretchAnswer.Refused n place) said is parts = word_refused word (told_of place) n is (stretch_short table recording i n place said)
