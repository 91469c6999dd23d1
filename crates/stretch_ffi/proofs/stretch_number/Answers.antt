-- The number is that of the stretch, or that of the refusal, which is from 1 to 127, and its place.
use Rattle.constraint.proofs.Judged.{never}
use Rattle.constraint.proofs.Library.{◌<◌, ◌≡◌, arith, refl, ℕ}
use Rattle.constraint.proofs.Refusals.{numbered}
use Rattle.constraint.specs.{Answers.refused_number, Stretches.StretchAnswer}
use Rattle.stretch_ffi.proofs.stretch_number.Goals as goal

-- the number of a refusal is small
refusal_small : (n place m at : ℕ) → 0 < n → n < 256 → StretchAnswer.Refused n place ≡ StretchAnswer.Refused m at → (0 < m) × (m < 256)
refusal_small n place m at above below e = let same : n ≡ m = cc in (omega (arith, same, above), omega (arith, same, below))

-- and of a stretch
stretch_parts : (first size tried a b c : ℕ) → first < 256 → size < 65536 → tried < 4294967296 → StretchAnswer.Found first size tried
    ≡ StretchAnswer.Found a b c
    → (a < 256) × (b < 65536) × (c < 4294967296)
stretch_parts first size tried a b c one two three e =
    let first_is : first ≡ a = cc in
    let size_is : size ≡ b = cc in
    let tried_is : tried ≡ c = cc in
    (omega (arith, one, first_is), omega (arith, two, size_is), omega (arith, three, tried_is))

pub returns-in-Ok : goal.returns-in-Ok
returns-in-Ok c =
    let a = c.in-Ok.found in
    record {
      answer = StretchAnswer.Found a.first a.size a.tried;
      answers = rw c.in-Ok.is at c.shortest.ensures;
      equals = rw (c.from.ensures, c.from-in-Ok.ensures, c.from-in-Ok-2.ensures) refl;
      small = λ n place e. never (cc);
      parts = λ first size tried e. stretch_parts a.first a.size a.tried first size tried (omega arith) (omega arith) (omega arith) e;
    }

pub returns-in-Err : goal.returns-in-Err
returns-in-Err c =
    let refused = c.in-Err.refused in
    record {
      answer = StretchAnswer.Refused (refused_number refused) refused.place;
      answers = rw c.in-Err.is at c.shortest.ensures;
      equals = c.refusal_number.ensures;
      small = λ n place e. refusal_small _ refused.place n place (numbered refused.refusal).0 (omega (arith, (numbered refused.refusal).1)) e;
      parts = λ first size tried e. never (cc);
    }
