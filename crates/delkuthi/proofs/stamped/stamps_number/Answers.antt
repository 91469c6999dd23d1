-- The number is that of the word, or that of the refusal, which is from 1 to 26, and its place.
use Rattle.constraint.proofs.Refusals.{numbered}
use Rattle.constraint.specs.Answers.{refused_number}
use Rattle.delkuthi.proofs.Names.{StampedAnswer, ◌<◌, ◌≡◌, arith, never, ℕ}
use Rattle.delkuthi.proofs.stamped.stamps_number.Goals as goal

-- the number of a refusal is small
refusal_small : (n place m at : ℕ) → 0 < n → n < 27 → StampedAnswer.Refused n place ≡ StampedAnswer.Refused m at → (0 < m) × (m < 256)
refusal_small n place m at above below e = let same : n ≡ m = cc in (omega (arith, same, above), omega (arith, same, below))

pub returns-in-Ok : goal.returns-in-Ok
returns-in-Ok c =
    record {
      answer = StampedAnswer.Reads c.in-Ok.verdict;
      answers = c.in-Ok.ensures;
      equals = c.verdict_number.ensures;
      small = λ n place e. never (cc);
    }

pub returns-in-Err : goal.returns-in-Err
returns-in-Err c =
    let refused = c.in-Err.refused in
    let small = numbered refused.refusal in
    record {
      answer = StampedAnswer.Refused (refused_number refused) refused.place;
      answers = c.in-Err.ensures;
      equals = c.refusal_number.ensures;
      small = λ n place e. refusal_small (refused_number refused) refused.place n place small.0 small.1 e;
    }
