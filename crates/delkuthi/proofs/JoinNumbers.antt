-- A refusal of a join is one of its recordings, 20 or 16: its number is from 1 to 127, and where both are read it is that of the first "no" of 20
-- and 16.
use Rattle.delkuthi.proofs.Names.{AnswersJoin, JoinAnswer, Judged, List, NumbersJoin, ReadsInOrder, Refused, Step, Taken, ◌≡◌, arith}
use Rattle.delkuthi.proofs.Names.{in_common, join_number, join_questions, join_refusal, judged_no, judged_none, judged_yes, never, no_first}
use Rattle.delkuthi.proofs.Names.{no_second, order_once, recording_of, subst, too_short, written, ℕ}
use Rattle.delkuthi.proofs.RecordNumbers.{Short, refusal_short}

module _ (one two before : List ℕ) where
  pub join_small : {answer : JoinAnswer} {after : List ℕ} → AnswersJoin one two before answer after → (n : ℕ) → join_refusal answer ≡ Refused n
      → Short n
  join_small (no_first m at refused) n e = let same : m ≡ n = cc in subst Short same (refusal_short one m at refused)
  join_small (no_second first m at taken refused) n e = let same : m ≡ n = cc in subst Short same (refusal_short two m at refused)
  join_small (in_common first second at taken also common found) n e = let same : 20 ≡ n = cc in (omega (arith, same), omega (arith, same))
  join_small (too_short first second taken also apart short) n e = let same : 16 ≡ n = cc in (omega (arith, same), omega (arith, same))
  join_small (written first second taken also apart room) n e = never (cc)

  module _ (first second : List Step) (read : ReadsInOrder one (recording_of first)) (also : ReadsInOrder two (recording_of second)) where
    first_is : (steps : List Step) → ReadsInOrder one (recording_of steps) → steps ≡ first
    first_is steps r = let same = order_once one r read in cc

    second_is : (steps : List Step) → ReadsInOrder two (recording_of steps) → steps ≡ second
    second_is steps r = let same = order_once two r also in cc

    join_asked : {answer : JoinAnswer} {after : List ℕ} → AnswersJoin one two before answer after
        → Judged (join_questions one two before first second) (join_refusal answer)
    join_asked (no_first n place refused) = let same = order_once one refused read in never (cc)
    join_asked (no_second f n place r refused) = let same = order_once two refused also in never (cc)
    join_asked (in_common f s place r t common found) = rw (← first_is f r, ← second_is s t) (judged_no 20 _ _ common)
    join_asked (too_short f s r t apart short) =
        rw (← first_is f r, ← second_is s t) (judged_yes 20 _ _ (Refused 16) apart (judged_no 16 _ _ (λ room. omega (arith, short))))
    join_asked (written f s r t apart room) =
        rw (← first_is f r, ← second_is s t) (judged_yes 20 _ _ Taken apart (judged_yes 16 _ _ Taken room judged_none))

  -- §13.5: what the call for a host promises
  pub numbers_join : (number : ℕ) {answer : JoinAnswer} {after : List ℕ} → AnswersJoin one two before answer after → number ≡ join_number answer
      → NumbersJoin one two before number after
  numbers_join number {answer = answer} answers equals =
      record {
        answer = answer;
        answers = answers;
        asked = λ first second read also. join_asked first second read also answers;
        equals = equals;
        small = join_small answers;
      }
