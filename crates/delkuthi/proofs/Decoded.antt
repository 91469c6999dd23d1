-- Each answer of 64 bits says by the header's macros what its contract allows it to say: a refusal's number is from 1 to 127, so that it keeps to
-- the low seven bits and is not 0, and the rest stands above the low eight.
use Rattle.delkuthi.proofs.Names.{Answer, AnswersStampsUpTo, BeginsUpTo, Decodes, JoinAnswer, List, MakesTableIn, NumbersJoin}
use Rattle.delkuthi.proofs.Names.{NumbersStampsUpTo, ReadsTableUpTo, Refused, StampedAnswer, TableRead, Taken, Words, WriteAnswer, WritesRaw}
use Rattle.delkuthi.proofs.Names.{◌*◌, ◌+◌, ◌<◌, ◌≡◌, ◌≤◌, answer_from, answer_in, ap, arith, begun, cond, eqb, eqb-true, join_number}
use Rattle.delkuthi.proofs.Names.{join_refusal, join_rest, join_second, number_in, read_refusal, read_rest, refl, refused, rest_in, second_in, split}
use Rattle.delkuthi.proofs.Names.{stamped_number, stamped_refusal, stamped_rest, subst, suc, table_of, table_refused, table_number, table_rest}
use Rattle.delkuthi.proofs.Names.{told_of, zero, ℕ}
use Rattle.constraint.specs.declared.StampedVerdict.{StampedVerdict}
use Rattle.delkuthi.proofs.{RecordNumbers.Short, RecordNumbers.stamped_short, RecordNumbers.table_short, Refusals.raw_number}

-- ---- a word

-- a number below 128 and a rest, and bit 7 between them
module _ (word rest n second : ℕ) (is : word ≡ rest * 256 + n + second * 128) (small : n < 128) (bit : second ≤ 1) where
  number_is : number_in word ≡ n
  number_is = omega arith

  above_is : rest_in word ≡ rest
  above_is = omega arith

  pub second_is : second_in word ≡ second
  second_is = omega arith

  pub decodes : Decodes word (answer_from n) rest
  decodes = record { answer_is = ap answer_from number_is; rest_is = above_is }

-- a number that is not 0 is a refusal's
refused_from : (n : ℕ) → 0 < n → answer_from n ≡ Refused n
refused_from zero above = absurd (omega arith)
refused_from (suc n) above = refl

pub word_taken : (word rest : ℕ) → word ≡ rest * 256 → Decodes word Taken rest
word_taken word rest is = decodes word rest 0 0 (omega arith) (omega arith) (omega arith)

pub word_refused : (word rest n : ℕ) → word ≡ rest * 256 + n → Short n → Decodes word (Refused n) rest
word_refused word rest n is short =
    subst (λ (a : Answer). Decodes word a rest) (refused_from n short.0) (decodes word rest n 0 (omega arith) short.1 (omega arith))

-- ---- of each call

-- §11.5: the answer of `delkuthi_fresh` says that the table was taken, or the number and the place of its refusal
pub fresh_decoded : {newest : ℕ} {bytes : List ℕ} {before : Words} {word : ℕ} {after : Words} → BeginsUpTo newest bytes before word after
    → (read : TableRead) × ReadsTableUpTo newest bytes read × Decodes word (read_refusal read) (read_rest read)
fresh_decoded (begun rows reads accepted indexes) = (table_of rows, reads, word_taken 0 0 refl)
fresh_decoded {bytes = bytes} (refused n place reads above below) =
    (table_refused n place, reads, word_refused (place * 256 + n) place n refl (table_short bytes n place reads))

-- §11.5: that of `delkuthi_table` how many bytes were written, or the number and the row of the refusal
pub table_decoded : {edition : ℕ} {bytes before : List ℕ} {word : ℕ} {after : List ℕ} (makes : MakesTableIn edition bytes before word after)
    → Decodes word (answer_in makes.answer) (table_rest makes.answer makes.row)
table_decoded {edition} {bytes} {before} {word} {after} makes = go makes.answer makes.writes makes.equals
  where
    go : (answer : WriteAnswer) → WritesRaw edition bytes before answer after → word ≡ table_number answer makes.row
        → Decodes word (answer_in answer) (table_rest answer makes.row)
    go (WriteAnswer.Written n) writes is = word_taken word n is
    go (WriteAnswer.Refused n) writes is =
        let short = raw_number bytes before after (WriteAnswer.Refused n) n refl writes in
        split (eqb n 16) (λ b. word ≡ cond b 16 (makes.row * 256 + n) → Decodes word (Refused n) (cond b 0 makes.row))
        (λ same e. word_refused word 0 n (omega (arith, e, eqb-true n 16 same)) short) (λ _ e. word_refused word makes.row n e short) is

-- §12.6: that of `delkuthi_stamps` the word, or the number and the place of the refusal
pub stamps_decoded : {newest : ℕ} {table recording : List ℕ} {i e word : ℕ} (numbers : NumbersStampsUpTo newest table recording i e word)
    → Decodes word (stamped_refusal numbers.answer) (stamped_rest numbers.answer)
stamps_decoded {newest} {table} {recording} {i} {e} {word} numbers = go numbers.answer numbers.answers numbers.equals
  where
    go : (answer : StampedAnswer) → AnswersStampsUpTo newest table recording i e answer → word ≡ stamped_number answer
        → Decodes word (stamped_refusal answer) (stamped_rest answer)
    go (StampedAnswer.Reads StampedVerdict.Kept) answers is = word_taken word 1 is
    go (StampedAnswer.Reads StampedVerdict.Broken) answers is = word_taken word 2 is
    go (StampedAnswer.Reads StampedVerdict.Unsure) answers is = word_taken word 3 is
    go (StampedAnswer.Refused n place) answers is = word_refused word (told_of place) n is (stamped_short table recording i e n place answers)

-- §13.8: that of `delkuthi_join` the number of bytes, or the number and the place of the refusal, and whose it is
pub join_decoded : {one two before : List ℕ} {word : ℕ} {after : List ℕ} (numbers : NumbersJoin one two before word after)
    → Decodes word (join_refusal numbers.answer) (join_rest numbers.answer) × (second_in word ≡ join_second numbers.answer)
join_decoded {word = word} numbers = go numbers.answer numbers.equals numbers.small
  where
    go : (answer : JoinAnswer) → word ≡ join_number answer → ((n : ℕ) → join_refusal answer ≡ Refused n → Short n)
        → Decodes word (join_refusal answer) (join_rest answer) × (second_in word ≡ join_second answer)
    go (JoinAnswer.Joined length) is small =
        (word_taken word (told_of length) is, second_is word (told_of length) 0 0 (omega (arith, is)) (omega arith) (omega arith))
    go (JoinAnswer.FirstRefused n place) is small =
        let short = small n refl in
        (word_refused word (told_of place) n is short, second_is word (told_of place) n 0 (omega (arith, is)) short.1 (omega arith))
    go (JoinAnswer.SecondRefused n place) is small =
        let short = small n refl in (
          subst (λ (a : Answer). Decodes word a (told_of place)) (refused_from n short.0)
              (decodes word (told_of place) n 1 (omega (arith, is)) short.1 (omega arith)),
          second_is word (told_of place) n 1 (omega (arith, is)) short.1 (omega arith),
        )
    go JoinAnswer.TooShort is small =
        (word_refused word 0 16 (omega (arith, is)) (small 16 refl), second_is word 0 16 0 (omega (arith, is)) (omega arith) (omega arith))
