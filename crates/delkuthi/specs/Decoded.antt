-- What a host reads off an answer of 64 bits by the macros of `delkuthi.h`: whether the call was taken, the number of a refusal, and the rest.
use Rattle.std.specs.Prelude.{ℕ, ◌-◌, ◌/◌, ◌%◌, ◌^◌, min, ◌≡◌, cond, eqb}
use Rattle.constraint.specs.Table.{TableRead, table_of, table_refused}
use Rattle.constraint.specs.Answer.{Answer}
use Rattle.constraint.specs.Answer.{Taken, Refused}
use Rattle.constraint.specs.Joined.{JoinAnswer}
use Rattle.constraint.specs.Stamps.{StampedAnswer}
use Rattle.constraint.specs.declared.StampedVerdict.{StampedVerdict}
use Rattle.in_place.specs.Contract.{answer_from}
use Rattle.table.specs.WriteAnswer.{WriteAnswer}

-- ---- the macros

-- §11.5: DELKUTHI_NUMBER, the low seven bits
abbrev pub number_in : ℕ → ℕ
number_in word = word % 128

-- §11.5: DELKUTHI_PLACE, DELKUTHI_ROW, DELKUTHI_LENGTH and DELKUTHI_WORD, the bits from bit 8 on
abbrev pub rest_in : ℕ → ℕ
rest_in word = word / 256

-- §13.8: DELKUTHI_JOIN_SECOND, bit 7
abbrev pub second_in : ℕ → ℕ
second_in word = word / 128 % 2

-- §11.5: the word says this answer, by its number, and this rest
pub record Decodes (word : ℕ) (answer : Answer) (rest : ℕ) : Type 0 where
  pub answer_is : answer_from (number_in word) ≡ answer
  pub rest_is : rest_in word ≡ rest

-- ---- what each call's word has to say

-- §12.6, §13.8, §14.6: a place or a length, and 2 ^ 56 - 1 for a larger one
abbrev pub told_of : ℕ → ℕ
told_of place = min place (2 ^ 56 - 1)

-- §11.5: of `delkuthi_fresh`: the refusal of the table, with its place
abbrev pub read_refusal : TableRead → Answer
read_refusal (table_of rows) = Taken
read_refusal (table_refused n place) = Refused n

abbrev pub read_rest : TableRead → ℕ
read_rest (table_of rows) = 0
read_rest (table_refused n place) = place

-- §11.5: of `delkuthi_table`: the number of bytes written, or the row that is refused; 16 is of no row
abbrev pub table_rest : WriteAnswer → ℕ → ℕ
table_rest (WriteAnswer.Written n) row = n
table_rest (WriteAnswer.Refused n) row = cond (eqb n 16) 0 row

-- §12.6: of `delkuthi_stamps`: the word's number, or the place of the refusal
abbrev pub stamped_refusal : StampedAnswer → Answer
stamped_refusal (StampedAnswer.Reads v) = Taken
stamped_refusal (StampedAnswer.Refused n place) = Refused n

abbrev pub stamped_rest : StampedAnswer → ℕ
stamped_rest (StampedAnswer.Reads StampedVerdict.Kept) = 1
stamped_rest (StampedAnswer.Reads StampedVerdict.Broken) = 2
stamped_rest (StampedAnswer.Reads StampedVerdict.Unsure) = 3
stamped_rest (StampedAnswer.Refused n place) = told_of place

-- §13.8: of `delkuthi_join`: the number of bytes written, or the place of the refusal, and whether it is the second recording that is refused
abbrev pub join_rest : JoinAnswer → ℕ
join_rest (JoinAnswer.Joined length) = told_of length
join_rest (JoinAnswer.FirstRefused n place) = told_of place
join_rest (JoinAnswer.SecondRefused n place) = told_of place
join_rest JoinAnswer.TooShort = 0

abbrev pub join_second : JoinAnswer → ℕ
join_second (JoinAnswer.Joined length) = 0
join_second (JoinAnswer.FirstRefused n place) = 0
join_second (JoinAnswer.SecondRefused n place) = 1
join_second JoinAnswer.TooShort = 0
