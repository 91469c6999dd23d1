-- Answers as one number: a count below 2 ^ 32, or a refusal's number times 2 ^ 32 and its place.
use Rattle.std.specs.Prelude.{ℕ, ◌+◌, ◌*◌, ◌^◌, ◌-◌, min, ◌≡◌, List, length}
use Rattle.constraint.specs.Table.{TableRead, table_of, table_refused, ReadsTableUpTo}
use Rattle.constraint.specs.Steps.{at}
use Rattle.constraint.specs.Constraint.{Constraint}
use Rattle.table.specs.Writing.{Writes}
use Rattle.table.specs.WriteAnswer.{WriteAnswer}

-- a place past 2 ^ 32 - 1 counts as that
abbrev pub refusal_code : ℕ → ℕ → ℕ
refusal_code n place = n * 2 ^ 32 + min place (2 ^ 32 - 1)

-- the number of rows, or the refusal
abbrev pub read_code : TableRead → ℕ
read_code (table_of rows) = length rows
read_code (table_refused n place) = refusal_code n place

-- the number of bytes, or the refusal, which has no place
abbrev pub write_code : WriteAnswer → ℕ
write_code (WriteAnswer.Written n) = n
write_code (WriteAnswer.Refused n) = refusal_code n 0

-- the code of what reading gives
pub record AnswersRead (newest : ℕ) (bytes : List ℕ) (r : ℕ) : Type 0 where
  pub read : TableRead
  pub reads : ReadsTableUpTo newest bytes read
  pub code : r ≡ read_code read

-- the code of what writing gives
pub record AnswersWrite (edition : ℕ) (rows : List Constraint) (before : List ℕ) (r : ℕ) (after : List ℕ) : Type 0 where
  pub answer : WriteAnswer
  pub writes : Writes edition rows before answer after
  pub code : r ≡ write_code answer

-- what reading a table and writing its rows in its edition gives: the reader's refusal, which leaves the buffer, or what writing gives
pub data AnswersRewrite (newest : ℕ) (bytes before : List ℕ) : ℕ → List ℕ → Type 0 where
  not_read : {r : ℕ} (n place : ℕ) → ReadsTableUpTo newest bytes (table_refused n place) → r ≡ refusal_code n place
      → AnswersRewrite newest bytes before r before
  rewritten : {r : ℕ} {after : List ℕ} (rows : List Constraint) → ReadsTableUpTo newest bytes (table_of rows)
      → AnswersWrite (at bytes 0) rows before r after → AnswersRewrite newest bytes before r after
