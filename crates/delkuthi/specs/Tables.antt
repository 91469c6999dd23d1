-- The number that the table writer for a host answers with, and its promise.
use Rattle.std.specs.Prelude.{ℕ, ◌+◌, ◌*◌, ◌<◌, ◌≡◌, cond, List, eqb}
use Rattle.table.specs.Raw.{FirstRefused, WritesRaw}
use Rattle.table.specs.Appending.{AddsRow}
use Rattle.table.specs.WriteAnswer.{WriteAnswer}
use Rattle.table.specs.AddAnswer.{AddAnswer}

-- §11.5: 256 times the number of bytes written; or 256 times the row and the refusal's number, and 16 alone
abbrev pub table_number : WriteAnswer → ℕ → ℕ
table_number (WriteAnswer.Written n) row = n * 256
table_number (WriteAnswer.Refused n) row = cond (eqb n 16) 16 (row * 256 + n)

-- the number of what writing the rows gives; it tells a refusal from a table, as a refusal has a number from 1 to 255
pub record MakesTableIn (edition : ℕ) (bytes before : List ℕ) (number : ℕ) (after : List ℕ) : Type 0 where
  pub answer : WriteAnswer
  pub writes : WritesRaw edition bytes before answer after
  pub row : ℕ
  pub of_row : (n : ℕ) → answer ≡ WriteAnswer.Refused n → FirstRefused edition bytes row
  pub equals : number ≡ table_number answer row
  pub small : (n : ℕ) → answer ≡ WriteAnswer.Refused n → (0 < n) × (n < 256)

-- §11.5: in the first edition
abbrev pub MakesTable : List ℕ → List ℕ → ℕ → List ℕ → Type 0
MakesTable = MakesTableIn 1

-- §9.12, §11.5: 256 times the length of the table with the row more; or 256 times the place of the refusal, and its number
abbrev pub add_number : AddAnswer → ℕ
add_number (AddAnswer.Added n) = n * 256
add_number (AddAnswer.Refused n place) = place * 256 + n

-- §9.12, §11.5: the number of what adding a row gives; it tells a refusal from a table, as a refusal has a number from 1 to 255
pub record AddsNumbered (before : List ℕ) (size : ℕ) (body : List ℕ) (number : ℕ) (after : List ℕ) : Type 0 where
  pub answer : AddAnswer
  pub adds : AddsRow before size body answer after
  pub equals : number ≡ add_number answer
  pub small : (n place : ℕ) → answer ≡ AddAnswer.Refused n place → (0 < n) × (n < 256)
