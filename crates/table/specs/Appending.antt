-- What adding a row to a table in a lent buffer promises.
use Rattle.std.specs.Prelude.{ℕ, ◌+◌, ◌≤◌, ◌<◌, ◌≡◌, cond, List, [], ◌∷◌, ◌++◌, ltb, length, take, drop}
use Rattle.constraint.specs.Accepted.{row_questions}
use Rattle.constraint.specs.Bytes.{bytes_of}
use Rattle.constraint.specs.Constraint.{Constraint}
use Rattle.constraint.specs.Limits.{row_limit}
use Rattle.constraint.specs.Questions.{Question, Judged}
use Rattle.constraint.specs.Steps.{at}
use Rattle.constraint.specs.Table.{ReadsTableUpTo, ShapeFits, StandsFor, table_of, table_refused}
use Rattle.constraint.specs.Types.{last_type}
use Rattle.constraint.specs.Answer.{Taken, Refused}
use Rattle.table.specs.AddAnswer.{AddAnswer}

-- §9.12: the questions about a body for a row after some rows: 3, then 4, 5, 18, 6 and 7 as in a table of edition 2; c is the row that it stands for
abbrev pub body_questions : ℕ → List ℕ → Constraint → List Question
body_questions rows body c = (3, rows < row_limit) ∷ (4, ShapeFits 2 body) ∷ row_questions c

-- §8.16, §9.12: and then 16: a buffer of `size` bytes has room for the row at a place
abbrev pub add_questions : ℕ → List ℕ → Constraint → ℕ → ℕ → List Question
add_questions rows body c place size = body_questions rows body c ++ ((16, place + 2 + length body ≤ size) ∷ [])

-- §9.12, §16.2: the edition of a table with a row of a type more: its own if it has the type, else 2
abbrev pub edition_with : ℕ → ℕ → ℕ
edition_with edition t = cond (ltb (last_type edition) t) 2 edition

-- §9.12: the bytes of a table with a row more: its edition, its rows as they are, and the row's length field and body
abbrev pub with_row : List ℕ → List ℕ → List ℕ
with_row table body = edition_with (at table 0) (at body 0) ∷ drop 1 table ++ (bytes_of 2 (length body) ++ body)

-- §9.12: what a table, a body and the size of the buffer say: the table is refused, or the row is, or the row is added
pub data AddsTo (table body : List ℕ) (size : ℕ) : AddAnswer → Type 0 where
  table_wrong : (number place : ℕ) → ReadsTableUpTo 2 table (table_refused number place) → AddsTo table body size (AddAnswer.Refused number place)
  row_wrong : (rows : List Constraint) (c : Constraint) (number : ℕ) → ReadsTableUpTo 2 table (table_of rows) → (ShapeFits 2 body → StandsFor body c)
      → Judged (add_questions (length rows) body c (length table) size) (Refused number)
      → AddsTo table body size (AddAnswer.Refused number (length table))
  row_right : (rows : List Constraint) (c : Constraint) → ReadsTableUpTo 2 table (table_of rows) → StandsFor body c
      → Judged (add_questions (length rows) body c (length table) size) Taken
      → AddsTo table body size (AddAnswer.Added (length table + 2 + length body))

-- §9.2, §9.12: the buffer then: the table with the row more, and the later bytes as they were. On a refusal the buffer stays as it was
abbrev pub added_to : List ℕ → List ℕ → List ℕ → AddAnswer → List ℕ
added_to before table body (AddAnswer.Added n) = with_row table body ++ drop n before
added_to before table body (AddAnswer.Refused number place) = before

-- §9.12: a table with a row more: the rows that were read before, the row that the body stands for, and both read from the first n bytes after it
pub record Grown (before : List ℕ) (size : ℕ) (body : List ℕ) (n : ℕ) (after : List ℕ) : Type 0 where
  pub rows : List Constraint
  pub row : Constraint
  pub were : ReadsTableUpTo 2 (take size before) (table_of rows)
  pub stands : StandsFor body row
  pub are : ReadsTableUpTo 2 (take n after) (table_of (rows ++ (row ∷ [])))

-- §9.12: the promise of adding a row to the table in the first bytes of a buffer, `size` of them
pub record AddsRow (before : List ℕ) (size : ℕ) (body : List ℕ) (r : AddAnswer) (after : List ℕ) : Type 0 where
  pub answer : AddsTo (take size before) body (length before) r
  pub buffer : after ≡ added_to before (take size before) body r
  pub grown : (n : ℕ) → r ≡ AddAnswer.Added n → Grown before size body n after
