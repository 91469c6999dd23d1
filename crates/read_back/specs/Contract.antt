-- What a host is promised of a row that is read back (§9.13, §9.14).
use Rattle.std.specs.Prelude.{ℕ, ◌+◌, ◌*◌, ◌≤◌, ◌<◌, ◌≡◌, List, [], ◌++◌, length, drop, get_or, Result, Ok, Err}
use Rattle.std.proofs.Math.Option.{none, some}
use Rattle.std.proofs.Math.ListN.{get_elem?}
use Rattle.constraint.specs.Answers.{refusal_number}
use Rattle.constraint.specs.declared.Refusal.{Refusal}
use Rattle.constraint.specs.Table.{ReadsTableUpTo, row_body, table_of, table_refused}
use Rattle.constraint.specs.Types.{TypeKnown, count_of, type_of}
use Rattle.constraint.specs.Accepted.{Accepted}
use Rattle.constraint.specs.Run.{Request}
use Rattle.constraint.specs.Constraint.{Constraint}
use Rattle.row_type.specs.Words.{parameters_at}
use Rattle.monitor.specs.Contract.{after}
use Rattle.monitor.specs.declared.Monitor.{Monitor}
use Rattle.read_back.specs.Back.{row_back}

-- §9.13: the number that a host reads
abbrev pub number_given : Result ℕ Refusal → ℕ
number_given (Ok number) = number
number_given (Err refusal) = refusal_number refusal

-- §8.16, §9.13: a body in a buffer that is long enough, at its start, with 256 times its length; else 16, and the buffer as it was
pub data GivesBody (body before : List ℕ) : ℕ → List ℕ → Type 0 where
  given : length body ≤ length before → GivesBody body before (length body * 256) (body ++ drop (length body) before)
  no_room : length before < length body → GivesBody body before 16 before

-- §8.15, §9.13: the body of row i of some rows; 15 where there is no such row, and the buffer as it was
pub data RowBack (rows : List Constraint) (i : ℕ) (before : List ℕ) : ℕ → List ℕ → Type 0 where
  a_row : (c : Constraint) {number : ℕ} {written : List ℕ} → get_elem? rows i ≡ some c → GivesBody (row_body c) before number written
      → RowBack rows i before number written
  no_row_lem : get_elem? rows i ≡ none → RowBack rows i before 15 before

-- §9.13, §11.5: of the rows that a table's bytes are read as; where they are refused, 256 times the place and the number, which is from 1 to 255
pub data TableRowBack (table : List ℕ) (i : ℕ) (before : List ℕ) : ℕ → List ℕ → Type 0 where
  of_table : (rows : List Constraint) {number : ℕ} {written : List ℕ} → ReadsTableUpTo 2 table (table_of rows) → RowBack rows i before number written
      → TableRowBack table i before number written
  refused : (n place : ℕ) → ReadsTableUpTo 2 table (table_refused n place) → 0 < n → n < 256 → TableRowBack table i before (place * 256 + n) before

-- §9.14: whatever the words are, 15 and the buffer as it was, or some body
pub data GivesSome (before : List ℕ) : ℕ → List ℕ → Type 0 where
  nothing_given : GivesSome before 15 before
  some_given : (body : List ℕ) {number : ℕ} {written : List ℕ} → GivesBody body before number written → GivesSome before number written

-- what a row's words give: the body of the row that they hold, if that is of a known type
pub record WordsBack (words : List (List ℕ)) (before : List ℕ) (number : ℕ) (written : List ℕ) : Type 0 where
  pub answers : GivesSome before number written
  pub gives : (c : Constraint) → c ≡ row_back (parameters_at (get_or words 1 [])) (get_or words 0 []) → TypeKnown 2 (type_of c) (count_of c)
      → GivesBody (row_body c) before number written

-- §9.14: row i of a monitor, whatever the requests were: the row of the table
pub record MonitorRowBack (m : Monitor) (i : ℕ) (before : List ℕ) (number : ℕ) (written : List ℕ) : Type 0 where
  pub means : (rows : List Constraint) (requests : List Request) → Accepted rows → m ≡ after rows requests → RowBack rows i before number written
