-- Rows given as raw bytes, 34 for each, and what writing them promises.
use Rattle.std.specs.Prelude.{ℕ, zero, suc, ◌+◌, ◌*◌, ◌≤◌, ◌<◌, ◌≡◌, List, [], ◌∷◌, length, get_or}
use Rattle.std.proofs.lemmas.List.Edits.{sets}
use Rattle.constraint.specs.Limits.{row_limit}
use Rattle.constraint.specs.Steps.{at}
use Rattle.constraint.specs.Bytes.{bytes_at}
use Rattle.constraint.specs.Questions.{Judged}
use Rattle.constraint.specs.Types.{TypeKnown, length_of}
use Rattle.constraint.specs.Accepted.{row_questions, rows_questions}
use Rattle.constraint.specs.Records.{filler}
use Rattle.constraint.specs.Table.{StandsFor, row_bytes}
use Rattle.constraint.specs.Answer.{Taken, Refused}
use Rattle.constraint.specs.Constraint.{Constraint}
use Rattle.table_row.specs.Records.{row_from, row_in}
use Rattle.table.specs.Writing.{Writes}
use Rattle.table.specs.WriteAnswer.{WriteAnswer}

-- how many bytes each row is given, which the longest type needs
abbrev pub raw_size : ℕ
raw_size = 34

-- how many bytes the body of row i has: as many as its type says
abbrev pub body_length : List ℕ → ℕ → ℕ
body_length bytes i = length_of (at bytes (i * raw_size)) (at bytes (i * raw_size + 1))

-- the body of row i
abbrev pub raw_body : List ℕ → ℕ → List ℕ
raw_body bytes i = bytes_at (body_length bytes i) bytes (i * raw_size)

-- the row that the body of row i is read as
abbrev pub raw_row : List ℕ → ℕ → Constraint
raw_row bytes i = row_in (row_from (raw_body bytes i))

-- the n rows from row i on, each the one that its body is read as
unfoldable pub raw_rows : List ℕ → ℕ → ℕ → List Constraint
raw_rows bytes i zero = []
raw_rows bytes i (suc n) = raw_row bytes i ∷ raw_rows bytes (i + 1) n

-- §4.10: the bytes begin with these rows, each the one that its body stands for, within the bytes that it is given
pub record RawRows (bytes : List ℕ) (rows : List Constraint) : Type 0 where
  pub whole : length rows * raw_size ≤ length bytes
  pub fit : (i : ℕ) → i < length rows → body_length bytes i ≤ raw_size
  pub stand : (i : ℕ) → i < length rows → StandsFor (raw_body bytes i) (get_or rows i filler)

-- §8.4, where the type gives the length: the type is one of the edition, the n is known, and the bytes that the row is given are enough for it
abbrev pub KnownFrom : ℕ → List ℕ → ℕ → Type 0
KnownFrom edition bytes start =
    TypeKnown edition (at bytes start) (at bytes (start + 1)) × (length_of (at bytes start) (at bytes (start + 1)) ≤ raw_size)

abbrev pub KnownAt : ℕ → List ℕ → ℕ → Type 0
KnownAt edition bytes i = KnownFrom edition bytes (i * raw_size)

-- row i is whole and of a type of the edition
abbrev pub WholeRow : ℕ → List ℕ → ℕ → Type 0
WholeRow edition bytes i = KnownAt edition bytes i × ((i + 1) * raw_size ≤ length bytes)

-- the first n rows are whole and of types of the edition, and there is no more such row, or no entry for it
pub record KnownRows (edition : ℕ) (bytes : List ℕ) (n : ℕ) : Type 0 where
  pub room : n ≤ row_limit
  pub whole : n * raw_size ≤ length bytes
  pub known : (i : ℕ) → i < n → KnownAt edition bytes i
  pub last : n < row_limit → (n + 1) * raw_size ≤ length bytes → ¬ KnownAt edition bytes n

-- row i is taken: 4, and then 5, 18, 6 and 7 of the row that its body stands for (`raw_stands`)
abbrev pub RowTaken : ℕ → List ℕ → ℕ → Type 0
RowTaken edition bytes i = KnownAt edition bytes i × Judged (row_questions (raw_row bytes i)) Taken

-- §11.5: the number of the first row that is refused, or of the first that is not whole or has no entry
pub record FirstRefused (edition : ℕ) (bytes : List ℕ) (row : ℕ) : Type 0 where
  pub room : row ≤ row_limit
  pub taken : (i : ℕ) → i < row → RowTaken edition bytes i
  pub refused : row < row_limit → (row + 1) * raw_size ≤ length bytes → ¬ RowTaken edition bytes row

-- row i is stored in a buffer from a place on, and the next place is the one behind it
pub record StoresRow (bytes : List ℕ) (i : ℕ) (before : List ℕ) (place next : ℕ) (after : List ℕ) : Type 0 where
  pub stored : after ≡ sets before place (row_bytes (raw_row bytes i))
  pub behind : next ≡ place + 2 + body_length bytes i

-- §9.7, §9.8: the writer's promise for the rows of all the whole stretches of 34 bytes; or a refusal, by the questions of some first rows and
-- then 3 and 4 of the next
pub data WritesRaw (edition : ℕ) (bytes before : List ℕ) : WriteAnswer → List ℕ → Type 0 where
  all_read : {r : WriteAnswer} {after : List ℕ} (rows : List Constraint) → RawRows bytes rows → length bytes < (length rows + 1) * raw_size
      → Writes edition rows before r after → WritesRaw edition bytes before r after
  stopped_at : (rows : List Constraint) (n : ℕ) → RawRows bytes rows → (length rows + 1) * raw_size ≤ length bytes
      → Judged (rows_questions edition 0 rows ((3, length rows < row_limit) ∷ (4, KnownAt edition bytes (length rows)) ∷ [])) (Refused n)
      → WritesRaw edition bytes before (WriteAnswer.Refused n) before
