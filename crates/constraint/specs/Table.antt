-- The table's format: rows to bytes (§4.1 to §4.8; 01, table), and bytes to rows or a refusal with its number and place (§9.3; 01, questions).
use Rattle.std.specs.Prelude.{ℕ, ◌+◌, ◌^◌, ◌≤◌, ◌<◌, ◌≡◌, List, [], ◌∷◌, ◌++◌, length, drop}
use Rattle.constraint.specs.Limits.{row_limit}
use Rattle.constraint.specs.Steps.{at}
use Rattle.constraint.specs.Questions.{Question, Judged}
use Rattle.constraint.specs.Answer.{Answer}
use Rattle.constraint.specs.Answer.{Taken, Refused}
use Rattle.constraint.specs.Types.{Field, byte, time, value_of, type_of, fields_of, last_type, length_of, TypeKnown}
use Rattle.constraint.specs.Accepted.{row_questions, rows_questions}
use Rattle.constraint.specs.Bytes.{bytes_of, bytes_at, number_at}
use Rattle.constraint.specs.Constraint.{Constraint}

-- §4.8; 01, table: two rows are the same: same type, same fields
abbrev pub Same : Constraint → Constraint → Type 0
Same c d = (type_of c ≡ type_of d) × (fields_of c ≡ fields_of d)

-- Rows to bytes

-- §4.4; 01, table: the number of bytes of a field
abbrev pub width_of : Field → ℕ
width_of (byte role x) = 1
width_of (time role x) = 8

-- §4.4; 01, table: the bytes of a field
abbrev pub field_bytes : Field → List ℕ
field_bytes f = bytes_of (width_of f) (value_of f)

-- §4.4; 01, table: the bytes of several fields in order
unfoldable pub fields_bytes : List Field → List ℕ
fields_bytes [] = []
fields_bytes (f ∷ fields) = field_bytes f ++ fields_bytes fields

-- §4.3; 01, table: the body of a row: the type byte, then the fields
unfoldable pub row_body : Constraint → List ℕ
row_body c = type_of c ∷ fields_bytes (fields_of c)

-- §4.3; 01, table: the bytes of a row: the length field, then the body
unfoldable pub row_bytes : Constraint → List ℕ
row_bytes c = bytes_of 2 (length (row_body c)) ++ row_body c

-- §4.2; 01, table: the bytes of several rows in order
unfoldable pub rows_bytes : List Constraint → List ℕ
rows_bytes [] = []
rows_bytes (c ∷ rows) = row_bytes c ++ rows_bytes rows

-- §4.2, §16.1, §16.4, §16.7; 01, table: the bytes of a table: the version byte, which is the edition, then the rows
unfoldable pub table_bytes_in : ℕ → List Constraint → List ℕ
table_bytes_in edition rows = edition ∷ rows_bytes rows

-- §4.2, §4.9, §4.10; 01, table: the bytes of a table of the first edition
abbrev pub table_bytes : List Constraint → List ℕ
table_bytes = table_bytes_in 1

-- §8.16, §9.7, §9.8, §16.4; 01, questions; CR 6: the writer's questions: 3 to 7 and 18 for each row, then 16
abbrev pub writer_questions : ℕ → List Constraint → List ℕ → List Question
writer_questions edition rows buffer = rows_questions edition 0 rows ((16, length (table_bytes_in edition rows) ≤ length buffer) ∷ [])

-- §9.8, §9.2; 01, questions: the buffer after writing: the table, then the buffer's earlier bytes. On a refusal the buffer stays as it was
abbrev pub written_to : ℕ → List ℕ → List Constraint → Answer → List ℕ
written_to edition buffer rows Taken = table_bytes_in edition rows ++ drop (length (table_bytes_in edition rows)) buffer
written_to edition buffer rows (Refused n) = buffer

-- Bytes to rows

-- §8.4, §16.5; 01, questions; CR 2, 6, 10: the edition has the type, the n is known, and the length is that of the type
pub record ShapeFits (edition : ℕ) (body : List ℕ) : Type 0 where
  pub type_there : 0 < length body
  pub known : TypeKnown edition (at body 0) (at body 1)
  pub length_right : length body ≡ length_of (at body 0) (at body 1)

-- §4.4; 01, table: every value in a list of fields fits in its bytes
abbrev pub FieldsFit : List Field → Type 0
FieldsFit [] = Unit {0}
FieldsFit (f ∷ fields) = (value_of f < 256 ^ width_of f) × FieldsFit fields

-- §4.3; 01, table: the body stands for the row that has these bytes
pub record StandsFor (body : List ℕ) (c : Constraint) : Type 0 where
  pub bytes : row_body c ≡ body
  pub fits : FieldsFit (fields_of c)

-- §4.3; 01, table: the length field at a place
abbrev pub length_at : List ℕ → ℕ → ℕ
length_at bytes place = number_at 2 bytes place

-- §4.3; 01, table: the bytes after the length field, as many as it says
abbrev pub body_at : List ℕ → ℕ → List ℕ
body_at bytes place = bytes_at (length_at bytes place) bytes (place + 2)

-- §8.2; 01, questions: the length field and the row are complete; in a recording, the record (§8.14)
abbrev pub WholeAt : List ℕ → ℕ → Type 0
WholeAt bytes place = (place + 2 ≤ length bytes) × (place + 2 + length_at bytes place ≤ length bytes)

-- §9.3; 01, questions: the row at a place: if the body there has a row's shape, the row that it stands for
abbrev pub RowAt : ℕ → List ℕ → ℕ → Constraint → Type 0
RowAt edition bytes place c = ShapeFits edition (body_at bytes place) → StandsFor (body_at bytes place) c

-- §8.3, §9.3; 01, questions; CR 6: questions 2 to 7 and 18 about the row c at a place, with i rows before it
unfoldable pub place_questions : ℕ → List ℕ → ℕ → ℕ → Constraint → List Question
place_questions edition bytes i place c =
    (2, WholeAt bytes place) ∷ (3, i < row_limit) ∷ (4, ShapeFits edition (body_at bytes place)) ∷ row_questions c

-- §7.6; 01, report: the result of reading: the rows, or the refusal's number and its place
pub data TableRead : Type 0 where
  table_of : List Constraint → TableRead
  table_refused : ℕ → ℕ → TableRead

-- §9.3: a row, and what reading the later ones gives
abbrev pub row_then : Constraint → TableRead → TableRead
row_then c (table_of later) = table_of (c ∷ later)
row_then c (table_refused n place) = table_refused n place

-- §9.3; 01, questions: reads the rows of an edition one by one from a place on, with i rows before
pub data ReadsRows (edition : ℕ) (bytes : List ℕ) : ℕ → ℕ → TableRead → Type 0 where
  no_more : {i place : ℕ} → length bytes ≤ place → ReadsRows edition bytes i place (table_of [])
  row_refused : {i place : ℕ} (n : ℕ) (c : Constraint) → place < length bytes → RowAt edition bytes place c
      → Judged (place_questions edition bytes i place c) (Refused n) → ReadsRows edition bytes i place (table_refused n place)
  row_taken : {i place : ℕ} {later : TableRead} (c : Constraint) → place < length bytes → RowAt edition bytes place c
      → Judged (place_questions edition bytes i place c) Taken → ReadsRows edition bytes (i + 1) (place + 2 + length_at bytes place) later
      → ReadsRows edition bytes i place (row_then c later)

-- §8.1, §16.1, §16.3, §16.5; 01, questions: there is a first byte. It is an edition that has types, up to the newest that the call takes
abbrev pub VersionUpTo : ℕ → List ℕ → Type 0
VersionUpTo newest bytes = (0 < length bytes) × (1 ≤ at bytes 0) × (at bytes 0 ≤ newest) × (0 < last_type (at bytes 0))

-- §9.3, §16.3, §16.6, §16.7; 01, questions: question 1, then row by row in the edition that the first byte gives
pub data ReadsTableUpTo (newest : ℕ) (bytes : List ℕ) : TableRead → Type 0 where
  version_refused : ¬ VersionUpTo newest bytes → ReadsTableUpTo newest bytes (table_refused 1 0)
  version_taken : {read : TableRead} → VersionUpTo newest bytes → ReadsRows (at bytes 0) bytes 0 1 read → ReadsTableUpTo newest bytes read

-- §4.9, §4.10, §9.3; 01, questions: reading if only the first edition is taken
abbrev pub ReadsTable : List ℕ → TableRead → Type 0
ReadsTable = ReadsTableUpTo 1
