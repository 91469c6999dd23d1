-- What judging a table's bytes promises, and what reading the row at a place does.
use Rattle.std.specs.Prelude.{ℕ, ◌+◌, ◌≤◌, ◌<◌, ◌≡◌, List, length, Option, Some, None, Result, Ok, Err}
use Rattle.std.proofs.Math.ListN.{get_elem?}
use Rattle.std.proofs.Math.Option.{some}
use Rattle.constraint.specs.Limits.{row_limit}
use Rattle.constraint.specs.Accepted.{AcceptedIn}
use Rattle.constraint.specs.Records.{filler}
use Rattle.constraint.specs.Steps.{at}
use Rattle.constraint.specs.Table.{TableRead, table_of, table_refused, length_at, WholeAt, RowAt, ReadsRows, ReadsTableUpTo}
use Rattle.constraint.specs.Constraint.{Constraint}
use Rattle.constraint.specs.Answers.{refused_number}
use Rattle.constraint.specs.declared.RefusedAt.{RefusedAt}
use Rattle.table_row.specs.Records.{row_in}
use Rattle.table_row.specs.declared.TableRow.{TableRow}
use Rattle.table.specs.Rows.{row_read_at}
use Rattle.table.specs.declared.scan.Loaded.{Loaded}
use Rattle.table.specs.declared.scan.Placed.{Placed}

-- some rows of an edition that are read, as many as were counted
pub record Counted (edition : ℕ) (Reads : TableRead → Type 0) (count : ℕ) : Type 0 where
  pub rows : List Constraint
  pub reads : Reads (table_of rows)
  pub counted : count ≡ length rows
  pub room : length rows ≤ row_limit
  pub accepted : AcceptedIn edition rows

-- what a result says of what is read: how many rows there are, or the refusal
abbrev pub Says : ℕ → (TableRead → Type 0) → Result ℕ RefusedAt → Type 0
Says edition Reads (Ok count) = Counted edition Reads count
Says edition Reads (Err refused) = Reads (table_refused (refused_number refused) refused.place)

-- of the rows behind the version byte
abbrev pub CountsRows : ℕ → List ℕ → Result ℕ RefusedAt → Type 0
CountsRows edition bytes r = Says edition (ReadsRows edition bytes 0 1) r

-- §9.3: the promise of judging a table: its result is what reading the bytes gives, and it counts the rows
abbrev pub Scans : ℕ → List ℕ → Result ℕ RefusedAt → Type 0
Scans newest bytes r = Says (at bytes 0) (ReadsTableUpTo newest bytes) r

-- the promise of reading at a place: where a row is whole, it is read from its body, and the next place is the one behind it; where none is,
-- the filler and the place itself
pub record PlacedAt (bytes : List ℕ) (place : ℕ) (r : Placed) : Type 0 where
  pub read : WholeAt bytes place → row_in r.row ≡ row_read_at bytes place
  pub stands : WholeAt bytes place → (edition : ℕ) → RowAt edition bytes place (row_in r.row)
  pub behind : WholeAt bytes place → r.next ≡ place + 2 + length_at bytes place
  pub none : ¬ WholeAt bytes place → (row_in r.row ≡ filler) × (r.next ≡ place)

-- the same of a row whose values are stored in an array, which has as many as a row
pub record LoadedAt (bytes : List ℕ) (place : ℕ) (values : List ℕ) (r : Loaded) : Type 0 where
  pub placed : PlacedAt bytes place (record { row = record { tag = r.tag; values = values }; next = r.next })
  pub many : length values ≡ 18

-- the row behind i others of a table that is read
abbrev pub RowBehind : List ℕ → ℕ → Constraint → Type 0
RowBehind bytes i r =
    (edition : ℕ) (rows : List Constraint) → ReadsRows edition bytes 0 1 (table_of rows) → i < length rows → get_elem? rows i ≡ some r

-- row i of some rows is this one, or there is no row i
abbrev pub RowOf : List Constraint → ℕ → Option TableRow → Type 0
RowOf rows i (Some row) = (i < length rows) × (get_elem? rows i ≡ some (row_in row))
RowOf rows i None = length rows ≤ i

-- some rows that are read, and their row i, if they have one
pub record Found (newest : ℕ) (bytes : List ℕ) (i : ℕ) (row : Option TableRow) : Type 0 where
  pub rows : List Constraint
  pub reads : ReadsTableUpTo newest bytes (table_of rows)
  pub room : length rows ≤ row_limit
  pub accepted : AcceptedIn (at bytes 0) rows
  pub is : RowOf rows i row

-- the promise of finding a row by its number: the table is judged, and the row is the one of that number
abbrev pub FindsRow : ℕ → List ℕ → ℕ → Result (Option TableRow) RefusedAt → Type 0
FindsRow newest bytes i (Ok row) = Found newest bytes i row
FindsRow newest bytes i (Err refused) = ReadsTableUpTo newest bytes (table_refused (refused_number refused) refused.place)
