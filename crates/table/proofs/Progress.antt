-- Rows are read one after the other: what reading gives from a place on, behind the rows read before it, is what it gives from the start.
use Rattle.table.proofs.Names.{Constraint, List, ReadsAt, ReadsRows, Refused, Table, Taken, TableRead, [], ◌++◌, ◌+◌, ◌<◌, ◌∷◌, ◌≡◌, ◌≤◌, ap}
use Rattle.table.proofs.Names.{arith}
use Rattle.table.proofs.Names.{length, length-append, no_more, refl, row_refused, row_taken, row_then, rows_length}
use Rattle.table.proofs.Names.{rows_of, subst, subst₂, sym, table_of, table_refused, ℕ}
use Rattle.table.proofs.Names.{length_at, row_read_at}
use Rattle.table.proofs.Places.{place_taken}

-- what is read behind some rows
unfoldable pub rows_then : List Constraint → TableRead → TableRead
rows_then [] later = later
rows_then (c ∷ rows) later = row_then c (rows_then rows later)

then_more : (rows : List Constraint) (c : Constraint) (later : TableRead) → rows_then rows (row_then c later) ≡ rows_then (rows ++ (c ∷ [])) later
unfolding rows_then
then_more [] c later = refl
then_more (d ∷ rows) c later = ap (row_then d) (then_more rows c later)

then_refused : (rows : List Constraint) (n place : ℕ) → rows_then rows (table_refused n place) ≡ table_refused n place
unfolding rows_then
then_refused [] n place = refl
then_refused (c ∷ rows) n place = ap (row_then c) (then_refused rows n place)

then_end : (rows : List Constraint) → rows_then rows (table_of []) ≡ table_of rows
unfolding rows_then
then_end [] = refl
then_end (c ∷ rows) = ap (row_then c) (then_end rows)

-- some rows stand before a place, and what is read from there on, behind them, is the whole
pub record RowsUpTo (edition : ℕ) (bytes : List ℕ) (rows : List Constraint) (place : ℕ) : Type 0 where
  pub within : place ≤ length bytes
  pub whole : (later : TableRead) → ReadsRows edition bytes (length rows) place later → ReadsRows edition bytes 0 1 (rows_then rows later)

pub rows_start : (edition : ℕ) (bytes : List ℕ) → 0 < length bytes → RowsUpTo edition bytes [] 1
unfolding rows_then
rows_start edition bytes there = record { within = there; whole = λ later reads. reads }

pub rows_more : (edition : ℕ) (bytes : List ℕ) (rows : List Constraint) (i place next : ℕ) → i ≡ length rows → RowsUpTo edition bytes rows place
    → place < length bytes → ReadsAt edition bytes i place Taken → next ≡ place + 2 + length_at bytes place
    → RowsUpTo edition bytes (rows ++ (row_read_at bytes place ∷ [])) next
rows_more edition bytes rows i place next counted before there read behind =
    let c = row_read_at bytes place in
    let taken = place_taken edition bytes i place c read.1 in
    record {
      within = omega (arith, taken.whole.1, behind);
      whole = λ later reads.
          subst (ReadsRows edition bytes 0 1) (then_more rows c later)
          (before.whole (row_then c later)
          (row_taken c there read.0 (rw counted at read.1)
          (subst₂ (λ (i p : ℕ). ReadsRows edition bytes i p later) (length-append rows (c ∷ [])) behind reads)));
    }

pub rows_refused : (edition : ℕ) (bytes : List ℕ) (rows : List Constraint) (i place n : ℕ) → i ≡ length rows → RowsUpTo edition bytes rows place
    → place < length bytes → ReadsAt edition bytes i place (Refused n) → ReadsRows edition bytes 0 1 (table_refused n place)
rows_refused edition bytes rows i place n counted before there read =
    subst (ReadsRows edition bytes 0 1) (then_refused rows n place)
    (before.whole (table_refused n place) (row_refused n (row_read_at bytes place) there read.0 (rw counted at read.1)))

pub rows_end : (edition : ℕ) (bytes : List ℕ) (rows : List Constraint) (place : ℕ) → RowsUpTo edition bytes rows place → length bytes ≤ place
    → ReadsRows edition bytes 0 1 (table_of rows)
rows_end edition bytes rows place before end = subst (ReadsRows edition bytes 0 1) (then_end rows) (before.whole (table_of []) (no_more end))

-- the rows of the table stand before a place
abbrev pub ReadUpTo : ℕ → List ℕ → Table → ℕ → Type 0
ReadUpTo edition bytes table place = RowsUpTo edition bytes (rows_of table) place

pub up_to_start : (edition : ℕ) (bytes : List ℕ) (table : Table) → 0 < length bytes → rows_of table ≡ [] → ReadUpTo edition bytes table 1
up_to_start edition bytes table there none = rw none (rows_start edition bytes there)

pub up_to_more : (edition : ℕ) (bytes : List ℕ) (table more : Table) (place next : ℕ) → ReadUpTo edition bytes table place → place < length bytes
    → ReadsAt edition bytes table.count place Taken → next ≡ place + 2 + length_at bytes place
    → rows_of more ≡ rows_of table ++ (row_read_at bytes place ∷ []) → ReadUpTo edition bytes more next
up_to_more edition bytes table more place next up_to_lem there read behind added =
    rw added (rows_more edition bytes (rows_of table) table.count place next (sym (rows_length table)) up_to_lem there read behind)

pub up_to_refused : (edition : ℕ) (bytes : List ℕ) (table : Table) (place n : ℕ) → ReadUpTo edition bytes table place → place < length bytes
    → ReadsAt edition bytes table.count place (Refused n) → ReadsRows edition bytes 0 1 (table_refused n place)
up_to_refused edition bytes table place n up_to_lem there read =
    rows_refused edition bytes (rows_of table) table.count place n (sym (rows_length table)) up_to_lem there read

pub up_to_end : (edition : ℕ) (bytes : List ℕ) (table : Table) (place : ℕ) → ReadUpTo edition bytes table place → length bytes ≤ place
    → ReadsRows edition bytes 0 1 (table_of (rows_of table))
up_to_end edition bytes table place up_to_lem end = rows_end edition bytes (rows_of table) place up_to_lem end
