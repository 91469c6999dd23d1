-- A table is read again row by row: a body stands for one row only, so the row at each place is the one that was read there.
use Rattle.constraint.specs.Answers.{refused_number}
use Rattle.constraint.specs.declared.RefusedAt.{RefusedAt}
use Rattle.std.specs.Prelude.{Result, Ok, Err}
use Rattle.table.proofs.Names.{Constraint, Counted, List, Placed, PlacedAt, ReadsAt, ReadsRows, ReadsTableUpTo, Refused, Says}
use Rattle.table.proofs.Names.{Taken}
use Rattle.table.proofs.Names.{TableRead, VersionUpTo, [], ◌++◌, ◌+◌, ◌<◌, ◌∙◌, ◌∷◌, ◌≡◌, ◌≤◌, add-one, arith, at, body_at, drop, drop-cons}
use Rattle.table.proofs.Names.{get_or, get_elem?, length, length-append, never, no_more, refl, row_refused, row_taken, row_limit, subst, subst₂}
use Rattle.table.proofs.Names.{suc, sym}
use Rattle.table.proofs.Names.{some, table_of, table_refused, version_taken, zero, ℕ}
use Rattle.table.proofs.Progress.{RowsUpTo, rows_end, rows_more, rows_refused, rows_start}
use Rattle.table.proofs.{AcceptedRows.rows_accepted, Places.place_taken}
use Rattle.table.proofs.Names.{length_at, row_in, row_read_at, stands_once}

-- Judging

-- as many rows as were counted stand before a place
pub record CountedTo (edition : ℕ) (bytes : List ℕ) (count place : ℕ) : Type 0 where
  pub rows : List Constraint
  pub counted : count ≡ length rows
  pub room : count ≤ row_limit
  pub before : RowsUpTo edition bytes rows place

pub counted_start : (edition : ℕ) (bytes : List ℕ) → 0 < length bytes → CountedTo edition bytes 0 1
counted_start edition bytes there = record { rows = []; counted = refl; room = omega arith; before = rows_start edition bytes there }

pub counted_more : (edition : ℕ) (bytes : List ℕ) (count place next : ℕ) → CountedTo edition bytes count place → place < length bytes
    → ReadsAt edition bytes count place Taken → next ≡ place + 2 + length_at bytes place → CountedTo edition bytes (count + 1) next
counted_more edition bytes count place next so_far there read behind =
    let c = row_read_at bytes place in
    let taken = place_taken edition bytes count place c read.1 in
    let longer = length-append so_far.rows (c ∷ []) in
    record {
      rows = so_far.rows ++ (c ∷ []);
      counted = omega (arith, so_far.counted, longer);
      room = omega (arith, taken.room);
      before = rows_more edition bytes so_far.rows count place next so_far.counted so_far.before there read behind;
    }

pub counted_refused : (edition : ℕ) (bytes : List ℕ) (count place n : ℕ) → CountedTo edition bytes count place → place < length bytes
    → ReadsAt edition bytes count place (Refused n) → ReadsRows edition bytes 0 1 (table_refused n place)
counted_refused edition bytes count place n so_far there read =
    rows_refused edition bytes so_far.rows count place n so_far.counted so_far.before there read

pub counted_end : (edition : ℕ) (bytes : List ℕ) (count place : ℕ) → CountedTo edition bytes count place → length bytes ≤ place
    → Counted edition (ReadsRows edition bytes 0 1) count
counted_end edition bytes count place so_far end =
    let reads = rows_end edition bytes so_far.rows place so_far.before end in
    record {
      rows = so_far.rows;
      reads = reads;
      counted = so_far.counted;
      room = omega (arith, so_far.counted, so_far.room);
      accepted = rows_accepted bytes reads;
    }

-- the version byte is asked for first
pub counted_behind : (newest edition : ℕ) (bytes : List ℕ) (r : Result ℕ RefusedAt) → VersionUpTo newest bytes → edition ≡ at bytes 0
    → Says edition (ReadsRows edition bytes 0 1) r → Says (at bytes 0) (ReadsTableUpTo newest bytes) r
counted_behind newest edition bytes (Ok count) version e said =
    let found = subst (λ (v : ℕ). Counted v (ReadsRows v bytes 0 1) count) e said in
    record {
      rows = found.rows;
      reads = version_taken version found.reads;
      counted = found.counted;
      room = found.room;
      accepted = found.accepted;
    }
counted_behind newest edition bytes (Err refused) version e said =
    version_taken version (subst (λ (v : ℕ). ReadsRows v bytes 0 1 (table_refused (refused_number refused) refused.place)) e said)

-- Reading again

-- the rows of a table stand behind its version byte
pub scan_start : {newest : ℕ} (bytes : List ℕ) (rows : List Constraint) → ReadsTableUpTo newest bytes (table_of rows)
    → ReadsRows (at bytes 0) bytes 0 1 (table_of rows)
scan_start bytes rows (version_taken version reads) = reads

-- the row at a place is the first of those that are read from there on, and the next place is where the others are read
pub scan_row : {edition : ℕ} (bytes : List ℕ) {i place : ℕ} (c : Constraint) (later : List Constraint) (r : Placed)
    → ReadsRows edition bytes i place (table_of (c ∷ later)) → PlacedAt bytes place r → (row_in r.row ≡ c) × ReadsRows edition bytes (i + 1)
    r.next
    (table_of later)
scan_row {edition} bytes c later r reads placed = go reads refl placed
  where
    go : {i place : ℕ} {read : TableRead} → ReadsRows edition bytes i place read → read ≡ table_of (c ∷ later) → PlacedAt bytes place r
        → (row_in r.row ≡ c) × ReadsRows edition bytes (i + 1) r.next (table_of later)
    go (no_more end) e there = never (cc)
    go (row_refused n d within at-d refused) e there = never (cc)
    go (row_taken {i = i} {place = place} {later = table_refused n p} d within at-d judged reads) e there = never (cc)
    go (row_taken {i = i} {place = place} {later = table_of others} d within at-d judged reads) e there =
        let taken = place_taken edition bytes i place d judged in
        let first : d ≡ c = cc in
        let rest : others ≡ later = cc in (
          stands_once (body_at bytes place) taken.shape (row_in r.row) d (there.stands taken.whole edition taken.shape) (at-d
              taken.shape) ∙ first,
          subst₂ (λ (p : ℕ) (rows : List Constraint). ReadsRows edition bytes (i + 1) p (table_of rows)) (sym (there.behind taken.whole)) rest
              reads,
        )

-- so the i-th row that is read is the row i
pub scan_step : {edition : ℕ} (bytes : List ℕ) (rows : List Constraint) (i place : ℕ) (none : Constraint) (r : Placed) → i < length rows
    → ReadsRows edition bytes i place (table_of (drop i rows)) → PlacedAt bytes place r
    → (row_in r.row ≡ get_or rows i none) × ReadsRows edition bytes (i + 1) r.next (table_of (drop (i + 1) rows))
scan_step {edition} bytes rows i place none r there reads placed =
    scan_row bytes (get_or rows i none) (drop (i + 1) rows) r
    (subst (λ (list : List Constraint). ReadsRows edition bytes i place (table_of list)) (rw add-one (drop-cons rows i none there)) reads) placed

-- the row of a number below theirs is there
pub row_there : (rows : List Constraint) (i : ℕ) (none : Constraint) → i < length rows → get_elem? rows i ≡ some (get_or rows i none)
row_there [] i none there = absurd (omega arith)
row_there (c ∷ rows) zero none there = refl
row_there (c ∷ rows) (suc i) none there = row_there rows i none (omega arith)
