-- A row is its length field and its body, so what stands behind the field is the body; and each row of an accepted table is of a known type.
use Rattle.constraint.proofs.Library.{List, ◌++◌, ◌+◌, ◌*◌, ◌-◌, ◌∙◌, ◌≡◌, ◌≤◌, ap, arith, drop, get_elem?, length}
use Rattle.constraint.proofs.Library.{ap₂, length-replicate, replicate, sets, some, subst₂, sym, take, take-append_seam, ℕ}
use Rattle.constraint.proofs.{Accepted.row_accepted, Judged.judged_all}
use Rattle.constraint.specs.Accepted.{AcceptedIn}
use Rattle.constraint.specs.Bytes.{bytes_of}
use Rattle.constraint.specs.Constraint.{Constraint}
use Rattle.constraint.specs.Steps.{at}
use Rattle.constraint.specs.Table.{row_body, row_bytes}
use Rattle.constraint.specs.Types.{Known, TypeKnown, count_of, type_of}
use Rattle.big_endian.proofs.Stores.{stores_front}
use Rattle.table_row.proofs.Judging.{row_bytes_long}
use Rattle.table_row.specs.Records.{row_in}
use Rattle.std.specs.Prelude.{Some, None}
use Rattle.table_row.specs.declared.TableRow.{TableRow}
use Rattle.table.specs.Scan.{Found}
use Rattle.monitor.proofs.Demand.{has_none}
use Rattle.read_back.specs.Contract.{GivesBody, TableRowBack, a_row, given, no_row_lem, of_table}

-- the bytes behind the length field of a row that stands before others
behind_field : (c : Constraint) (rest : List ℕ) → take (length (row_body c)) (drop 2 (row_bytes c ++ rest)) ≡ row_body c
unfolding row_bytes bytes_of
behind_field c rest = take-append_seam (row_body c) rest

-- the body in a buffer in which the row was stored
pub body_in : (c : Constraint) (room size : ℕ) (stored : List ℕ) → size ≡ length (row_body c) → 2 + size ≤ room
    → stored ≡ sets (replicate room 0) 0 (row_bytes c) → take (2 + size - 2) (drop 2 stored) ≡ row_body c
body_in c room size stored long fits is =
    let same : 2 + size - 2 ≡ length (row_body c) = omega (arith, long) in
    let front = is ∙ stores_front (replicate room 0) (row_bytes c)
    (omega (arith, long, fits, row_bytes_long c, length-replicate {A = ℕ} room 0)) in
    ap₂ (λ (n : ℕ) (l : List ℕ). take n (drop 2 l)) same front ∙ behind_field c (drop (length (row_bytes c)) (replicate room 0))

-- the row of a number of an accepted table
pub known_at : (edition : ℕ) (rows : List Constraint) → AcceptedIn edition rows → (i : ℕ) (c : Constraint) → get_elem? rows i ≡ some c
    → TypeKnown edition (type_of c) (count_of c)
known_at edition rows accepted i c there =
    (judged_all 4 (TypeKnown edition (type_of c) (count_of c)) _ (row_accepted edition 0 rows accepted i c there)).0

module _ (body before : List ℕ) where
  pub gives : (size : ℕ) (after : List ℕ) → size ≡ length body → size ≤ length before → after ≡ sets before 0 body
      → GivesBody body before (size * 256) after
  gives size after long fits is =
      subst₂ (GivesBody body before) (ap (λ (n : ℕ). n * 256) (sym long)) (sym (is ∙ stores_front before body (omega (arith, long, fits))))
      (given (omega (arith, long, fits)))

-- ---- of a table

module _ (table : List ℕ) (i : ℕ) (before : List ℕ) where
  pub table_none : Found 2 table i None → TableRowBack table i before 15 before
  table_none found = of_table found.rows found.reads (no_row_lem (has_none found.rows i found.is))

  module _ (row : TableRow) (found : Found 2 table i (Some row)) where
    pub table_known : Known (row_in row)
    table_known = (at table 0, known_at (at table 0) found.rows found.accepted i (row_in row) found.is.1)

    pub table_gives : {number : ℕ} {written : List ℕ} → GivesBody (row_body (row_in row)) before number written
        → TableRowBack table i before number written
    table_gives gives = of_table found.rows found.reads (a_row (row_in row) found.is.1 gives)
