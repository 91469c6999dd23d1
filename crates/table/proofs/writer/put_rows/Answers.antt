-- The loop stores row after row: storing those left in what there is now gives the whole.
use Rattle.table.proofs.Names.{Accepted, Constraint, List, Table, TableRow, TypeKnown, [], ◌+◌, ◌<◌, ◌∙◌, ◌≡◌, ◌≤◌, ap, arith, count_of, drop}
use Rattle.table.proofs.Names.{drop_of_length-le, get_or, length, row_bytes_long, row_known, row_body, row_in, row_limit}
use Rattle.table.proofs.Names.{rows_length, rows_room, rows_bytes, rows_of, sets, sym, type_of, ℕ}
use Rattle.table.proofs.{Stores.rows_more, Stores.rows_size}
use Rattle.table.proofs.writer.put_rows.Goals as goal

-- an accepted table has no more rows than entries
few : (table : Table) → Accepted (rows_of table) → table.count ≤ row_limit
few table accepted = omega (arith, rows_length table, rows_room accepted.0 0 (rows_of table) (omega arith) accepted.1)

-- the row of a turn is of a known type
known : (table : Table) (accepted : Accepted (rows_of table)) (i : ℕ) (other : TableRow) → i < table.count → length table.rows ≡ 32
    → TypeKnown accepted.0 (type_of (row_in (get_or table.rows i other))) (count_of (row_in (get_or table.rows i other)))
known table accepted i other below entries =
    let rows = few table accepted in
    row_known accepted.0 table i other below (omega arith) accepted.1

-- it is stored before the rows that are left
size : (table : Table) → Accepted (rows_of table) → (i : ℕ) (other : TableRow) → i < table.count → length table.rows ≡ 32
    → length (rows_bytes (drop i (rows_of table)))
    ≡ 2 + length (row_body (row_in (get_or table.rows i other))) + length (rows_bytes (drop (i + 1) (rows_of table)))
size table accepted i other below entries = let rows = few table accepted in rows_size table i other below (omega arith)

pub put-requires : goal.put-requires
put-requires c =
    let table = c.args.table in
    let entries : length table.rows ≡ 32 = c.well_formed.1.0.1.1.0.1.0.1 in
    let row = row_in (get_or table.rows c.loop-i.i (record { tag = 0; values = [] })) in
    let left = size table c.requires.0 c.loop-i.i (record { tag = 0; values = [] }) (omega arith) entries in
    ((c.requires.0.0, known table c.requires.0 c.loop-i.i _ (omega arith) entries), omega (arith, left, row_bytes_long row, c.requires.1))

pub loop-i-preserved : goal.loop-i-preserved
loop-i-preserved c =
    let loop = c.loop-i in
    let table = c.args.table in
    let entries : length table.rows ≡ 32 = c.well_formed.1.0.1.1.0.1.0.1 in
    let rows = few table c.requires.0 in
    let left = size table c.requires.0 loop.i (record { tag = 0; values = [] }) (omega arith) entries in
    let put = c.put in (
      put.auto.buffer ∙ loop.invariant.0,
      omega (arith, left, c.length.ensures),
      rw (put.ensures, c.length.ensures) (sym (rows_more table loop.i _ (omega arith) (omega arith) loop.buffer loop.place) ∙ loop.invariant.2),
    )

pub returns : goal.returns
unfolding rows_bytes
returns c =
    let loop = c.loop-i in let table = c.args.table in
    sym (ap (λ (left : List Constraint). sets loop.buffer loop.place (rows_bytes left))
    (drop_of_length-le (rows_of table) {i = loop.i} (omega (arith, rows_length table))))
    ∙ loop.invariant.2

pub offset_bounds-table-i : goal.offset_bounds-table-i
offset_bounds-table-i c = omega (arith, few c.args.table c.requires.0)

pub bounds-table-i : goal.bounds-table-i
bounds-table-i c = omega (arith, few c.args.table c.requires.0)

pub length-requires : goal.length-requires
length-requires c =
    (c.requires.0.0, known c.args.table c.requires.0 c.loop-i.i _ (omega arith) c.well_formed.1.0.1.1.0.1.0.1)

pub overflow_add-place : goal.overflow_add-place
overflow_add-place c =
    let left = size c.args.table c.requires.0 c.loop-i.i (record { tag = 0; values = [] }) (omega arith) c.well_formed.1.0.1.1.0.1.0.1 in
    omega (arith, left, c.requires, c.length.ensures)

pub overflow_add-place-in-loop-i : goal.overflow_add-place-in-loop-i
overflow_add-place-in-loop-i c =
    let left = size c.args.table c.requires.0 c.loop-i.i (record { tag = 0; values = [] }) (omega arith) c.well_formed.1.0.1.1.0.1.0.1 in
    omega (arith, left, c.requires, c.length.ensures)
