-- The loop adds row after row: the size so far and the bytes of the rows left are the whole.
use Rattle.table.proofs.Names.{Accepted, Table, TableRow, TypeKnown, [], ◌<◌, ◌≡◌, ◌≤◌, arith, count_of, drop, drop_of_length-le, get_or, length}
use Rattle.table.proofs.Names.{row_body, row_in, row_known, row_short, row_limit, rows_length, rows_room, rows_bytes, rows_of, type_of, ℕ}
use Rattle.table.proofs.{Stores.rows_size}
use Rattle.table.proofs.writer.size_of.Goals as goal

-- an accepted table has no more rows than entries
few : (table : Table) → Accepted (rows_of table) → table.count ≤ row_limit
few table accepted = omega (arith, rows_length table, rows_room accepted.0 0 (rows_of table) (omega arith) accepted.1)

-- the row of a turn is of a known type, so its body has few bytes
known : (table : Table) (accepted : Accepted (rows_of table)) (i : ℕ) (other : TableRow) → i < table.count → length table.rows ≡ 32
    → TypeKnown accepted.0 (type_of (row_in (get_or table.rows i other))) (count_of (row_in (get_or table.rows i other)))
known table accepted i other below entries =
    let rows = few table accepted in
    row_known accepted.0 table i other below (omega arith) accepted.1

short : (table : Table) (accepted : Accepted (rows_of table)) (i : ℕ) (other : TableRow) → i < table.count → length table.rows ≡ 32
    → length (row_body (row_in (get_or table.rows i other))) ≤ 145
short table accepted i other below entries =
    let row = get_or table.rows i other in
    omega (arith, row_short accepted.0 row.tag row.values (known table accepted i other below entries))

pub loop-i-preserved : goal.loop-i-preserved
loop-i-preserved c =
    let table = c.args.table in
    let entries : length table.rows ≡ 32 = c.well_formed.0.1.1.0.1.0.1 in
    let rows = few table c.requires in
    let size = short table c.requires c.loop-i.i (record { tag = 0; values = [] }) (omega arith) entries in
    let next = rows_size table c.loop-i.i (record { tag = 0; values = [] }) (omega arith) (omega arith) in
    (omega (arith, size, c.length.ensures), omega (arith, next, c.length.ensures))

pub returns : goal.returns
unfolding rows_bytes
returns c =
    let table = c.args.table in
    let none : drop c.loop-i.i (rows_of table) ≡ [] =
    drop_of_length-le (rows_of table) {i = c.loop-i.i} (omega (arith, rows_length table)) in
    omega (arith, rw none at c.loop-i.invariant.1)

pub offset_bounds-table-i : goal.offset_bounds-table-i
offset_bounds-table-i c = omega (arith, few c.args.table c.requires)

pub bounds-table-i : goal.bounds-table-i
bounds-table-i c = omega (arith, few c.args.table c.requires)

pub length-requires : goal.length-requires
length-requires c =
    (c.requires.0, known c.args.table c.requires c.loop-i.i _ (omega arith) c.well_formed.0.1.1.0.1.0.1)

pub overflow_add-size : goal.overflow_add-size
overflow_add-size c =
    let size = short c.args.table c.requires c.loop-i.i (record { tag = 0; values = [] }) (omega arith) c.well_formed.0.1.1.0.1.0.1 in
    omega (arith, size, c.length.ensures)

pub overflow_add-size-in-loop-i : goal.overflow_add-size-in-loop-i
overflow_add-size-in-loop-i c =
    let size = short c.args.table c.requires c.loop-i.i (record { tag = 0; values = [] }) (omega arith) c.well_formed.0.1.1.0.1.0.1 in
    omega (arith, size, c.length.ensures, few c.args.table c.requires)
