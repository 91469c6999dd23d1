-- The loop puts the row of one constraint after the other into an array of rows of the filler.
use Rattle.monitor.proofs.Names.{Known, Table, TableRow, ◌<◌, ◌≡◌, arith, drop-cons, filler, get_or, length}
use Rattle.monitor.proofs.Names.{length-take-le}
use Rattle.monitor.proofs.Names.{monitor_of, no_row, row_in, row_of, rows_from, rows_length, rows_of, subst, subst⁻¹, ℕ}
use Rattle.monitor.proofs.{Filled.filled_next}
use Rattle.questions.proofs.{Places.no_undo_is}
use Rattle.row.proofs.{Nothing.undo_is}
use Rattle.monitor.proofs.rows.over.Goals as goal

-- the row of an entry
row_at : (table : Table) (i : ℕ) (other : TableRow) → i < table.count → i < length table.rows → get_or (rows_of table) i filler
    ≡ row_in (get_or table.rows i other)
row_at table i other counted there = cc (drop-cons (rows_of table) i filler (omega (arith, rows_length table)), rows_from table i other counted there)

-- the filler's type is known
known_filler : Known filler
known_filler = (1, record { type_known = (omega arith, omega arith); n_known = λ e. (omega arith, omega arith) })

-- the loop's row is of a known type
pub begin-requires : goal.begin-requires
begin-requires c =
    let table = c.args.table in let i = c.loop-i.i in
    subst Known (row_at table i _ (omega arith) (omega arith)) (c.requires.2 i (omega arith))

pub loop-i-preserved : goal.loop-i-preserved
loop-i-preserved c =
    let i = c.loop-i.i in
    let table = c.args.table in
    let counted : i < table.count = omega arith in
    rw (c.loop-i.invariant, c.begin.ensures, ← row_at table i _ counted (omega arith))
    (filled_next row_of no_row (rows_of table) 32 i filler (omega (arith, rows_length table)) (omega arith))

pub returns : goal.returns
unfolding monitor_of
returns c =
    let args = c.args in
    let all : c.loop-i.i ≡ args.len = omega arith in
    rw (
      c.loop-i.invariant,
      all,
      length-take-le args.len (rows_of args.table) (omega (arith, rows_length args.table)),
      no_undo_is c.default-2.result c.default-2.ensures,
      undo_is c.default.result c.default.ensures,
    )

pub begin-rows-requires : goal.begin-rows-requires
begin-rows-requires c = subst⁻¹ Known c.filler.ensures known_filler

pub loop-i-init : goal.loop-i-init
loop-i-init c = rw (c.begin-rows.ensures, c.filler.ensures)
