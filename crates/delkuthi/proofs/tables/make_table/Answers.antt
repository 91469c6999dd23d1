-- A written table is short enough for 256 times its length to fit in 64 bits. The number of a refusal gives its row.
use Rattle.constraint.proofs.Refusals.{numbered}
use Rattle.delkuthi.proofs.Names.{arith, refl}
use Rattle.delkuthi.proofs.{Refusals.makes_refused, Refusals.makes_written, Refusals.raw_short}
use Rattle.delkuthi.proofs.tables.make_table.Goals as goal

pub overflow_mul-result : goal.overflow_mul-result
overflow_mul-result c =
    let a = c.args in omega (arith, raw_short a.rows.now a.table.now c.write.new.buffer _ c.in-Ok.count refl c.in-Ok.ensures)

pub returns-in-Ok : goal.returns-in-Ok
returns-in-Ok c =
    let a = c.args in makes_written a.rows.now a.table.now c.write.new.buffer _ c.in-Ok.count refl c.in-Ok.ensures

pub returns-in-Err : goal.returns-in-Err
returns-in-Err c =
    let a = c.args in
    makes_refused a.rows.now a.table.now c.write.new.buffer _ _ c.refused_row.result c.row_number.result
    (omega (arith, numbered c.in-Err.refusal)) refl c.in-Err.ensures c.refused_row.ensures c.row_number.ensures
