-- The table is judged and the row found; a row of an accepted table is of a known type.
use Rattle.constraint.proofs.Library.{arith}
use Rattle.constraint.proofs.Refusals.{numbered}
use Rattle.constraint.specs.Answers.{refused_number}
use Rattle.fresh.proofs.Refusals.{refused_small}
use Rattle.read_back.specs.Contract.{refused}
use Rattle.read_back.proofs.Bodies.{table_gives, table_known, table_none}
use Rattle.read_back.proofs.ffi.delkuthi_table_row.Goals as goal

pub give_body-requires : goal.give_body-requires
give_body-requires c =
    table_known c.args.table.now c.args.row c.args.body.now c.in-Ok-Some.found (rw c.in-Ok-Some.field-0-is at c.in-Ok-Some.ensures)

pub returns-in-Ok-Some : goal.returns-in-Ok-Some
returns-in-Ok-Some c =
    rw c.number.ensures
    (table_gives c.args.table.now c.args.row c.args.body.now c.in-Ok-Some.found (rw c.in-Ok-Some.field-0-is at c.in-Ok-Some.ensures)
    c.give_body.ensures)

pub returns-in-Ok-None : goal.returns-in-Ok-None
returns-in-Ok-None c =
    rw c.number-in-Ok-None.ensures
    (table_none c.args.table.now c.args.row c.args.body.now (rw c.in-Ok-None.field-0-is at c.in-Ok-None.ensures))

-- a refusal is close to the start
pub returns-in-Err : goal.returns-in-Err
returns-in-Err c =
    let found = c.in-Err.field-0 in
    let some = numbered found.refusal in
    rw c.number-in-Err.ensures (refused (refused_number found) found.place c.in-Err.ensures some.0 (omega (arith, some.1)))

pub overflow_mul-result : goal.overflow_mul-result
overflow_mul-result c =
    let small = refused_small _ (refused_number c.in-Err.field-0) c.in-Err.field-0.place c.in-Err.ensures in omega (arith, small)

pub overflow_add-result : goal.overflow_add-result
overflow_add-result c =
    let small = refused_small _ (refused_number c.in-Err.field-0) c.in-Err.field-0.place c.in-Err.ensures in
    omega (arith, small, c.number-in-Err.ensures, numbered c.in-Err.field-0.refusal)
