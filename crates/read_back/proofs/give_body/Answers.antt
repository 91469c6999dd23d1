-- The row is stored in a buffer of its own, and its body copied from there.
use Rattle.constraint.proofs.Library.{◌∙◌, ap, arith, sets}
use Rattle.constraint.specs.Table.{row_body}
use Rattle.table_row.specs.Records.{row_in}
use Rattle.table_row.proofs.Judging.{row_bytes_long, row_short}
use Rattle.read_back.specs.Contract.{no_room}
use Rattle.read_back.proofs.Bodies.{body_in, gives}
use Rattle.read_back.proofs.give_body.Goals as goal

pub returns-then-body-size : goal.returns-then-body-size
returns-then-body-size c = no_room (omega (arith, c.if-body-size.true, c.length-size.ensures))

-- a body has at most 145 bytes
pub put-requires : goal.put-requires
put-requires c =
    let row = c.args.row in
    let short = row_short c.requires.0 row.tag row.values c.requires.1 in
    (c.requires, omega (arith, short, row_bytes_long (row_in row)))

pub slice_bounds-put-end-2 : goal.slice_bounds-put-end-2
slice_bounds-put-end-2 c =
    let row = c.args.row in
    omega (arith, row_short c.requires.0 row.tag row.values c.requires.1, c.length-size.ensures, c.put.auto)

pub overflow_mul-result : goal.overflow_mul-result
overflow_mul-result c =
    let row = c.args.row in
    omega (arith, row_short c.requires.0 row.tag row.values c.requires.1, c.length-size.ensures)

pub returns : goal.returns
returns c =
    let a = c.args in let row = row_in a.row in let size = c.length-size in
    let short = row_short c.requires.0 a.row.tag a.row.values c.requires.1 in
    gives (row_body row) a.body.now size.result c.put-2.new.buffer size.ensures (omega (arith, c.if-body-size.false))
    (c.put-2.ensures
    ∙ ap (sets a.body.now 0)
    (body_in row 147 size.result c.put.new.buffer size.ensures (omega (arith, short, size.ensures)) c.put.ensures))
