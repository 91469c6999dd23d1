-- The verdict is made of numbers that are read off their places.
use Rattle.monitor.specs.Stepped.{row_verdict_of}
use Rattle.delkuthi.proofs.Names.{◌∙◌, arith, no_row, verdict_kept}
use Rattle.delkuthi.proofs.{WordsRead.placed, WordsRead.rows_there, WordsRead.verdict_read}
use Rattle.delkuthi.proofs.ffi.read.Goals as goal

pub returns : goal.returns
returns c m holds =
    let args = c.args in
    (verdict_kept m (rows_there args.m.now m holds) args.row no_row (row_verdict_of c.by.result)
    (rw c.from.ensures at c.by.ensures
    ∙ verdict_read args.m.now m holds args.row c.place-at.result c.held.result c.closed.result c.place-at.ensures c.held.ensures.1
    c.closed.ensures)).reads

pub offset_bounds-m-at : goal.offset_bounds-m-at
offset_bounds-m-at c = omega (arith, placed c.place-at.result c.args.row c.place-at.ensures)

pub bounds-m-at : goal.bounds-m-at
bounds-m-at c = omega (arith, placed c.place-at.result c.args.row c.place-at.ensures)
