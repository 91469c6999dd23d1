-- The numbers of the row stand at their places.
use Rattle.queries.proofs.{Places.closed_lies, Places.numbers_lie}
use Rattle.row_type.proofs.Tests.{bool_number}
use Rattle.queries.proofs.ffi.deadline_at.Goals as goal

pub returns : goal.returns
returns c n holds =
    let m = c.args.m.now in
    let row = numbers_lie m n holds c.args.i c.requires in
    rw (c.deadline_by.ensures, c.from.ensures, bool_number, closed_lies m n holds c.closed.result c.closed.ensures, row.broken_is, row.due_is)
