-- The numbers of the row stand at their places.
use Rattle.queries.proofs.{Places.closed_lies, Places.numbers_lie}
use Rattle.constraint.proofs.Library.{refl}
use Rattle.row_type.proofs.Tests.{bool_number}
use Rattle.queries.proofs.ffi.waiting_at.Goals as goal

pub returns : goal.returns
returns c n holds =
    let m = c.args.m.now in
    let row = numbers_lie m n holds c.args.i c.requires in
    rw (c.waiting_by.ensures, c.from-closed.ensures, bool_number, closed_lies m n holds c.closed.result c.closed.ensures)
    (rw (row.broken_is, row.tag_is, row.kept_is) refl)
