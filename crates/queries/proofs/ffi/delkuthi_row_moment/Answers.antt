-- A row that is there has what its numbers say, and any other none.
use Rattle.queries.proofs.{Places.numbers_lie, Theorem.moment_asked}
use Rattle.queries.proofs.ffi.delkuthi_row_moment.Goals as goal

pub returns-in-Some : goal.returns-in-Some
returns-in-Some c n holds =
    let place = c.in-Some.ensures in
    let row = numbers_lie c.args.m.now n holds c.in-Some.i place.1 in
    moment_asked n c.args.row (rw (place.2 n holds, ← place.0, c.moment_by.ensures, row.broken_is, row.mark_is))

pub returns-in-None : goal.returns-in-None
returns-in-None c n holds = moment_asked n c.args.row (rw (c.in-None.ensures n holds))
