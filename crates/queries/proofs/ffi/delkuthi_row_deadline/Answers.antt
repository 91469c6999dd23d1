-- A row that is there has the deadline of its numbers, and any other none.
use Rattle.queries.proofs.{Theorem.row_deadline_asked}
use Rattle.queries.proofs.ffi.delkuthi_row_deadline.Goals as goal

pub returns-in-Some : goal.returns-in-Some
returns-in-Some c n holds =
    let place = c.in-Some.ensures in
    row_deadline_asked n c.args.row (rw (place.2 n holds, ← place.0) (c.deadline_at.ensures n holds))

pub returns-in-None : goal.returns-in-None
returns-in-None c n holds = row_deadline_asked n c.args.row (rw (c.in-None.ensures n holds))

pub deadline_at-requires : goal.deadline_at-requires
deadline_at-requires c = c.in-Some.ensures.1
