-- In a row that is there as many wait as its numbers say, and in any other none.
use Rattle.queries.proofs.{Theorem.waiting_asked}
use Rattle.queries.proofs.ffi.delkuthi_row_waiting.Goals as goal

pub returns-in-Some : goal.returns-in-Some
returns-in-Some c n holds =
    let place = c.in-Some.ensures in
    waiting_asked n c.args.row (rw (place.2 n holds, ← place.0) (c.waiting_at.ensures n holds))

pub returns-in-None : goal.returns-in-None
returns-in-None c n holds = waiting_asked n c.args.row (rw (c.in-None.ensures n holds))

pub waiting_at-requires : goal.waiting_at-requires
waiting_at-requires c = c.in-Some.ensures.1
