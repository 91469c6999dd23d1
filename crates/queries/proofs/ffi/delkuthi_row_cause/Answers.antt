-- A row that is there has what its numbers say, and any other none.
use Rattle.queries.proofs.Names.{arith}
use Rattle.queries.proofs.{Places.numbers_lie, Theorem.cause_asked}
use Rattle.queries.proofs.ffi.delkuthi_row_cause.Goals as goal

pub returns-in-Some : goal.returns-in-Some
returns-in-Some c = (
  c.cause_by.ensures.0,
  λ n holds.
      let place = c.in-Some.ensures in
      let row = numbers_lie c.args.m.now n holds c.in-Some.i place.1 in
      cause_asked n c.args.row (rw (place.2 n holds, ← place.0, c.cause_by.ensures.1, row.broken_is, row.head_is)),
)

pub returns-in-None : goal.returns-in-None
returns-in-None c = (omega arith, λ n holds. cause_asked n c.args.row (rw (c.in-None.ensures n holds)))
