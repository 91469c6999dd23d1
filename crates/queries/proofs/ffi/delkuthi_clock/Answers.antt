-- The clock stands at its place.
use Rattle.queries.proofs.{Places.clock_lies, Theorem.clock_asked}
use Rattle.queries.proofs.ffi.delkuthi_clock.Goals as goal

pub returns : goal.returns
returns c n holds = clock_asked n (clock_lies _ n holds)
