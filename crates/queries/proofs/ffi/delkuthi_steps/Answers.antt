-- The count stands at its place.
use Rattle.queries.proofs.{Places.count_lies, Theorem.steps_asked}
use Rattle.queries.proofs.ffi.delkuthi_steps.Goals as goal

pub returns : goal.returns
returns c n holds = steps_asked n (count_lies _ n holds)
