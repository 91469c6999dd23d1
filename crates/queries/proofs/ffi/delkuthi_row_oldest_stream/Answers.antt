-- A row that is there has the stream of the oldest that waits by its numbers, and any other none.
use Rattle.queries.proofs.Names.{◌∙◌}
use Rattle.queries.proofs.{Theorem.oldest_stream_asked}
use Rattle.queries.proofs.ffi.delkuthi_row_oldest_stream.Goals as goal

pub returns-in-Some : goal.returns-in-Some
returns-in-Some c n holds =
    let place = c.in-Some.ensures in
    oldest_stream_asked n c.args.row (rw (place.2 n holds, ← place.0) (c.unwrap_or.ensures ∙ c.oldest_stream_at.ensures n holds))

pub returns-in-None : goal.returns-in-None
returns-in-None c n holds = oldest_stream_asked n c.args.row (rw (c.in-None.ensures n holds))

pub oldest_stream_at-requires : goal.oldest_stream_at-requires
oldest_stream_at-requires c = c.in-Some.ensures.1
