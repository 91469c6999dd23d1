-- A tick where the stream is none, else an event.
use Rattle.constraint.proofs.Library.{eq-eqb, ne_eqb}
use Rattle.stretch.proofs.seen.Goals as goal

pub returns-then-kept-eq-NO_STREAM : goal.returns-then-kept-eq-NO_STREAM
returns-then-kept-eq-NO_STREAM c = rw (eq-eqb _ _ c.if-kept-eq-NO_STREAM.true)

pub returns : goal.returns
returns c = rw (ne_eqb _ _ c.if-kept-eq-NO_STREAM.false, c.kind_of.ensures)
