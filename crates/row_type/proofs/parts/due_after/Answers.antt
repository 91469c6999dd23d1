-- What is left begins with the time at the first place that is not dropped, or is nothing.
use Rattle.row_type.proofs.Names.{ring_from, ring_spent}
use Rattle.row_type.proofs.parts.due_after.Goals as goal

pub returns-then-dropped-times : goal.returns-then-dropped-times
returns-then-dropped-times c = rw (ring_from _ _ _ _ c.if-dropped-times.true, c.saturating_add.ensures, c.at.ensures)

pub returns-else-dropped-times : goal.returns-else-dropped-times
returns-else-dropped-times c = rw (ring_spent _ _ _ _ c.if-dropped-times.false)
