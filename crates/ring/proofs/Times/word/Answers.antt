-- A place within the times is that of the ring, and past their end there is none.
use Rattle.ring.proofs.Laws.{ring_past, ring_read}
use Rattle.ring.proofs.Names.{sym, ◌∙◌}
use Rattle.ring.proofs.Times.word.Goals as goal

pub returns-then-i-self : goal.returns-then-i-self
returns-then-i-self c = c.at.ensures ∙ ring_read _ _ _ _ c.if-i-self.true

pub returns-else-i-self : goal.returns-else-i-self
returns-else-i-self c = sym (ring_past _ _ _ _ c.if-i-self.false)
