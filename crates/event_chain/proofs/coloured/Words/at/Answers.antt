-- The place of the word is the kind's place behind that of the colour's first word.
use Rattle.constraint.proofs.Library.{◌∙◌, arith}
use Rattle.ring.proofs.Laws.{ring_read}
use Rattle.event_chain.proofs.coloured.Words.at.Goals as goal

pub returns : goal.returns
returns c = c.at.ensures ∙ ring_read _ _ _ _ (omega arith)
