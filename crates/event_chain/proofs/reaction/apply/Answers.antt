-- The definition is that of rows with two words for each colour.
use Rattle.event_chain.specs.{Reaction.decide_reaction, Pairs.decide_pairs}
use Rattle.event_chain.proofs.reaction.apply.Goals as goal

pub returns : goal.returns
unfolding decide_reaction decide_pairs
returns c = c.apply.ensures
