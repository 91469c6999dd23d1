-- The definition is that of rows with two words for each colour.
use Rattle.event_chain.specs.{Age.decide_age, Pairs.decide_pairs}
use Rattle.event_chain.proofs.age.apply.Goals as goal

pub returns : goal.returns
unfolding decide_age decide_pairs
returns c = c.apply.ensures
