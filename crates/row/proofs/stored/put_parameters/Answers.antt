-- Each number of the constraint is stored in its place, and the rest are zeros.
use Rattle.row.proofs.Names.{number_words, refl}
use Rattle.row.proofs.stored.put_parameters.Goals as goal

pub returns : goal.returns
unfolding number_words
returns c e = rw (c.live_of.ensures, e) refl
