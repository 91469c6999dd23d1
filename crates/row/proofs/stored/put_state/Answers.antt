-- Each number of the state is stored in its place.
use Rattle.row.proofs.Names.{number_words, refl}
use Rattle.row.proofs.stored.put_state.Goals as goal

pub returns : goal.returns
unfolding number_words
returns c parameters old past e = rw (c.live_of.ensures, c.store.ensures, e) refl
