-- Each number of the past is stored in its place.
use Rattle.row.proofs.Names.{number_words, refl}
use Rattle.row.proofs.stored.put_undo.Goals as goal

pub returns : goal.returns
unfolding number_words
returns c parameters state past e = rw (c.store.ensures, e) refl
