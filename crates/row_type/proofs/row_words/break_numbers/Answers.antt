-- Each number of the state is stored as the definition of a broken row has it.
use Rattle.row_type.proofs.Names.{number_words, refl}
use Rattle.row_type.proofs.row_words.break_numbers.Goals as goal

pub returns : goal.returns
unfolding number_words
returns c parameters state past e = rw (c.live_of.ensures, e) refl
