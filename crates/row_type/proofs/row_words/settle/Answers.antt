-- The two numbers are stored at their places, and nothing else.
use Rattle.row_type.proofs.Names.{number_words, refl}
use Rattle.row_type.proofs.row_words.settle.Goals as goal

pub returns : goal.returns
unfolding number_words
returns c parameters state past e = rw e refl
