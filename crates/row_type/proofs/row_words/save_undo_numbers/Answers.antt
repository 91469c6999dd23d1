-- Four words stand ten places on; place and stamp are stored as they are given.
use Rattle.row_type.proofs.Names.{number_words, refl}
use Rattle.row_type.proofs.row_words.save_undo_numbers.Goals as goal

pub returns : goal.returns
unfolding number_words
returns c parameters state past e = rw (c.save_word-4.ensures, c.save_word-3.ensures, c.save_word-2.ensures, c.save_word.ensures, e) refl
