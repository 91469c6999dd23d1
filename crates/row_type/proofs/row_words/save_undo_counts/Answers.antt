-- Each of the words stands ten places on.
use Rattle.row_type.proofs.Names.{number_words, refl, row_as_words}
use Rattle.row_type.proofs.row_words.save_undo_counts.Goals as goal

pub returns : goal.returns
unfolding row_as_words number_words
returns c parameters times state past e = rw (c.save_word-4.ensures, c.save_word-3.ensures, c.save_word-2.ensures, c.save_word.ensures, e) refl
