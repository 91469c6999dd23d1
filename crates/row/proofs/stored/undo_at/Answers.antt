-- Each part is read off its place.
use Rattle.row.proofs.Names.{number_words, refl, row_as_words, words_of_row}
use Rattle.row.proofs.stored.undo_at.Goals as goal

pub returns : goal.returns
unfolding words_of_row row_as_words number_words
returns c w b e = rw (c.state_from.ensures, e) refl
