-- The rule and the state are read off the numbers, and the times are the first array.
use Rattle.row.proofs.Names.{number_words, refl, row_as_words, words_of_row}
use Rattle.row.proofs.stored.decode_row.Goals as goal

pub returns : goal.returns
unfolding words_of_row row_as_words number_words
returns c w b e =
    rw (c.state_from.ensures, c.parameters_at.ensures, e) refl
