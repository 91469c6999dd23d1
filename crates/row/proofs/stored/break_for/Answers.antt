-- The row breaks, and the cause and the moment are stored over the numbers of the broken row.
use Rattle.row.proofs.Names.{broken_row, number_words, refl, row_as_words, undo_record_of, words_of_row}
use Rattle.row.proofs.stored.break_for.Goals as goal

pub returns : goal.returns
unfolding words_of_row row_as_words number_words broken_row
returns c r b e =
    let broke = c.break_at.ensures r.parameters r.times r.now (undo_record_of b) e in
    rw (c.moment_of.ensures, c.cause_of.ensures, broke, e) refl
