-- The state but for its marks becomes the past, and so do the words of the ring; the ring stays.
use Rattle.row_type.proofs.Names.{[], ap, get_or, number_words, refl, row_as_words}
use Rattle.row_type.proofs.row_words.save_undo.Goals as goal

pub returns : goal.returns
unfolding row_as_words number_words
returns c parameters times state past e =
    let done = c.save_undo_numbers.ensures parameters state past (ap (λ m. get_or m 1 []) e) in
    rw (c.second_at.ensures, c.time_at.ensures, done, e) refl
