-- The word behind the new one is what it was.
use Rattle.constraint.proofs.Library.{refl}
use Rattle.row_type.specs.Words.{number_words, row_as_words}
use Rattle.event_chain.proofs.coloured.put_word.Goals as goal

pub returns : goal.returns
unfolding row_as_words number_words
returns c parameters times state past e =
    rw (c.put_marked.ensures parameters times state past e, rw (c.times.ensures.times, e) at c.word-behind.ensures) refl
