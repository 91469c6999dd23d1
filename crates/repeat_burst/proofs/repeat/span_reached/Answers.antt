-- The two tests are those of `span_reached`.
use Rattle.constraint.proofs.Library.{le-ltb, lt-ltb, refl}
use Rattle.row_type.specs.Words.{number_words, row_as_words}
use Rattle.ring.proofs.Laws.{ring_length}
use Rattle.row_type.proofs.Oldest.{front_at}
use Rattle.repeat_burst.proofs.repeat.span_reached.Goals as goal

pub returns-then-times-row : goal.returns-then-times-row
unfolding row_as_words number_words
returns-then-times-row c parameters times state past e =
    rw (ring_length, lt-ltb _ _ (rw (c.times-times.ensures.len, e) at c.if-times-row.true)) refl

pub returns : goal.returns
unfolding row_as_words number_words
returns c parameters times state past e =
    rw (
      ring_length,
      le-ltb _ _ (rw (c.times-times.ensures.len, e) at c.if-times-row.false),
      c.reaches.ensures,
      c.front.ensures,
      c.times-times.ensures.times,
      front_at,
      e,
    ) refl
