-- A pair that breaks the row, or one that is stored with the due time that it leaves.
use Rattle.constraint.proofs.Library.{refl}
use Rattle.row_type.specs.Words.{changed_words, number_words, row_as_words}
use Rattle.event_chain.proofs.pairs.store.Goals as goal

pub returns-in_default : goal.returns-in_default
unfolding row_as_words number_words changed_words
returns-in_default g c parameters times state past e = rw (c.break_at.ensures parameters times state past e, c.in_default.is) refl

pub returns : goal.returns
unfolding row_as_words number_words changed_words
returns g c parameters times state past e =
    rw (
      c.put_marked.ensures parameters times state past e,
      rw (c.times.ensures.times, e) at c.due_after-due.ensures,
      rw e at c.due_marked-before.ensures,
      c.in-Some.is,
    ) refl
