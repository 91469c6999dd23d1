-- The oldest that is left gives the due time, and t where none is.
use Rattle.row_type.proofs.Names.{changed_words, drop, number_words, refl, ring, row_as_words}
use Rattle.row_type.proofs.{Oldest.due_or_pushed, Oldest.none_left_pushed}
use Rattle.row_type.proofs.row_words.one_more_waits.Goals as goal

pub returns : goal.returns
unfolding row_as_words number_words changed_words
returns c parameters times state past e =
    let a = c.args in
    let left = drop a.dropped (ring times state.head state.len) in
    let pushed = c.push_one.ensures parameters times state past e in
    rw (
      c.due_after-due.ensures,
      c.saturating_add.ensures,
      c.times.ensures.times,
      pushed,
      e,
      due_or_pushed parameters.upper a.t left,
      none_left_pushed left a.t,
    )
    refl
