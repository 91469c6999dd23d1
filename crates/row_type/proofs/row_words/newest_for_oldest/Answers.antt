-- A ring that one leaves and one joins is as long as before; one that is empty or too long takes the common way.
use Rattle.row_type.proofs.Names.{◌<◌, ◌≤◌, changed_words, drop, number_words, refl, ring, row_as_words}
use Rattle.row_type.proofs.{Oldest.due_or_pushed, Oldest.none_left_pushed, Renewed.end_stays, Renewed.one_renewed}
use Rattle.row_type.proofs.row_words.newest_for_oldest.Goals as goal

pub returns-then-len-le-SIZE : goal.returns-then-len-le-SIZE
unfolding row_as_words number_words changed_words
returns-then-len-le-SIZE c parameters times state past e =
    let a = c.args in
    let left = drop 1 (ring times state.head state.len) in
    let some : 0 < state.len = rw e at c.if-len-gt0.true in
    let few : state.len ≤ 64 = rw e at c.if-len-le-SIZE.true in
    let kept = c.save_undo.ensures parameters times state past e in
    rw (
      c.place_of.ensures,
      c.due_after-due.ensures,
      c.saturating_add.ensures,
      c.times.ensures.times,
      kept,
      c.place_of-at.ensures,
      e,
      one_renewed times state.head state.len a.t some few,
      end_stays state.head state.len 1 some,
      due_or_pushed parameters.upper a.t left,
      none_left_pushed left a.t,
    )
    refl
