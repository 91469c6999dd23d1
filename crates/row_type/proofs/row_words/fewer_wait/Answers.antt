-- The oldest that is left gives the due time, and the length says whether one is.
use Rattle.row_type.proofs.Names.{[], ◌-◌, ◌<◌, ◌≡◌, ◌≤◌, ap, arith, changed_words, get_or, number_words, refl, ring_from, ring_spent}
use Rattle.row_type.proofs.Names.{row_as_words}
use Rattle.row_type.proofs.row_words.fewer_wait.Goals as goal

pub returns-then-len-dropped : goal.returns-then-len-dropped
unfolding row_as_words number_words changed_words
returns-then-len-dropped c parameters times state past e =
    let a = c.args in
    let stayed = c.stay.ensures parameters times state past e in
    let moved = c.move_head.ensures parameters _ _ (ap (λ w. get_or w 1 []) stayed) in
    let all : state.len ≤ a.dropped = rw e at c.if-len-dropped.true in
    let gone : state.len - a.dropped ≡ 0 = omega arith in
    rw (moved, c.place_of-next.ensures, stayed, e, gone, ring_spent times state.head state.len a.dropped all) refl

pub returns : goal.returns
unfolding row_as_words number_words changed_words
returns c parameters times state past e =
    let a = c.args in
    let stayed = c.stay.ensures parameters times state past e in
    let moved = c.move_head.ensures parameters _ _ (ap (λ w. get_or w 1 []) stayed) in
    let some : a.dropped < state.len = rw e at c.if-len-dropped.false in
    rw (c.saturating_add.ensures, moved, c.place_of-next.ensures, stayed, e, ring_from times state.head state.len a.dropped some) refl
