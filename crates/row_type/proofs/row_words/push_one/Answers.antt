-- What the row is becomes its past, the place being that of the push; the ring is the one that is pushed to.
use Rattle.row_type.proofs.Names.{◌∙◌, ◌≡◌, arith, drop_ring, number_words, push_ring, refl, ring_of, row_as_words}
use Rattle.row_type.proofs.row_words.push_one.Goals as goal

pub returns-then-dropped-gt0 : goal.returns-then-dropped-gt0
unfolding row_as_words number_words
returns-then-dropped-gt0 c parameters times state past e =
    let a = c.args in
    let kept = c.save_undo.ensures parameters times state past e in
    let pushed : ring_of c.push-more.new.times c.head_after-head.result c.push-more.result
    ≡ push_ring a.word (drop_ring a.dropped (ring_of times state.head state.len)) =
    c.push-more.ensures ∙ rw (c.saturating_sub-len.ensures, c.head_after-head.ensures, kept, e) refl in
    rw (← pushed, kept, c.place_of.ensures, c.saturating_sub-len.ensures, c.head_after-head.ensures, e) refl

pub returns-else-dropped-gt0 : goal.returns-else-dropped-gt0
unfolding row_as_words number_words
returns-else-dropped-gt0 c parameters times state past e =
    let a = c.args in
    let kept = c.save_undo.ensures parameters times state past e in
    let none : a.dropped ≡ 0 = omega (arith, c.if-dropped-gt0.false) in
    let pushed : ring_of c.push-more.new.times c.head_after-head.result c.push-more.result
    ≡ push_ring a.word (drop_ring a.dropped (ring_of times state.head state.len)) =
    c.push-more.ensures ∙ rw (c.saturating_sub-len.ensures, c.head_after-head.ensures, kept, e) refl in
    rw (← pushed, kept, c.place_of.ensures, c.saturating_sub-len.ensures, c.head_after-head.ensures, e, none) refl
