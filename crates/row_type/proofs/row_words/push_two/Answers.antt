-- What the row is becomes its past, the place being that of the first push; the ring is the one that is pushed to twice.
use Rattle.row_type.proofs.Names.{◌∙◌, ◌≡◌, drop_ring, number_words, push_ring, refl, ring_of, row_as_words}
use Rattle.row_type.proofs.row_words.push_two.Goals as goal

pub returns : goal.returns
unfolding row_as_words number_words
returns c parameters times state past e =
    let a = c.args in
    let kept = c.save_undo.ensures parameters times state past e in
    let one : ring_of c.push-more.new.times c.head_after-head.result c.push-more.result
    ≡ push_ring a.first (drop_ring a.dropped (ring_of times state.head state.len)) =
    c.push-more.ensures ∙ rw (c.saturating_sub-len.ensures, c.head_after-head.ensures, kept, e) refl in
    let both : ring_of c.push-both.new.times c.head_after-head.result c.push-both.result
    ≡ push_ring a.second (push_ring a.first (drop_ring a.dropped (ring_of times state.head state.len))) =
    c.push-both.ensures ∙ rw (← one, kept) refl in
    rw (← both, kept, c.place_of.ensures, c.saturating_sub-len.ensures, c.head_after-head.ensures, e) refl
