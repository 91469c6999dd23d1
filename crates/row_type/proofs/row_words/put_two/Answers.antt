-- What the row is becomes its past, the place being that of the first word; the ring is the one that both words are put into.
use Rattle.row_type.proofs.Names.{◌+◌, ◌≡◌, number_words, put_ring, refl, ring_of, row_as_words}
use Rattle.row_type.proofs.row_words.put_two.Goals as goal

pub returns : goal.returns
unfolding row_as_words number_words
returns c parameters times state past e =
    let a = c.args in
    let kept = c.save_undo.ensures parameters times state past e in
    let both : ring_of c.put_pair.new.times state.head state.len
    ≡ put_ring (a.place + 1) a.second (put_ring a.place a.first (ring_of times state.head state.len)) =
    rw (e, kept) at c.put_pair.ensures in
    rw (← both, kept, c.place_of.ensures, e) refl
