-- A ring that two leave and two join is as long as before; a ring of fewer than two, or one that is too long, takes the common way.
use Rattle.row_type.proofs.Names.{◌≤◌, number_words, refl, row_as_words}
use Rattle.row_type.proofs.Renewed.{end_stays, two_renewed}
use Rattle.row_type.proofs.row_words.two_for_oldest.Goals as goal

pub returns-then-len-le-SIZE : goal.returns-then-len-le-SIZE
unfolding row_as_words number_words
returns-then-len-le-SIZE c parameters times state past e =
    let a = c.args in
    let some : 2 ≤ state.len = rw e at c.if-len-ge2.true in
    let few : state.len ≤ 64 = rw e at c.if-len-le-SIZE.true in
    let kept = c.save_undo.ensures parameters times state past e in
    let renewed = two_renewed times state.head state.len a.first a.second some few in
    rw (c.place_of.ensures, kept, c.place_of-after.ensures, c.place_of-at.ensures, e, renewed, end_stays state.head state.len 2 some) refl
