-- Row after row, the lowest first: what the event makes of the rows that are left, after those before, is what it makes of all; the soonest time is
-- kept beside, and stored at the end.
use Rattle.in_place.proofs.Names.{Lent, Shaped, ◌<◌, ◌≡◌, words_of_lent}
use Rattle.in_place.proofs.Midways.{Midway}
use Rattle.in_place.proofs.rows.dispatch_rows.Given as goal

abbrev pub invariant-loop-left : goal.invariant-loop-left
invariant-loop-left l =
    (l.left < 4294967296) × ((h : Lent) → l.initial.m ≡ words_of_lent h → Shaped h → Midway h l.rows l.stream l.t l.number l.soonest l.left l.m)

abbrev pub decreases-loop-left : goal.decreases-loop-left
decreases-loop-left l = l.left
