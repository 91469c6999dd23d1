-- Four rows after four: before turn number i it is the soonest due time of the first 4 i.
use Rattle.in_place.proofs.Names.{Lent, Shaped, ◌*◌, ◌≡◌, soonest_of, words_of_lent}
use Rattle.in_place.proofs.rows.soonest.Given as goal

abbrev pub invariant-loop-i : goal.invariant-loop-i
invariant-loop-i l = (h : Lent) → l.m ≡ words_of_lent h → Shaped h → l.time ≡ soonest_of h.monitor.rows (4 * l.i)
