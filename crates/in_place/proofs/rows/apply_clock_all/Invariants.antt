-- Row after row: before the turn of number i the first i have taken it.
use Rattle.in_place.proofs.Names.{Lent, Shaped, ◌≡◌, clock_applied}
use Rattle.in_place.proofs.Names.{words_of_lent}
use Rattle.in_place.proofs.rows.apply_clock_all.Given as goal

abbrev pub invariant-loop-i : goal.invariant-loop-i
invariant-loop-i l = (h : Lent) → l.initial.m ≡ words_of_lent h → Shaped h → l.m ≡ words_of_lent (clock_applied h l.i l.o l.number)
