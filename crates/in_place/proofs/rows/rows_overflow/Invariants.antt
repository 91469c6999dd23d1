-- Row after row, the lowest first: what is left to ask decides, as none of the rows before was crowded.
use Rattle.in_place.proofs.Names.{Lent, Shaped, ◌<◌, ◌≡◌, crowded}
use Rattle.in_place.proofs.Names.{rows_in, words_of_lent}
use Rattle.in_place.proofs.rows.rows_overflow.Given as goal

abbrev pub invariant-loop-left : goal.invariant-loop-left
invariant-loop-left l =
    (l.left < 4294967296) × ((h : Lent) → l.m ≡ words_of_lent h → Shaped h
    → crowded h (rows_in l.rows) l.stream l.t ≡ crowded h (rows_in l.left) l.stream l.t)

abbrev pub decreases-loop-left : goal.decreases-loop-left
decreases-loop-left l = l.left
