-- Row after row: before the turn of number i the first i are without the step.
use Rattle.in_place.proofs.Names.{Lent, Shaped, ◌≡◌, rows_undone}
use Rattle.in_place.proofs.Names.{words_of_lent}
use Rattle.in_place.proofs.rows.undo_rows.Given as goal

abbrev pub invariant-loop-i : goal.invariant-loop-i
invariant-loop-i l = (h : Lent) → l.initial.m ≡ words_of_lent h → Shaped h → l.m ≡ words_of_lent (rows_undone h l.i l.number)
