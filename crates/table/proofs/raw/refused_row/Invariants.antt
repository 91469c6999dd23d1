-- The loop asks row after row, and stops at the first that is not taken.
use Rattle.table.proofs.Names.{RowTaken, ◌<◌, ℕ}
use Rattle.table.proofs.raw.refused_row.Given as goal

abbrev pub invariant-loop-i : goal.invariant-loop-i
invariant-loop-i l = (j : ℕ) → j < l.i → RowTaken l.edition l.bytes j
