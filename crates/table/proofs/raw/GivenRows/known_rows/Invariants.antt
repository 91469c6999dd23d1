-- The loop asks row after row for its bytes and its type, and stops at the first that lacks one.
use Rattle.table.proofs.Names.{WholeRow, ◌<◌, ℕ}
use Rattle.table.proofs.raw.GivenRows.known_rows.Given as goal

abbrev pub invariant-loop-i : goal.invariant-loop-i
invariant-loop-i l = (j : ℕ) → j < l.i → WholeRow l.self.edition l.self.bytes.now j
