-- The test is that of `kept_without`.
use Rattle.row.proofs.Names.{eq-eqb, kept_without, ne_eqb}
use Rattle.row.proofs.{Nothing.undo_is}
use Rattle.row.proofs.RowUndo.without_step.Goals as goal

pub returns-then-self-number : goal.returns-then-self-number
unfolding kept_without
returns-then-self-number c = rw (eq-eqb _ _ c.if-self-number.true) (undo_is c.default.result c.default.ensures)

pub returns : goal.returns
unfolding kept_without
returns c = rw (ne_eqb _ _ c.if-self-number.false)
