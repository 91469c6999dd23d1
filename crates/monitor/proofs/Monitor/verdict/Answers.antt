-- The row at the place of that number is the row of that number where there is one, and the verdict is read off its numbers.
use Rattle.monitor.proofs.Names.{arith}
use Rattle.monitor.proofs.{RowVerdicts.place_small, RowVerdicts.verdict_kept}
use Rattle.monitor.proofs.Monitor.verdict.Goals as goal

pub returns : goal.returns
returns c =
    verdict_kept c.args.self (omega arith) c.args.row _ _ (rw c.place-at.ensures at c.by.ensures)

pub offset_bounds-self-at : goal.offset_bounds-self-at
offset_bounds-self-at c = omega (arith, c.place-at.ensures, place_small c.args.row)

pub bounds-self-at : goal.bounds-self-at
bounds-self-at c = omega (arith, c.place-at.ensures, place_small c.args.row)
