-- The first stretch that is as long as its start needs is the first that breaks the row.
use Rattle.constraint.proofs.Library.{refl}
use Rattle.stretch.proofs.{Answers.tries_first, Answers.tries_none}
use Rattle.table_row.specs.Records.{row_in}
use Rattle.stretch.proofs.try_row.Goals as goal

pub returns-in-Some : goal.returns-in-Some
returns-in-Some c steps run accepted =
    let args = c.args in
    tries_first (row_in args.wanted) args.records.now args.count c.needs-need.result c.needs-need.ensures steps run accepted
    _ (rw c.in-Some.is at c.search.ensures)

pub returns-in-None : goal.returns-in-None
returns-in-None c steps run accepted =
    let args = c.args in
    rw c.refused.ensures (
      refl,
      refl,
      tries_none (row_in args.wanted) args.records.now args.count c.needs-need.result c.needs-need.ensures steps run accepted
          (rw c.in-None.is at c.search.ensures),
    )
