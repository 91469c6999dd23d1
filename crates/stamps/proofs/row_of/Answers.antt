-- The tests are on the row's type and values.
use Rattle.stamps.proofs.{Rows.finds_it, Rows.finds_none, Rows.finds_other}
use Rattle.stamps.proofs.row_of.Goals.{then-row-ne-REPEAT-via-then-row-ne-REPEAT, then-row-ne-REPEAT-via-else-row-ne-REPEAT+then-values-ne1}
use Rattle.stamps.proofs.row_of.Goals as goal

pub returns-in_default : goal.returns-in_default
returns-in_default c = rw c.in_default.is (finds_none c.args.late)

pub returns-then-row-ne-REPEAT : goal.returns-then-row-ne-REPEAT
returns-then-row-ne-REPEAT c =
    let late = c.args.late in
    rw c.in-Some.is
    (elim c.then-row-ne-REPEAT.branch [
      | then-row-ne-REPEAT-via-then-row-ne-REPEAT w ↦ finds_other c.in-Some.row late (λ three one. absurd (w.if-row-ne-REPEAT.true three))
      | then-row-ne-REPEAT-via-else-row-ne-REPEAT+then-values-ne1 w ↦
          finds_other c.in-Some.row late (λ three one. absurd (w.if-values-ne1.true one))
    ])

pub returns : goal.returns
returns c = rw c.in-Some.is (finds_it c.in-Some.row c.args.late c.if-row-ne-REPEAT.false c.if-values-ne1.false)
