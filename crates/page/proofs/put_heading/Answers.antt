-- A heading is put before each sixteenth row and nowhere else.
use Rattle.constraint.proofs.Library.{◌%◌, ◌≡◌, add-zero, eq-eqb, eqb, false, ne_eqb, true}
use Rattle.constraint.specs.Page.{hyphens}
use Rattle.page.proofs.put_heading.Goals as goal

pub returns-then-row-ne0 : goal.returns-then-row-ne0
returns-then-row-ne0 c =
    let args = c.args in
    let plain : eqb (args.row % 16) 0 ≡ false = ne_eqb (args.row % 16) 0 c.if-row-ne0.true in
    record { stored = rw plain; behind = rw (plain, add-zero) }

pub returns : goal.returns
unfolding hyphens
returns c =
    let args = c.args in
    let headed : eqb (args.row % 16) 0 ≡ true = eq-eqb (args.row % 16) 0 c.if-row-ne0.false in
    record { stored = rw headed c.put.ensures; behind = rw headed }
