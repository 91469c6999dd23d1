-- The loop reads value after value: storing those left in what there is now gives the whole.
use Rattle.constraint.proofs.Library.{List, ℕ, ◌∙◌, ap, arith, drop_of_length-le}
use Rattle.constraint.proofs.Library.{sets, sym}
use Rattle.constraint.specs.Steps.{at}
use Rattle.table_row.specs.Records.{values_at}
use Rattle.table_row.proofs.{Stores.values_more, Lines.width_small}
use Rattle.table_row.proofs.fill.Goals as goal

pub loop-i-preserved : goal.loop-i-preserved
loop-i-preserved c =
    let a = c.args in let loop = c.loop-i in
    let wide = c.width_of-width in (
      omega (arith, wide.ensures, width_small (at a.roles.now loop.i)),
      rw (c.number_at.ensures, wide.ensures) (sym (values_more loop.values a.roles.now a.body.now loop.place loop.i (omega
          arith)) ∙ loop.invariant.1),
    )

pub returns : goal.returns
unfolding values_at
returns c =
    let a = c.args in let loop = c.loop-i in
    sym (ap (λ (left : List ℕ). sets loop.values loop.i (values_at left a.body.now loop.place))
    (drop_of_length-le a.roles.now {i = loop.i} (omega arith)))
    ∙ loop.invariant.1
