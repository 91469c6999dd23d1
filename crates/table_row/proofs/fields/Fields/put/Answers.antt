-- The loop stores field after field: storing those left in what there is now gives the whole.
use Rattle.constraint.proofs.Library.{◌∙◌, ap, arith, sets, sym, List}
use Rattle.constraint.specs.Steps.{at}
use Rattle.constraint.specs.Types.{Field}
use Rattle.constraint.specs.Table.{fields_bytes}
use Rattle.table_row.proofs.{FieldByField.fields_end, Stores.fields_more, Lines.width_small}
use Rattle.table_row.proofs.fields.Fields.put.Goals as goal

pub loop-i-preserved : goal.loop-i-preserved
loop-i-preserved c =
    let fields = c.args.self in let loop = c.loop-i in
    let wide = c.width_of-width in let put = c.put_number in (
      put.auto.buffer ∙ loop.invariant.0,
      omega (arith, wide.ensures, width_small (at fields.roles.now loop.i), loop.invariant.1),
      rw (put.ensures, wide.ensures) (sym (fields_more loop.buffer loop.next fields.roles.now fields.values.now loop.i (omega arith))
          ∙ loop.invariant.2),
    )

pub returns : goal.returns
unfolding fields_bytes
returns c =
    let fields = c.args.self in let loop = c.loop-i in
    sym (ap (λ (fs : List Field). sets loop.buffer loop.next (fields_bytes fs)) (fields_end fields.roles.now fields.values.now loop.i
    (omega (arith, fields.roles_long)))) ∙ loop.invariant.2
