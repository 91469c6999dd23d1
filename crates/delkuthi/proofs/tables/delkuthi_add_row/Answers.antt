-- The length of the table, and the place of a refusal, are small enough for 256 times them to fit in 64 bits.
use Rattle.constraint.proofs.Refusals.{numbered}
use Rattle.constraint.specs.Answers.{refused_number}
use Rattle.delkuthi.proofs.Adding.{numbered_added, numbered_refused, small_added, small_refused}
use Rattle.delkuthi.proofs.Names.{◌*◌, ◌+◌, ◌≡◌, arith, refl}
use Rattle.delkuthi.proofs.tables.delkuthi_add_row.Goals as goal

pub returns-in-Ok : goal.returns-in-Ok
returns-in-Ok c =
    let a = c.args in numbered_added a.table.now a.length a.body.now c.add_row.new.buffer _ c.in-Ok.ensures c.in-Ok.count refl

pub overflow_mul-result : goal.overflow_mul-result
overflow_mul-result c =
    let a = c.args in omega (arith, small_added a.table.now a.length a.body.now c.add_row.new.buffer _ c.in-Ok.ensures c.in-Ok.count refl)

pub returns-in-Err : goal.returns-in-Err
returns-in-Err c =
    let a = c.args in
    let refused = c.in-Err.refused in
    let small = small_refused a.table.now a.length a.body.now c.add_row.new.buffer _ c.in-Err.ensures (refused_number refused) refused.place refl in
    let number : c.refusal_number.result ≡ refused.place * 256 + refused_number refused = omega (arith, c.refusal_number.ensures, small.1) in
    rw number
    (numbered_refused a.table.now a.length a.body.now c.add_row.new.buffer _ c.in-Err.ensures (refused_number refused) refused.place refl
    (omega (arith, numbered refused.refusal)))
