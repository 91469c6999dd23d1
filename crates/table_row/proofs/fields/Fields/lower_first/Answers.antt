-- The loop keeps the bound that it passed: what is asked of the fields left, with that bound before them, is what is asked of all.
use Rattle.constraint.proofs.Library.{ap, arith, false, not, true}
use Rattle.constraint.proofs.Judged.{failed, passed}
use Rattle.constraint.specs.Accepted.{FieldInRange}
use Rattle.table_row.proofs.FieldByField.{bound_here, bound_missed, field_parts, fields_end}
use Rattle.table_row.proofs.fields.Fields.lower_first.Goals as goal

pub returns-then-not-bound_fits : goal.returns-then-not-bound_fits
returns-then-not-bound_fits c =
    let a = c.args in let test = c.bound_fits in
    c.loop-i.invariant.1 false
    (bound_missed a.n c.loop-i.low a.self.roles.now a.self.values.now c.loop-i.i (omega arith)
    (failed test.result test.ensures (ap not c.if-not-bound_fits.true)))

pub bound_after-low-requires : goal.bound_after-low-requires
bound_after-low-requires c =
    let fields = c.args.self in (field_parts FieldInRange fields.roles.now fields.values.now c.loop-i.i (omega arith) c.loop-i.invariant.0).0

pub loop-i-preserved : goal.loop-i-preserved
loop-i-preserved c =
    let a = c.args in let i = c.loop-i.i in
    let test = c.bound_fits in
    let here = passed test.result test.ensures (ap not c.if-not-bound_fits.false) in (
      (field_parts FieldInRange a.self.roles.now a.self.values.now i (omega arith) c.loop-i.invariant.0).1,
      λ b later. c.loop-i.invariant.1 b
          (bound_here a.n c.loop-i.low a.self.roles.now a.self.values.now i (omega arith) here b (rw c.bound_after-low.ensures at later)),
    )

pub returns : goal.returns
returns c =
    let fields = c.args.self in
    c.loop-i.invariant.1 true (rw (fields_end fields.roles.now fields.values.now c.loop-i.i (omega (arith, fields.roles_long))) tt)
