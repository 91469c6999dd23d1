-- The loop gives the step to one row after the other, as many as the monitor holds, and stops at the first that it crowds.
use Rattle.monitor.proofs.Names.{arith, refl}
use Rattle.monitor.proofs.{First.moved_all, First.moved_full, First.moved_next, First.moved_none}
use Rattle.monitor.proofs.rows.step.Goals as goal

pub returns-in_err-after : goal.returns-in_err-after
returns-in_err-after c =
    let args = c.args in
    rw c.from_residual.ensures
    (moved_full args.o args.number args.m (omega arith) c.loop-i.after c.loop-i.i c.loop-i.invariant _ _
    (omega (arith, c.min-i-end.ensures)) c.in_err-after.ensures refl)

pub loop-i-preserved : goal.loop-i-preserved
loop-i-preserved c =
    let args = c.args in
    moved_next args.o args.number args.m (omega arith) c.loop-i.after c.loop-i.i c.loop-i.invariant
    (omega arith) _ _ _ _
    (omega (arith, c.min-i-end.ensures)) c.in_ok-after.ensures c.saved.ensures refl

pub returns : goal.returns
returns c =
    let args = c.args in
    moved_all args.o args.number args.m (omega arith) c.loop-i.after c.loop-i.i c.loop-i.invariant
    (omega (arith, c.min-i-end.ensures))

pub loop-i-init : goal.loop-i-init
loop-i-init c = moved_none c.args.o c.args.number c.args.m
