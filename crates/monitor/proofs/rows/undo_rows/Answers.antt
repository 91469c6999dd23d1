-- The loop takes the step from one row after the other, as many as the monitor holds.
use Rattle.monitor.proofs.Names.{◌∙◌, arith, sym}
use Rattle.monitor.proofs.{First.without_all, First.without_next, First.without_none}
use Rattle.monitor.proofs.rows.undo_rows.Goals as goal

pub loop-i-init : goal.loop-i-init
loop-i-init c = sym (without_none c.args.number c.args.m (omega arith) (omega arith))

pub loop-i-preserved : goal.loop-i-preserved
loop-i-preserved c =
    let args = c.args in
    without_next args.number args.m (omega arith) (omega arith) c.loop-i.after c.loop-i.i c.loop-i.invariant
    (omega (arith, c.min-i-end.ensures)) _ _ _ _ c.without_step.ensures c.without_step-in-loop-i.ensures

pub returns : goal.returns
returns c =
    c.loop-i.invariant
    ∙ without_all c.args.number c.args.m (omega arith) (omega arith) c.loop-i.i
    (omega (arith, c.min-i-end.ensures))
