-- The joined recording is no longer than both together; where the limit is smaller the walk measures it.
use Rattle.join.proofs.Names.{[], ◌∷◌, arith}
use Rattle.join.proofs.Bounds.{joined_size, measured_decides}
use Rattle.join.proofs.outgrows.Goals as goal

pub returns-then-first-limit : goal.returns-then-first-limit
returns-then-first-limit c first second records others h =
    let args = c.args in
    omega (arith, joined_size args.first.now args.second.now first second records others, h, c.if-first-limit.true, c.if-second-limit.true)

pub returns : goal.returns
returns c =
    measured_decides c.args.first.now c.args.second.now (0 ∷ []) c.args.limit c.walk.result c.walk.new.buffer c.walk.ensures c.is_none.result
    c.is_none.ensures
