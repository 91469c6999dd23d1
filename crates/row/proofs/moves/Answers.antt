-- The tests are those of the definition, in their order.
use Rattle.row.proofs.Names.{le-ltb, lt-ltb, moves_by}
use Rattle.row.proofs.moves.Goals as goal

pub returns-then-now-gt0 : goal.returns-then-now-gt0
unfolding moves_by
returns-then-now-gt0 c = rw (lt-ltb _ _ c.if-now-gt0.true)

pub returns-then-now-o : goal.returns-then-now-o
unfolding moves_by
returns-then-now-o c = rw (le-ltb _ _ c.if-now-gt0.false, lt-ltb _ _ c.if-now-o.true)

pub returns-then-o : goal.returns-then-o
unfolding moves_by
returns-then-o c =
    rw (le-ltb _ _ c.if-now-gt0.false, le-ltb _ _ c.if-now-o.false, c.if-o.true)

pub returns : goal.returns
unfolding moves_by
returns c =
    rw (le-ltb _ _ c.if-now-gt0.false, le-ltb _ _ c.if-now-o.false, c.if-o.false) c.concerns.ensures
