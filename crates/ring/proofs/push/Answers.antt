-- The place is that of `push_ring`, and the test is its test.
use Rattle.ring.proofs.Names.{le-ltb, lt-ltb, push_ring}
use Rattle.ring.proofs.push.Goals as goal

pub returns-then-len-lt-SIZE : goal.returns-then-len-lt-SIZE
unfolding push_ring
returns-then-len-lt-SIZE c = rw (lt-ltb _ _ c.if-len-lt-SIZE.true, ← c.place_of-at.ensures)

pub returns : goal.returns
unfolding push_ring
returns c = rw (le-ltb _ _ c.if-len-lt-SIZE.false)
