-- The place is that of `put_ring`, and the test is its test.
use Rattle.ring.proofs.Names.{le-ltb, lt-ltb, put_ring}
use Rattle.ring.proofs.put.Goals as goal

pub returns-then-i-len : goal.returns-then-i-len
unfolding put_ring
returns-then-i-len c = rw (lt-ltb _ _ c.if-i-len.true, ← c.place_of-at.ensures)

pub returns-else-i-len : goal.returns-else-i-len
unfolding put_ring
returns-else-i-len c = rw (le-ltb _ _ c.if-i-len.false)
