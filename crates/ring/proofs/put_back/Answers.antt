-- Each word is stored at its place; the test is that of `put_back`.
use Rattle.ring.proofs.Names.{le-ltb, lt-ltb, put_back}
use Rattle.ring.proofs.put_back.Goals as goal

pub returns-then-place-lt-SIZE : goal.returns-then-place-lt-SIZE
unfolding put_back
returns-then-place-lt-SIZE c = rw (lt-ltb _ _ c.if-place-lt-SIZE.true, ← c.place_of-at.ensures)

pub returns : goal.returns
unfolding put_back
returns c = rw (le-ltb _ _ c.if-place-lt-SIZE.false, ← c.place_of-at.ensures, ← c.place_of-after.ensures)
