-- By the test for room.
use Rattle.constraint.proofs.Library.{le-ltb, lt-ltb}
use Rattle.text.specs.Content.{with_byte}
use Rattle.text.proofs.Text.push.Goals as goal

pub returns-then-len-lt-TEXT_LIMIT : goal.returns-then-len-lt-TEXT_LIMIT
unfolding with_byte
returns-then-len-lt-TEXT_LIMIT c = rw (lt-ltb _ _ c.if-len-lt-TEXT_LIMIT.true)

pub returns-else-len-lt-TEXT_LIMIT : goal.returns-else-len-lt-TEXT_LIMIT
unfolding with_byte
returns-else-len-lt-TEXT_LIMIT c = rw (le-ltb _ _ c.if-len-lt-TEXT_LIMIT.false)
