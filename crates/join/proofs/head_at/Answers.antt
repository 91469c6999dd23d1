-- A tick is read the short way, any other record as a call.
use Rattle.join.proofs.Heads.{tick_head}
use Rattle.join.proofs.head_at.Goals as goal

pub returns-in-Some : goal.returns-in-Some
returns-in-Some c = rw c.tick.ensures (tick_head c.args.bytes.now c.args.place c.in-Some.time c.in-Some.ensures)
