-- A tick has questions of its own, whatever time is free.
use Rattle.questions.proofs.own_refusal.Goals as goal

pub returns-in-Tick : goal.returns-in-Tick
returns-in-Tick c = rw c.in-Tick.is (c.tick_refusal.ensures c.args.next)
