-- Each call has its own function.
use Rattle.delkuthi.proofs.Names.{takes_of}
use Rattle.delkuthi.proofs.records.take.Goals as goal

pub returns-in-Event : goal.returns-in-Event
returns-in-Event c = rw c.in-Event.is (takes_of c.event.ensures)

pub returns-in-ColouredEvent : goal.returns-in-ColouredEvent
returns-in-ColouredEvent c = rw c.in-ColouredEvent.is (takes_of c.coloured_event.ensures)

pub returns-in-Tick : goal.returns-in-Tick
returns-in-Tick c = rw c.in-Tick.is (takes_of c.tick.ensures)

pub returns-in-Close : goal.returns-in-Close
returns-in-Close c = rw c.in-Close.is (takes_of c.close.ensures)
