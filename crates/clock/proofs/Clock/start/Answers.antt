-- A fresh monitor over no rows has this clock, these first free times and this mark.
use Rattle.clock.proofs.{Laws.starts}
use Rattle.constraint.proofs.Library.{refl}
use Rattle.clock.proofs.Clock.start.Goals as goal

pub returns : goal.returns
returns c = (starts, refl)
