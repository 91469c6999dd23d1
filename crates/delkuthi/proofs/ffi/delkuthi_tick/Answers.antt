-- What is stored is what a request on the monitor's words promises.
use Rattle.delkuthi.proofs.Names.{takes_of}
use Rattle.delkuthi.proofs.ffi.delkuthi_tick.Goals as goal

pub returns : goal.returns
returns c = rw c.call_number.ensures (takes_of c.tick.ensures)
