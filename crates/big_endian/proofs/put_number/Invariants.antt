-- The loop stores byte after byte, each cut out by a shift: storing those left in what there is now gives the whole.
use Rattle.constraint.proofs.Library.{◌+◌, ◌-◌, ◌≡◌, sets}
use Rattle.constraint.specs.Bytes.{bytes_of}
use Rattle.big_endian.proofs.put_number.Given as goal

abbrev pub invariant-loop-i : goal.invariant-loop-i
invariant-loop-i l = sets l.buffer (l.place + l.i) (bytes_of (l.width - l.i) l.x) ≡ sets l.initial.buffer l.place (bytes_of l.width l.x)
