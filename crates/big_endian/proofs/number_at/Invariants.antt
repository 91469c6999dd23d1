-- The loop reads byte after byte: the number read, behind which the bytes left stand, is the whole.
use Rattle.constraint.proofs.Library.{◌+◌, ◌-◌, ◌≡◌}
use Rattle.constraint.specs.{Bytes.bytes_at, Bytes.number_at, Bytes.number_behind}
use Rattle.big_endian.proofs.Numbers.{Room}
use Rattle.big_endian.proofs.number_at.Given as goal

abbrev pub invariant-loop-i : goal.invariant-loop-i
invariant-loop-i l =
    Room l.value (l.width - l.i)
    × (number_behind l.value (bytes_at (l.width - l.i) l.fn.bytes (l.fn.place + l.i)) ≡ number_at l.width l.fn.bytes l.fn.place)
