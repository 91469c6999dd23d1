-- The bytes for which there is room are copied, at the place or, where that is past the end, none.
use Rattle.constraint.proofs.Library.{◌+◌, ◌-◌, ◌≡◌, arith}
use Rattle.big_endian.proofs.{Stores.stores_part}
use Rattle.big_endian.proofs.put.Goals as goal

pub returns : goal.returns
returns c =
    let a = c.args in
    let many : c.min-from.result + c.min-count.result - c.min-from.result ≡ c.min-count.result = omega arith in
    rw (many, c.copy_from_slice.ensures.after)
    (stores_part a.buffer.now a.place a.bytes.now c.min-from.result c.min-count.result c.min-from.ensures c.min-count.ensures)
