-- Where something waits, the oldest is the first time of the ring, which is the row's first array.
use Rattle.queries.proofs.Names.{◌<◌, arith, le-ltb, lt-ltb}
use Rattle.queries.proofs.{Oldest.above_zero, Places.numbers_lie, Places.times_lie}
use Rattle.queries.specs.Numbers.{waiting_at}
use Rattle.queries.proofs.ffi.oldest_at.Goals as goal

pub returns-then-waiting_at-eq0 : goal.returns-then-waiting_at-eq0
returns-then-waiting_at-eq0 c n holds =
    let i = c.args.i in
    rw (le-ltb 0 (waiting_at n i) (omega (arith, c.waiting_at.ensures n holds, c.if-waiting_at-eq0.true)))

pub returns : goal.returns
returns c n holds =
    let args = c.args in
    let m = args.m.now in
    let there = c.requires in
    let waits : 0 < waiting_at n args.i = omega (arith, above_zero _ c.if-waiting_at-eq0.false, c.waiting_at.ensures n holds) in
    rw (
      lt-ltb 0 (waiting_at n args.i) waits,
      c.time_at.ensures,
      times_lie m n holds args.i there,
      (numbers_lie m n holds args.i there).head_is,
    )
