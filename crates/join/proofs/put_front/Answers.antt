-- The length field, the kind of an event and its colour are stored one by one.
use Rattle.join.proofs.Names.{◌-◌, arith}
use Rattle.join.proofs.Heads.{front_coloured, front_event, front_tick, long_one, long_three, long_two}
use Rattle.join.proofs.put_front.Goals as goal

pub bounds-buffer-place-2 : goal.bounds-buffer-place-2
bounds-buffer-place-2 c = let args = c.args in omega (arith, long_one args.buffer.now args.place 0)

pub returns-then-head-le10 : goal.returns-then-head-le10
returns-then-head-le10 c =
    let args = c.args in front_tick args.buffer.now args.place args.head c.if-head-le10.true

pub bounds-buffer-place-3 : goal.bounds-buffer-place-3
bounds-buffer-place-3 c =
    let args = c.args in
    omega (arith, long_two args.buffer.now args.place 0 (args.head.size - 2), c.if-head-le10.false)

pub returns-then-head-le11 : goal.returns-then-head-le11
returns-then-head-le11 c =
    let args = c.args in
    front_event args.buffer.now args.place args.head c.if-head-le10.false c.if-head-le11.true

pub bounds-buffer-place-4 : goal.bounds-buffer-place-4
bounds-buffer-place-4 c =
    let args = c.args in
    omega (arith, long_three args.buffer.now args.place 0 (args.head.size - 2) args.head.kind, c.if-head-le11.false)

pub returns : goal.returns
returns c =
    let args = c.args in
    front_coloured args.buffer.now args.place args.head c.if-head-le11.false
