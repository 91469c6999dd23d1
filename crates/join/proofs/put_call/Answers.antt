-- Length field, kind and colour are stored first, and the time behind them.
use Rattle.join.proofs.Names.{[], ◌∷◌, arith, bytes_of, refl}
use Rattle.join.proofs.{Heads.stored_behind}
use Rattle.join.proofs.put_call.Goals as goal

pub overflow_add-place : goal.overflow_add-place
unfolding bytes_of
overflow_add-place c =
    let room = rw c.in-Event.is at c.requires in
    omega (arith, room)

pub overflow_add-place-in-ColouredEvent : goal.overflow_add-place-in-ColouredEvent
unfolding bytes_of
overflow_add-place-in-ColouredEvent c =
    let room = rw c.in-ColouredEvent.is at c.requires in
    omega (arith, room)

pub overflow_add-place-in-Tick : goal.overflow_add-place-in-Tick
unfolding bytes_of
overflow_add-place-in-Tick c =
    let room = rw c.in-Tick.is at c.requires in
    omega (arith, room)

pub returns-in-Event : goal.returns-in-Event
returns-in-Event c =
    let args = c.args in
    rw c.in-Event.is (stored_behind args.buffer.now c.put.new.buffer _ args.place 3 (0 ∷ 9 ∷ c.in-Event.kind ∷ [])
    (bytes_of 8 c.in-Event.time) refl
    c.put.ensures c.put_eight.ensures)

pub returns-in-ColouredEvent : goal.returns-in-ColouredEvent
returns-in-ColouredEvent c =
    let args = c.args in
    rw c.in-ColouredEvent.is (stored_behind args.buffer.now c.put-in-ColouredEvent.new.buffer _ args.place 4
    (0 ∷ 10 ∷ c.in-ColouredEvent.kind ∷ c.in-ColouredEvent.colour ∷ []) (bytes_of 8 c.in-ColouredEvent.time) refl
    c.put-in-ColouredEvent.ensures c.put_eight-in-ColouredEvent.ensures)

pub returns-in-Tick : goal.returns-in-Tick
returns-in-Tick c =
    let args = c.args in
    rw c.in-Tick.is (stored_behind args.buffer.now c.put-in-Tick.new.buffer _ args.place 2 (0 ∷ 8 ∷ [])
    (bytes_of 8 c.in-Tick.time) refl
    c.put-in-Tick.ensures c.put_eight-in-Tick.ensures)
