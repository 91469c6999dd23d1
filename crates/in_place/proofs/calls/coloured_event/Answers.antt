-- The questions are put first; the stream of one that is answered is its kind’s and colour’s.
use Rattle.in_place.proofs.Names.{Call, OnStream, arith, number_in, numbered, refl, subst, ℕ}
use Rattle.constraint.proofs.Refusals.{exit_number}
use Rattle.in_place.proofs.{RefusalOrder.refused_stores, RefusalOrder.taken_stores}
use Rattle.in_place.proofs.calls.coloured_event.Goals as goal

pub returns-in_err-coloured_refusal : goal.returns-in_err-coloured_refusal
returns-in_err-coloured_refusal c =
    let a = c.args in
    rw (exit_number c.from_residual.result _ c.from_residual.ensures.1)
    (refused_stores a.m.now (Call.ColouredEvent a.kind a.colour a.time) _ c.in_err-coloured_refusal.ensures.1 (numbered _).0)

pub returns : goal.returns
returns c =
    let a = c.args in
    let on = subst (λ (s : ℕ). OnStream a.m.now a.kind s a.time (number_in c.event_on.result) c.event_on.new.m) c.stream_of-stream.ensures.0
    c.event_on.ensures in
    taken_stores a.m.now (Call.ColouredEvent a.kind a.colour a.time) _ c.in_ok-coloured_refusal.ensures.1 (number_in c.event_on.result)
    c.event_on.new.m (omega arith) on.untouched on.stores

pub stream_of-stream-requires : goal.stream_of-stream-requires
stream_of-stream-requires c = c.in_ok-coloured_refusal.ensures.0 refl
