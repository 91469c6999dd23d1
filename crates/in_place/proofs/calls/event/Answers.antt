-- The questions come first. An event whose questions are answered "yes" goes to the rows of its kind.
use Rattle.in_place.proofs.Names.{Call, arith, numbered, refl}
use Rattle.constraint.proofs.Refusals.{exit_number}
use Rattle.in_place.proofs.{RefusalOrder.refused_stores, RefusalOrder.taken_stores}
use Rattle.in_place.proofs.calls.event.Goals as goal

pub returns-in_err-event_refusal : goal.returns-in_err-event_refusal
returns-in_err-event_refusal c =
    rw (exit_number c.from_residual.result _ c.from_residual.ensures.1)
    (refused_stores c.args.m.now (Call.Event c.args.kind c.args.time) _ c.in_err-event_refusal.ensures.1 (numbered _).0)

pub event_on-requires : goal.event_on-requires
event_on-requires c = let small = c.in_ok-event_refusal.ensures.0 refl in (omega (arith, small), omega (arith, small))

pub returns : goal.returns
returns c =
    let a = c.args in
    taken_stores a.m.now (Call.Event a.kind a.time) _ c.in_ok-event_refusal.ensures.1 _ c.event_on.new.m (omega arith)
    c.event_on.ensures.untouched c.event_on.ensures.stores
