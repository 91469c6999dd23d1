-- The questions are put first; then the numbers are counted on, and the clock goes to the rows.
use Rattle.in_place.proofs.Names.{Call, arith, numbered, recorded_to, refl}
use Rattle.constraint.proofs.Refusals.{exit_number}
use Rattle.in_place.proofs.{RefusalOrder.refused_stores, RefusalOrder.taken_stores, Parts.shaped_to}
use Rattle.in_place.proofs.calls.tick.Goals as goal

pub returns-in_err-tick_refusal : goal.returns-in_err-tick_refusal
returns-in_err-tick_refusal c =
    rw (exit_number c.from_residual.result _ c.from_residual.ensures.1)
    (refused_stores c.args.m.now (Call.Tick c.args.time) _ c.in_err-tick_refusal.ensures (numbered _).0)

pub returns : goal.returns
returns c =
    let a = c.args in
    taken_stores a.m.now (Call.Tick a.time) _ c.in_ok-tick_refusal.ensures 0 c.check_deadlines.new.m (omega arith)
    (λ some. absurd (some refl))
    (λ h e s going. (refl, c.check_deadlines.ensures (recorded_to h a.time 0) (c.record_tick.ensures h e s going) (shaped_to h a.time 0 s)))
