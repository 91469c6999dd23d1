-- The questions are put in their order, and the first "no" gives the number.
use Rattle.in_place.proofs.Names.{Call, ◌<◌, ◌≤◌, arith, last_time, le-leb, le-ltb, lt-leb, lt-ltb, numbered, own_refusal, refl}
use Rattle.constraint.proofs.Refusals.{exit_number}
use Rattle.in_place.proofs.{RefusalOrder.first_number, RefusalOrder.own_number, Parts.number_at}
use Rattle.in_place.proofs.calls.tick_refusal.Goals as goal

pub returns-in_err-first_refusal : goal.returns-in_err-first_refusal
returns-in_err-first_refusal c h e s =
    rw (exit_number c.from_residual.result _ c.from_residual.ensures.1)
    (first_number h _ (own_refusal (Call.Tick c.args.time) h.monitor.clock 0) (c.in_err-first_refusal.ensures h e s) (numbered _).0)

pub returns-then-time-gt-LAST_TIME : goal.returns-then-time-gt-LAST_TIME
returns-then-time-gt-LAST_TIME c h e s =
    own_number h _ _ (c.in_ok-first_refusal.ensures h e s) (rw (lt-ltb last_time c.args.time c.if-time-gt-LAST_TIME.true) refl)

pub returns-then-time-m : goal.returns-then-time-m
returns-then-time-m c h e s =
    let a = c.args in
    let clock = number_at h s a.m.now e 0 in
    let early : a.time ≤ h.monitor.clock = omega (arith, clock, c.if-time-m.true) in
    own_number h _ _ (c.in_ok-first_refusal.ensures h e s)
    (rw (le-ltb last_time a.time c.if-time-gt-LAST_TIME.false, le-leb a.time h.monitor.clock early) refl)

pub returns : goal.returns
returns c h e s =
    let a = c.args in
    let clock = number_at h s a.m.now e 0 in
    let later : h.monitor.clock < a.time = omega (arith, clock, c.if-time-m.false) in
    own_number h _ _ (c.in_ok-first_refusal.ensures h e s)
    (rw (le-ltb last_time a.time c.if-time-gt-LAST_TIME.false, lt-leb a.time h.monitor.clock later) refl)
