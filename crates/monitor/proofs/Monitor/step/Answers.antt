-- The number of the first "no" is that of `refusal_by`; past it the rows take the call, which is the next step, unless it crowds one of them.
use Rattle.monitor.proofs.Names.{◌∙◌, ◌≡◌, ap, arith, asks, crowds, false, place_small, refl, step_of, stepped_by, sym, taken_call, true}
use Rattle.constraint.proofs.Refusals.{exit_is}
use Rattle.monitor.proofs.{Answers.crowded_by, Answers.refused_by, Answers.taken_by, Theorem.step_kept}
use Rattle.constraint.proofs.{Refusals.numbered}
use Rattle.constraint.specs.Answers.{refusal_number}
use Rattle.monitor.proofs.Monitor.step.Goals as goal

pub returns-in_err-refusal : goal.returns-in_err-refusal
unfolding step_of
returns-in_err-refusal c =
    let m = c.args.self in let call = c.args.call in let refusal = c.in_err-refusal.field-0.0 in
    rw (exit_is c.from_residual.result _ c.from_residual.ensures.1)
    (step_kept m (asks call)
    (refused_by m call (refusal_number refusal) (numbered refusal).0
    ∙ ap (stepped_by m call) (rw c.place-at.ensures at c.in_err-refusal.ensures)))

pub returns-in_default : goal.returns-in_default
unfolding step_of
returns-in_default c =
    let m = c.args.self in let call = c.args.call in
    let by_number : stepped_by m call 0 ≡ step_of m call =
    ap (stepped_by m call) (rw c.place-at.ensures at c.in_ok-refusal.ensures) in
    let crowds_is : crowds m call ≡ true =
    rw (c.saturating_add-step.ensures, c.step_input-o.ensures) at (rw c.in_default.is at (sym c.step.ensures.crowded_is)) in
    step_kept m (asks call) (crowded_by m call 0 (omega arith) crowds_is ∙ by_number)

pub offset_bounds-after-at : goal.offset_bounds-after-at
offset_bounds-after-at c = omega (arith, c.place-at.ensures, place_small c.args.call)

pub bounds-after-at : goal.bounds-after-at
bounds-after-at c = omega (arith, c.place-at.ensures, place_small c.args.call)

pub returns : goal.returns
unfolding taken_call step_of
returns c =
    let m = c.args.self in let call = c.args.call in
    let by_number : stepped_by m call 0 ≡ step_of m call =
    ap (stepped_by m call) (rw c.place-at.ensures at c.in_ok-refusal.ensures) in
    let there = c.in-Some.is in
    let none_full : crowds m call ≡ false =
    rw (c.saturating_add-step.ensures, c.step_input-o.ensures) at (rw there at (sym c.step.ensures.crowded_is)) in
    step_kept m (asks call)
    (simp (
      c.undo_of-after.ensures,
      c.closed.ensures,
      c.free.ensures,
      (rw there at c.step.ensures).stepped refl,
      c.saturating_add-step.ensures,
      c.step_input-o.ensures,
      c.place-at.ensures,
    ) (taken_by m call 0 (omega arith) none_full ∙ by_number))

pub offset_bounds-self-at : goal.offset_bounds-self-at
offset_bounds-self-at c = omega (arith, c.place-at.ensures, place_small c.args.call)

pub bounds-self-at : goal.bounds-self-at
bounds-self-at c = omega (arith, c.place-at.ensures, place_small c.args.call)
