-- The number is that of the first "no"; where there is none the clock, the count, the first free time and the mark are those after the call.
use Rattle.std.proofs.lemmas.Result.{err_from_is_err_and}
use Rattle.clock.proofs.{Laws.refusal_of, Laws.takes_refused, Laws.takes_taken}
use Rattle.constraint.proofs.Library.{◌≡◌, arith, refl, set-get_or}
use Rattle.constraint.proofs.Refusals.{numbered}
use Rattle.constraint.specs.Answers.{refusal_number}
use Rattle.clock.proofs.Clock.take.Goals as goal

pub returns-in_err-refusal : goal.returns-in_err-refusal
returns-in_err-refusal c =
    let o = c.args.self.now in
    let number = refusal_number c.in_err-refusal.field-0.0 in
    let asked : number ≡ refusal_of o c.args.call = rw c.place-at.ensures at c.in_err-refusal.ensures in
    let p = err_from_is_err_and c.from_residual.result c.from_residual.ensures.1 in
    rw (p.1, p.2)
    (record { takes = takes_refused o c.args.call number asked (numbered c.in_err-refusal.field-0.0).0; ticks = λ t e. refl })

pub returns : goal.returns
returns c =
    let o = c.args.self.now in
    let asked : 0 ≡ refusal_of o c.args.call = rw c.place-at.ensures at c.in_ok-refusal.ensures in
    record {
      takes = takes_taken o c.args.call 0 asked (omega arith) _
          (simp (c.closed-self.ensures, c.saturating_add-self.ensures, c.free.ensures, c.step_input-o.ensures, c.place-at.ensures));
      ticks = λ t e. rw (c.free.ensures, e) (set-get_or o.next c.place-at.result 0);
    }
