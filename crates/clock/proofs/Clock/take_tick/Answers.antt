-- The answer to a tick asks for no first free time, and the tick changes none.
use Rattle.std.proofs.lemmas.Result.{err_from_is_err_and}
use Rattle.clock.proofs.{Laws.takes_refused, Laws.takes_taken, Laws.tick_after}
use Rattle.constraint.proofs.Library.{arith, refl}
use Rattle.constraint.proofs.Refusals.{numbered}
use Rattle.constraint.specs.Answers.{refusal_number}
use Rattle.constraint.specs.declared.Call.{Call}
use Rattle.clock.proofs.Clock.take_tick.Goals as goal

pub returns-in_err-refusal : goal.returns-in_err-refusal
returns-in_err-refusal c =
    let o = c.args.self.now in
    let number = refusal_number c.in_err-refusal.field-0.0 in
    let p = err_from_is_err_and c.from_residual.result c.from_residual.ensures.1 in
    rw (p.1, p.2)
    (record {
      takes = takes_refused o (Call.Tick c.args.time) number c.in_err-refusal.ensures (numbered c.in_err-refusal.field-0.0).0;
      frees = refl;
    })

pub returns : goal.returns
returns c =
    let o = c.args.self.now in
    record {
      takes = takes_taken o (Call.Tick c.args.time) 0 c.in_ok-refusal.ensures (omega arith) _
          (tick_after o c.args.time c.saturating_add-count.result c.saturating_add-count.ensures);
      frees = refl;
    }
