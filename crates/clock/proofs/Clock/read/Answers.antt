-- A record that is whole is asked its call; any other is refused by 14, and the clock is as it was.
use Rattle.std.proofs.lemmas.Result.{err_from_is_err_and}
use Rattle.clock.proofs.{Laws.read_none, Laws.read_refused, Laws.read_taken}
use Rattle.constraint.proofs.Refusals.{numbered}
use Rattle.clock.proofs.Clock.read.Goals as goal

pub returns-in_err-record : goal.returns-in_err-record
returns-in_err-record c =
    let refused = c.in_err-record.ensures in
    let p = err_from_is_err_and c.from_residual.result c.from_residual.ensures.1 in
    rw (p.1, p.2, refused.1) (read_none c.args.bytes.now c.args.place c.args.self.now refused.0)

pub returns-in_err-take : goal.returns-in_err-take
returns-in_err-take c =
    let p = err_from_is_err_and c.from_residual-in_err-take.result c.from_residual-in_err-take.ensures.1 in
    rw (p.1, p.2) (read_refused c.args.bytes.now c.args.place c.args.self.now c.in_ok-record.record c.in_ok-record.ensures c.take.new.self _
    (numbered c.in_err-take.field-0.0).0 c.in_err-take.ensures.takes)

pub returns : goal.returns
returns c =
    read_taken c.args.bytes.now c.args.place c.args.self.now c.in_ok-record.record c.in_ok-record.ensures c.take.new.self c.in_ok-take.ensures.takes
