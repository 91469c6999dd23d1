-- The record is read, and its call is taken.
use Rattle.std.proofs.lemmas.Result.{err_from_is_err_and}
use Rattle.delkuthi.proofs.TakenRecords.{next_none, next_refused, next_taken}
use Rattle.delkuthi.proofs.records.take_next.Goals as goal

pub returns-in_err-record : goal.returns-in_err-record
returns-in_err-record c =
    let args = c.args in
    let exit = err_from_is_err_and c.from_residual.result c.from_residual.ensures.1 in
    rw (exit.1, exit.2) (next_none args.bytes.now args.m.now args.place c.in_err-record.ensures)

pub returns-in_err-take : goal.returns-in_err-take
returns-in_err-take c =
    let args = c.args in
    let exit = err_from_is_err_and c.from_residual-in_err-take.result c.from_residual-in_err-take.ensures.1 in
    rw (exit.1, exit.2) (next_refused args.bytes.now args.m.now args.place _ _ c.in_ok-record.ensures _ _ c.in_err-take.ensures)

pub returns : goal.returns
returns c = next_taken c.args.bytes.now c.args.m.now c.args.place _ _ c.in_ok-record.ensures _ c.in_ok-take.ensures
