-- A table that is accepted has begun the monitor, and the recording is put to it; one that is refused has left all as it was.
use Rattle.std.proofs.lemmas.Result.{err_from_is_err_and}
use Rattle.delkuthi.proofs.Names.{[], after, refl}
use Rattle.delkuthi.proofs.{Reports.begun_over, Reports.left_unused, Reports.left_used}
use Rattle.delkuthi.proofs.report.answer_on.Goals as goal

pub take_recording-requires : goal.take_recording-requires
take_recording-requires c =
    let args = c.args in
    let over = begun_over args.table.now args.m.now 0 _ c.in_ok-fresh.ensures refl in
    (after over.0 [], over.2)

pub returns : goal.returns
returns c =
    let args = c.args in
    left_used args.table.now args.m.now args.recording.now 0 _ c.in_ok-fresh.ensures refl _ _ c.take_recording.ensures

pub returns-in_err-fresh : goal.returns-in_err-fresh
returns-in_err-fresh c =
    let args = c.args in
    let exit = err_from_is_err_and c.from_residual.result c.from_residual.ensures.1 in
    rw (exit.1, exit.2) (left_unused args.table.now args.m.now args.recording.now _ _ c.in_err-fresh.ensures)
