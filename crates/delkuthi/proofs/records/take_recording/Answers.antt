-- The records are taken one after the other, and behind the last comes the close.
use Rattle.std.proofs.lemmas.Result.{err_from_is_err_and}
use Rattle.delkuthi.proofs.Names.{arith, takes_of}
use Rattle.delkuthi.proofs.{TakenRecords.recording_cut, TakenRecords.recording_whole}
use Rattle.delkuthi.proofs.records.take_recording.Goals as goal

pub returns : goal.returns
returns c rows accepted holds =
    let args = c.args in
    recording_whole rows args.bytes.now accepted args.m.now _ holds (omega arith) c.in_ok-take_records.ensures (takes_of c.close.ensures)

pub returns-in_err-take_records : goal.returns-in_err-take_records
returns-in_err-take_records c rows accepted holds =
    let args = c.args in
    let exit = err_from_is_err_and c.from_residual.result c.from_residual.ensures.1 in
    rw (exit.1, exit.2) (recording_cut rows args.bytes.now accepted args.m.now _ _ holds c.in_err-take_records.ensures)
