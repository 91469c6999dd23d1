-- The questions come first; then the record is stored where it reads back.
use Rattle.std.proofs.lemmas.Result.{err_from_is_err_and}
use Rattle.delkuthi.proofs.Names.{◌+◌, ap, arith, ℕ}
use Rattle.delkuthi.proofs.WrittenRecords.{put_refused, put_room, put_written}
use Rattle.delkuthi.proofs.writing.put_record.Goals as goal

pub returns-in_err-write_refusal : goal.returns-in_err-write_refusal
returns-in_err-write_refusal c =
    let args = c.args in
    let exit = err_from_is_err_and c.from_residual.result c.from_residual.ensures.1 in
    rw (exit.1, exit.2) (put_refused args.recording.now args.size args.call _ c.in_err-write_refusal.ensures)

pub overflow_add-next : goal.overflow_add-next
overflow_add-next c =
    let args = c.args in
    let room = put_room args.recording.now args.size args.call c.in_ok-write_refusal.ensures in
    record { fits = omega (arith, room, c.place_for-place.ensures, c.size_of.ensures) }

pub put_call-requires : goal.put_call-requires
put_call-requires c =
    let args = c.args in
    let room = put_room args.recording.now args.size args.call c.in_ok-write_refusal.ensures in
    omega (arith, room, c.place_for-place.ensures)

pub returns : goal.returns
returns c =
    let args = c.args in
    put_written args.recording.now args.size args.call c.in_ok-write_refusal.ensures c.place_for-place.ensures
    (ap (λ (n : ℕ). c.place_for-place.result + n) c.size_of.ensures) c.begin.ensures c.put_call.ensures
