-- The rows' questions are put first, then the room's; then the version byte and the rows are stored.
use Rattle.table.proofs.Names.{arith, rows_of}
use Rattle.table.proofs.Names.{table_bytes_in}
use Rattle.constraint.proofs.Refusals.{exit_is}
use Rattle.table.proofs.{Written.written_all, Written.written_refused, Written.written_short}
use Rattle.table.proofs.write.Goals as goal

pub returns-in_err-validate : goal.returns-in_err-validate
returns-in_err-validate c =
    rw (exit_is c.from_residual.result _ c.from_residual.ensures.1)
    (written_refused c.args.edition (rows_of c.args.table) c.args.buffer.now _ c.in_err-validate.ensures)

pub returns-then-buffer-size : goal.returns-then-buffer-size
unfolding table_bytes_in
returns-then-buffer-size c =
    let a = c.args in
    written_short a.edition (rows_of a.table) a.buffer.now c.in_ok-validate.ensures (omega (arith, c.size_of-size.ensures))

pub returns : goal.returns
unfolding table_bytes_in
returns c =
    let a = c.args in
    written_all a.edition (rows_of a.table) a.buffer.now _ _ _ c.in_ok-validate.ensures
    (omega (arith, c.if-buffer-size.false, c.size_of-size.ensures)) (omega (arith, c.size_of-size.ensures))
    c.put_byte.ensures c.put_rows.ensures
