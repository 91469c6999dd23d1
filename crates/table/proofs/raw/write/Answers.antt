-- The rows up to the first that stops are judged; where none stops all are written, row by row.
use Rattle.table.proofs.Names.{Bytes, ◌*◌, ◌+◌, ◌≤◌, arith, length, raw_size}
use Rattle.table.proofs.Names.{table_bytes_in}
use Rattle.table.proofs.RawRows.{all_written, full_refused, known_refused, unknown_refused}
use Rattle.constraint.proofs.Refusals.{exit_is}
use Rattle.table.proofs.{Written.written_all, Written.written_short}
use Rattle.table.proofs.raw.write.Goals as goal

pub returns-then-known-lt-ROW_LIMIT : goal.returns-then-known-lt-ROW_LIMIT
unfolding Bytes
returns-then-known-lt-ROW_LIMIT c =
    let known = c.known_rows-known in
    let a = c.args in
    let more : (known.result + 1) * raw_size ≤ length a.rows.now = omega (arith, c.if-rows-known-ge-RAW_SIZE.true, known.ensures.whole) in
    unknown_refused a.edition a.rows.now a.buffer.now known.result (λ i h. omega (arith, (c.type_inv.rows i).fits))
    known.ensures more c.if-known-lt-ROW_LIMIT.true
    (known.ensures.last c.if-known-lt-ROW_LIMIT.true more) (c.in_ok-validate.ensures)

pub returns-else-known-lt-ROW_LIMIT : goal.returns-else-known-lt-ROW_LIMIT
unfolding Bytes
returns-else-known-lt-ROW_LIMIT c =
    let known = c.known_rows-known in
    let a = c.args in
    full_refused a.edition a.rows.now a.buffer.now known.result (λ i h. omega (arith, (c.type_inv.rows i).fits)) known.ensures
    (omega (arith, c.if-rows-known-ge-RAW_SIZE.true, known.ensures.whole)) c.if-known-lt-ROW_LIMIT.false (c.in_ok-validate.ensures)

pub returns-then-buffer-size : goal.returns-then-buffer-size
unfolding table_bytes_in Bytes
returns-then-buffer-size c =
    let known = c.known_rows-known in
    let a = c.args in
    all_written a.edition a.rows.now a.buffer.now _ known.result _ (λ i h. omega (arith, (c.type_inv.rows i).fits))
    known.ensures
    (omega (arith, c.if-rows-known-ge-RAW_SIZE.false, known.ensures.whole))
    (written_short a.edition _ a.buffer.now (c.in_ok-validate.ensures) (omega (
      arith,
      c.size-size.ensures,
      c.if-buffer-size.true,
    )))

pub returns : goal.returns
unfolding table_bytes_in Bytes
returns c =
    let known = c.known_rows-known in let a = c.args in
    all_written a.edition a.rows.now a.buffer.now _ known.result _ (λ i h. omega (arith, (c.type_inv.rows i).fits))
    known.ensures
    (omega (arith, c.if-rows-known-ge-RAW_SIZE.false, known.ensures.whole))
    (written_all a.edition _ a.buffer.now _ _ _ (c.in_ok-validate.ensures) (omega (
      arith,
      c.if-buffer-size.false,
      c.size-size.ensures,
    ))
    (omega (arith, c.size-size.ensures)) c.put_byte.ensures c.put.ensures)

pub returns-in_err-validate : goal.returns-in_err-validate
unfolding Bytes
returns-in_err-validate c =
    let known = c.known_rows-known in
    let a = c.args in
    rw (exit_is c.from_residual.result _ c.from_residual.ensures.1)
    (known_refused a.edition a.rows.now a.buffer.now known.result _ (λ i h. omega (arith, (c.type_inv.rows i).fits)) known.ensures
    c.in_err-validate.ensures)
