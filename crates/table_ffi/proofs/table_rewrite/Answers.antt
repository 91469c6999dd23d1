-- The rows that are written are those that were read.
use Rattle.table_ffi.specs.Codes.{not_read, rewritten}
use Rattle.table_ffi.proofs.table_rewrite.Goals as goal

pub returns-in-Ok : goal.returns-in-Ok
returns-in-Ok c =
    rewritten _ (rw c.in-Ok.is at c.read.ensures)
    (record { answer = _; writes = rw c.byte_at-edition.ensures at c.write.ensures; code = c.write_code.ensures })

pub returns-in-Err : goal.returns-in-Err
returns-in-Err c = not_read _ _ (rw c.in-Err.is at c.read.ensures) c.refusal_code.ensures
