-- The code is that of the reader's result.
use Rattle.constraint.proofs.Library.{sym}
use Rattle.table_row.proofs.Tables.{rows_length}
use Rattle.table_ffi.proofs.table_read.Goals as goal

pub returns-in-Ok : goal.returns-in-Ok
returns-in-Ok c = record { read = _; reads = rw c.in-Ok.is at c.read.ensures; code = sym (rows_length c.in-Ok.rows) }

pub returns-in-Err : goal.returns-in-Err
returns-in-Err c = record { read = _; reads = rw c.in-Err.is at c.read.ensures; code = c.refusal_code.ensures }
