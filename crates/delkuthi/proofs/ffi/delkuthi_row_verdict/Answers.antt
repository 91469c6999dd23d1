-- By cases on the verdict that was read.
use Rattle.delkuthi.proofs.{Numbers.word_read}
use Rattle.delkuthi.proofs.ffi.delkuthi_row_verdict.Goals as goal

pub returns-in-Ok-Open : goal.returns-in-Ok-Open
returns-in-Ok-Open c = word_read _ c.read.ensures (rw (c.in-Ok-Open.is, c.in-Ok-Open.field-0-is))

pub returns-in-Ok-Kept : goal.returns-in-Ok-Kept
returns-in-Ok-Kept c = word_read _ c.read.ensures (rw (c.in-Ok-Kept.is, c.in-Ok-Kept.field-0-is))

pub returns-in-Ok-Broken : goal.returns-in-Ok-Broken
returns-in-Ok-Broken c = word_read _ c.read.ensures (rw (c.in-Ok-Broken.is, c.in-Ok-Broken.field-0-is))

pub returns-in-Err : goal.returns-in-Err
returns-in-Err c = word_read _ c.read.ensures (rw c.in-Err.is)
