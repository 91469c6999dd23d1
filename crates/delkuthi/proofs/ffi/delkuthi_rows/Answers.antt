-- No monitor has more than 32 rows, at which their number is cut.
use Rattle.delkuthi.proofs.{WordsRead.len_read, Numbers.rows_kept}
use Rattle.delkuthi.proofs.ffi.delkuthi_rows.Goals as goal

pub returns : goal.returns
returns c = (
  c.held.ensures.0,
  λ m holds. rows_kept m c.held.result (len_read c.args.m.now m holds c.held.result c.held.ensures.1),
)
