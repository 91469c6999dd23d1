-- A count of 0 is no row.
use Rattle.constraint.proofs.Library.{refl}
use Rattle.table_row.specs.Tables.{rows_of}
use Rattle.table_row.proofs.Table.new.Goals as goal

pub returns : goal.returns
unfolding rows_of
returns c = refl
