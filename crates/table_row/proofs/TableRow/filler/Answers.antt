-- The record of no values of type 6 is an Order of kind 0 twice.
use Rattle.constraint.proofs.Library.{refl}
use Rattle.table_row.specs.Records.{row_read}
use Rattle.table_row.proofs.TableRow.filler.Goals as goal

pub returns : goal.returns
unfolding row_read
returns c = refl
