-- The record's values are asked.
use Rattle.table_row.proofs.TableRow.validate.Goals as goal

pub returns : goal.returns
returns c = c.validate_values.ensures
