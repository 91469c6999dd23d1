-- The rows of a table record.
use Rattle.std.specs.Prelude.{◌≤◌, ◌<◌, ◌≡◌, List, [], ◌∷◌, ◌++◌, map, take, replicate}
use Rattle.constraint.specs.Limits.{row_limit}
use Rattle.constraint.specs.Constraint.{Constraint}
use Rattle.table_row.specs.Records.{no_constraint, row_in}
use Rattle.table_row.specs.declared.TableRow.{TableRow}
use Rattle.table_row.specs.declared.Table.{Table}

-- the first `count` rows; behind the 32 there are, a count above 32 is a table of more than 32 rows
unfoldable pub rows_of : Table → List Constraint
rows_of table = take table.count (map row_in table.rows ++ replicate table.count no_constraint)

-- r is the table with one row more; where there is no room for it, its count is above 32, so that it is refused with 3
pub record Adds (table : Table) (row : TableRow) (r : Table) : Type 0 where
  pub room : table.count < row_limit → rows_of r ≡ rows_of table ++ (row_in row ∷ [])
  pub full : row_limit ≤ table.count → row_limit < r.count
