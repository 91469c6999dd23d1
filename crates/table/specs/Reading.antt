-- What the reader's result says, and its promise.
use Rattle.std.specs.Prelude.{ℕ, List, Result, Ok, Err}
use Rattle.table_row.specs.Tables.{rows_of}
use Rattle.constraint.specs.Answers.{refused_number}
use Rattle.constraint.specs.Table.{TableRead, table_of, table_refused, ReadsTableUpTo}
use Rattle.constraint.specs.declared.RefusedAt.{RefusedAt}
use Rattle.table_row.specs.declared.Table.{Table}

-- what the reader's result says: the rows that were read, or the refusal
abbrev pub read_of : Result Table RefusedAt → TableRead
read_of (Ok table) = table_of (rows_of table)
read_of (Err refused) = table_refused (refused_number refused) refused.place

-- the reader's promise: its result is what reading the bytes gives, so the table holds the rows that were read
abbrev pub ReadsInto : ℕ → List ℕ → Result Table RefusedAt → Type 0
ReadsInto newest bytes r = ReadsTableUpTo newest bytes (read_of r)
