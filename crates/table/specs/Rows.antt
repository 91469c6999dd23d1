-- One row: the row that the body at a place is read as, and the answer to its questions.
use Rattle.std.specs.Prelude.{ℕ, List}
use Rattle.constraint.specs.Constraint.{Constraint}
use Rattle.constraint.specs.Questions.{Judged}
use Rattle.constraint.specs.Table.{RowAt, body_at, place_questions}
use Rattle.constraint.specs.Answer.{Answer}
use Rattle.table_row.specs.Records.{row_from, row_in}

-- the row that the body at a place is read as: of a fitting shape, the one that it stands for
abbrev pub row_read_at : List ℕ → ℕ → Constraint
row_read_at bytes place = row_in (row_from (body_at bytes place))

-- that row is the row at the place, and the answer is that of its questions in a table of an edition, with i rows before it
abbrev pub ReadsAt : ℕ → List ℕ → ℕ → ℕ → Answer → Type 0
ReadsAt edition bytes i place a =
    RowAt edition bytes place (row_read_at bytes place) × Judged (place_questions edition bytes i place (row_read_at bytes place)) a
