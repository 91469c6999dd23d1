-- A row after a step (§6.5).
use Rattle.std.specs.Prelude.{Bool, true, false, Option, Some, None}
use Rattle.row.specs.declared.Row.{Row}

-- §6.5: the row after a step, and whether the step crowds it: then the step is refused, and the row is as it was
pub record RowStep : Type 0 where
  pub crowded : Bool
  pub row : Row

-- §6.5: what an optional row says of a row that takes a step: none where the step crowds it
abbrev pub row_step_of : Row → Option Row → RowStep
row_step_of before (Some row) = record { crowded = false; row = row }
row_step_of before None = record { crowded = true; row = before }
