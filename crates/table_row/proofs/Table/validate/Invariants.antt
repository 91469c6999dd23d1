-- The loop puts to each row its questions in turn: the answer to those of the rows left is the answer to all.
use Rattle.constraint.proofs.Library.{[], drop}
use Rattle.constraint.specs.Questions.{Judged}
use Rattle.constraint.specs.Answer.{Answer}
use Rattle.table_row.specs.Tables.{rows_of}
use Rattle.constraint.specs.Accepted.{rows_questions}
use Rattle.table_row.proofs.Table.validate.Given as goal

abbrev pub invariant-loop-i : goal.invariant-loop-i
invariant-loop-i l =
    ((a : Answer) → Judged (rows_questions l.edition l.i (drop l.i (rows_of l.self)) []) a
    → Judged (rows_questions l.edition 0 (rows_of l.self) []) a)
