-- What the writer's answer says, and its promise.
use Rattle.std.specs.Prelude.{ℕ, ◌≡◌, List, length}
use Rattle.constraint.specs.Questions.{Judged}
use Rattle.constraint.specs.Table.{table_bytes_in, writer_questions, written_to}
use Rattle.constraint.specs.Answer.{Answer}
use Rattle.constraint.specs.Answer.{Taken, Refused}
use Rattle.constraint.specs.Constraint.{Constraint}
use Rattle.table.specs.WriteAnswer.{WriteAnswer}

abbrev pub answer_in : WriteAnswer → Answer
answer_in (WriteAnswer.Written n) = Taken
answer_in (WriteAnswer.Refused n) = Refused n

-- §8.16, §9.7, §9.8
-- the writer's promise: its answer is that of its questions, the buffer is what writing leaves, and the number is that of the bytes written
pub record Writes (edition : ℕ) (rows : List Constraint) (before : List ℕ) (r : WriteAnswer) (after : List ℕ) : Type 0 where
  pub judged : Judged (writer_questions edition rows before) (answer_in r)
  pub buffer : after ≡ written_to edition before rows (answer_in r)
  pub counted : (n : ℕ) → r ≡ WriteAnswer.Written n → n ≡ length (table_bytes_in edition rows)
