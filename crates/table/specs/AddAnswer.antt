-- The answer to adding a row to a table (§9.12).
use Rattle.std.specs.Prelude.{ℕ, Result, Ok, Err}
use Rattle.constraint.specs.Answers.{refused_number}
use Rattle.constraint.specs.declared.RefusedAt.{RefusedAt}

-- §9.12: the number of bytes of the table then, or refused with the number of the first question answered "no" and the place
pub data AddAnswer : Type 0 where
  Added : ℕ → AddAnswer
  Refused : ℕ → ℕ → AddAnswer

-- §9.12: the answer that a result is
abbrev pub add_answer_of : Result ℕ RefusedAt → AddAnswer
add_answer_of (Ok count) = AddAnswer.Added count
add_answer_of (Err refused) = AddAnswer.Refused (refused_number refused) refused.place
