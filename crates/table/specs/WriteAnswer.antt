-- The answer to writing a table (§9.7, §9.8).
use Rattle.std.specs.Prelude.{ℕ, Result, Ok, Err}
use Rattle.constraint.specs.Answers.{refusal_number}
use Rattle.constraint.specs.declared.Refusal.{Refusal}

-- §9.7, §9.8: the number of bytes written, or refused with the number of the first question answered "no"
pub data WriteAnswer : Type 0 where
  Written : ℕ → WriteAnswer
  Refused : ℕ → WriteAnswer

-- §9.7: the answer that a result is
abbrev pub write_answer_of : Result ℕ Refusal → WriteAnswer
write_answer_of (Ok count) = WriteAnswer.Written count
write_answer_of (Err refusal) = WriteAnswer.Refused (refusal_number refusal)
