-- The answer to reading a table or a recording (§9.3, §9.4).
use Rattle.std.specs.Prelude.{ℕ, Result, Ok, Err}
use Rattle.constraint.specs.Answers.{refused_number}
use Rattle.constraint.specs.declared.RefusedAt.{RefusedAt}

-- §9.3, §9.4: accepted, or refused with the number of the first question answered "no" and the place
pub data ReadAnswer : Type 0 where
  Accepted : ReadAnswer
  Refused : ℕ → ℕ → ReadAnswer

-- §9.3: the answer that a result is
abbrev pub read_answer_of : {T : Type 0} → Result T RefusedAt → ReadAnswer
read_answer_of (Ok x) = ReadAnswer.Accepted
read_answer_of (Err refused) = ReadAnswer.Refused (refused_number refused) refused.place
