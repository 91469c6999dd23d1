-- The answer to a call (§9.1; 01, questions).
use Rattle.std.specs.Prelude.{ℕ}

-- §9.1; 01, questions: a call is taken, or refused with the number of the first question answered "no"
pub data Answer : Type 0 where
  Taken : Answer
  Refused : ℕ → Answer
