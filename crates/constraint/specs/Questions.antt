-- How the monitor asks questions (§9.1; 01, questions).
use Rattle.std.specs.Prelude.{ℕ, ◌≡◌, List, [], ◌∷◌, ◌⊎◌}
use Rattle.constraint.specs.Answer.{Answer}
use Rattle.constraint.specs.Answer.{Taken, Refused}

-- §9.1; 01, questions: a question: the number of the refusal that a "no" gives, and the statement that it asks about
abbrev pub Question : Type 1
Question = ℕ × Type 0

-- §9.1; 01, questions: the first question answered "no" refuses the call with its number. If all are answered "yes", the call is taken
unfoldable pub Judged : List Question → Answer → Type 0
Judged [] a = a ≡ Taken
Judged (q ∷ later) a = (q.1 × Judged later a) ⊎ (¬ q.1 × (a ≡ Refused q.0))
