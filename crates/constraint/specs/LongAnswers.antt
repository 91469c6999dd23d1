-- What the results about stamps, stretches and two recordings say.
use Rattle.std.specs.Prelude.{ℕ, Result, Ok, Err}
use Rattle.constraint.specs.Answers.{refused_number}
use Rattle.constraint.specs.Stamps.{StampedAnswer}
use Rattle.constraint.specs.Stretches.{StretchAnswer}
use Rattle.constraint.specs.Joined.{JoinAnswer}
use Rattle.constraint.specs.declared.RefusedAt.{RefusedAt}
use Rattle.constraint.specs.declared.StampedVerdict.{StampedVerdict}
use Rattle.constraint.specs.declared.FoundStretch.{FoundStretch}
use Rattle.constraint.specs.declared.JoinRefusal.{JoinRefusal}
use Rattle.constraint.specs.declared.JoinRefusal.TheVariants.{First, Second, TooShort}

-- §12.5: the answer about late stamps that a result is
abbrev pub stamped_of : Result StampedVerdict RefusedAt → StampedAnswer
stamped_of (Ok verdict) = StampedAnswer.Reads verdict
stamped_of (Err refused) = StampedAnswer.Refused (refused_number refused) refused.place

-- §14.5: the answer about the shortest stretch that a result is
abbrev pub stretch_answer_of : Result FoundStretch RefusedAt → StretchAnswer
stretch_answer_of (Ok stretch) = StretchAnswer.Found stretch.first stretch.size stretch.tried
stretch_answer_of (Err refused) = StretchAnswer.Refused (refused_number refused) refused.place

-- §13.5: the answer to a join that a result is
abbrev pub joined_of : Result ℕ JoinRefusal → JoinAnswer
joined_of (Ok length) = JoinAnswer.Joined length
joined_of (Err (First refused)) = JoinAnswer.FirstRefused (refused_number refused) refused.place
joined_of (Err (Second refused)) = JoinAnswer.SecondRefused (refused_number refused) refused.place
joined_of (Err TooShort) = JoinAnswer.TooShort
