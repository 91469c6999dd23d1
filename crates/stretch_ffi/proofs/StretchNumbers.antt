-- Each question about a stretch has a number from 1 to 127, and so has each refusal.
use Rattle.constraint.proofs.Library.{List, refl, ℕ}
use Rattle.constraint.specs.Stretches.{AnswersStretchUpTo, answers, no_recording, no_stretch, no_table, stretch_questions}
use Rattle.constraint.specs.Stretches.{StretchAnswer}
use Rattle.delkuthi.proofs.RecordNumbers.{Short, number_short, refusal_short, short?, table_short}

pub stretch_short : {newest : ℕ} (table recording : List ℕ) (i n place : ℕ)
    → AnswersStretchUpTo newest table recording i (StretchAnswer.Refused n place) → Short n
unfolding short?
stretch_short table recording i n place (no_table m at read) = table_short table m at read
stretch_short table recording i n place (no_recording rows m at read refused) = refusal_short recording m at refused
stretch_short table recording i n place (answers rows steps read taken (no_stretch m judged)) =
    number_short (stretch_questions rows steps i) m refl judged
