-- After an event its time is taken.
use Rattle.constraint.proofs.Library.{⊎_elim}
use Rattle.questions.proofs.free.Goals as goal

pub returns-in-Event : goal.returns-in-Event
returns-in-Event c = ⊎_elim (λ is. rw is.1 c.saturating_add.ensures) (λ is. rw is.2 c.saturating_add.ensures) c.in-Event.is
