-- A close has no record.
use Rattle.delkuthi.proofs.Names.{judged_no}
use Rattle.delkuthi.proofs.writing.form_refusal.Goals as goal

pub returns-in-Close : goal.returns-in-Close
returns-in-Close c = rw c.in-Close.is (judged_no 14 _ _ (λ h. h))
