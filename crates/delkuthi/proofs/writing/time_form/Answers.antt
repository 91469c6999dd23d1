-- The test is that of the question.
use Rattle.delkuthi.proofs.Names.{Taken, arith, judged_no, judged_none, judged_yes}
use Rattle.delkuthi.proofs.writing.time_form.Goals as goal

pub returns-then-time-gt-LAST_TIME : goal.returns-then-time-gt-LAST_TIME
returns-then-time-gt-LAST_TIME c = judged_no 10 _ _ (λ h. omega (arith, h, c.if-time-gt-LAST_TIME.true))

pub returns : goal.returns
returns c = judged_yes 10 _ _ Taken (omega (arith, c.if-time-gt-LAST_TIME.false)) judged_none
