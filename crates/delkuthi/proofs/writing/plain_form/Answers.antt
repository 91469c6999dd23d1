-- The tests are those of the questions, in their order.
use Rattle.delkuthi.proofs.Names.{Refused, arith, judged_no, judged_yes}
use Rattle.delkuthi.proofs.writing.plain_form.Goals as goal

pub returns-then-kind-gt-LAST_KIND : goal.returns-then-kind-gt-LAST_KIND
returns-then-kind-gt-LAST_KIND c = judged_no 9 _ _ (λ h. omega (arith, h, c.if-kind-gt-LAST_KIND.true))

pub returns-then-kind-ge-FIRST_COLOURED : goal.returns-then-kind-ge-FIRST_COLOURED
returns-then-kind-ge-FIRST_COLOURED c = judged_yes 9 _ _ (Refused 19) (omega (
  arith,
  c.if-kind-gt-LAST_KIND.false,
)) (judged_no 19 _ _ (λ h. omega (arith, h, c.if-kind-ge-FIRST_COLOURED.true)))

pub returns : goal.returns
returns c = judged_yes 9 _ _ _ (omega (arith, c.if-kind-gt-LAST_KIND.false))
    (judged_yes 19 _ _ _ (omega (arith, c.if-kind-ge-FIRST_COLOURED.false)) c.time_form.ensures)
