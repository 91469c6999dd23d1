-- The tests are those of the questions, in their order.
use Rattle.delkuthi.proofs.Names.{Refused, arith, inl, inr, judged_no, judged_yes}
use Rattle.delkuthi.proofs.writing.coloured_form.Goals as goal

pub returns-then-kind-lt-FIRST_COLOURED : goal.returns-then-kind-lt-FIRST_COLOURED
returns-then-kind-lt-FIRST_COLOURED c =
    judged_yes 9 _ _ (Refused 19) (omega (arith, c.if-kind-gt-LAST_KIND.false))
    (judged_no 19 _ _ (λ h. elim c.then-kind-lt-FIRST_COLOURED.either [
      | inl plain ↦ omega (arith, h.0, plain)
      | inr coloured ↦ elim coloured [ inl far ↦ omega (arith, h.1, far) | inr none ↦ h.2 none.2 ]
    ]))

pub returns : goal.returns
returns c =
    judged_yes 9 _ _ _ (omega (arith, c.if-kind-gt-LAST_KIND.false))
    (judged_yes 19 _ _ _ (
      omega (arith, c.if-kind-lt-FIRST_COLOURED.false),
      omega (arith, c.if-colour-gt-LAST_COLOUR.false),
      c.if-version-eq1.false,
    ) c.time_form.ensures)

pub returns-then-kind-gt-LAST_KIND : goal.returns-then-kind-gt-LAST_KIND
returns-then-kind-gt-LAST_KIND c = judged_no 9 _ _ (λ h. omega (arith, h, c.if-kind-gt-LAST_KIND.true))
