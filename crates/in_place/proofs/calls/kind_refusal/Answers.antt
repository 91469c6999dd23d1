-- The questions 8, 24 and 9 are put in their order, and the first "no" gives the number.
use Rattle.in_place.proofs.Names.{arith, cond, last_kind, le-ltb, lt-ltb, ltb, numbered, refl}
use Rattle.constraint.proofs.Refusals.{exit_number}
use Rattle.in_place.proofs.{RefusalOrder.first_number, RefusalOrder.own_number, RefusalOrder.some_number}
use Rattle.in_place.proofs.calls.kind_refusal.Goals as goal

pub returns-in_err-first_refusal : goal.returns-in_err-first_refusal
returns-in_err-first_refusal c =
    rw (exit_number c.from_residual.result _ c.from_residual.ensures.1) (
      λ z. absurd (some_number _ z),
      λ h e s. first_number h _ (cond (ltb last_kind c.args.kind) 9 0) (c.in_err-first_refusal.ensures h e s) (numbered _).0,
    )

pub returns-then-kind-gt-LAST_KIND : goal.returns-then-kind-gt-LAST_KIND
returns-then-kind-gt-LAST_KIND c = (
  λ z. absurd (omega (arith, z)),
  λ h e s.
      own_number h _ _ (c.in_ok-first_refusal.ensures h e s) (rw (lt-ltb last_kind c.args.kind c.if-kind-gt-LAST_KIND.true) refl),
)

pub returns : goal.returns
returns c = (
  λ _. omega (arith, c.if-kind-gt-LAST_KIND.false),
  λ h e s.
      own_number h _ _ (c.in_ok-first_refusal.ensures h e s) (rw (le-ltb last_kind c.args.kind c.if-kind-gt-LAST_KIND.false) refl),
)
