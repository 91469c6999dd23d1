-- The questions are put in their order, and the first "no" gives the number.
use Rattle.in_place.proofs.Names.{◌<◌, arith, first_coloured, le-leb, lt-leb, lt-ltb, numbered, refl, stream_count}
use Rattle.constraint.proofs.Refusals.{exit_number}
use Rattle.in_place.proofs.{RefusalOrder.form_number, RefusalOrder.kind_number, RefusalOrder.some_number}
use Rattle.in_place.proofs.calls.event_refusal.Goals as goal

pub returns-in_err-kind_refusal : goal.returns-in_err-kind_refusal
returns-in_err-kind_refusal c =
    rw (exit_number c.from_residual.result _ c.from_residual.ensures.1) (
      λ z. absurd (some_number _ z),
      λ h e s. kind_number h c.args.kind _ _ (c.in_err-kind_refusal.ensures.1 h e s) (numbered _).0,
    )

pub returns-then-kind-ge-FIRST_COLOURED : goal.returns-then-kind-ge-FIRST_COLOURED
returns-then-kind-ge-FIRST_COLOURED c =
    let kind = c.args.kind in (
      λ z. absurd (omega (arith, z)),
      λ h e s.
          form_number h kind _ _ (c.in_ok-kind_refusal.ensures.1 h e s)
          (rw (le-leb first_coloured kind c.if-kind-ge-FIRST_COLOURED.true) refl),
    )

pub returns : goal.returns
returns c =
    let kind = c.args.kind in
    let small : kind < 48 = omega (arith, c.if-kind-ge-FIRST_COLOURED.false) in (
      λ _. small,
      λ h e s.
          form_number h kind _ _ (c.in_ok-kind_refusal.ensures.1 h e s)
          (rw (
            lt-leb first_coloured kind c.if-kind-ge-FIRST_COLOURED.false,
            lt-ltb kind stream_count (omega (arith, small)),
          ) (c.stream_refusal.ensures h e s)),
    )
