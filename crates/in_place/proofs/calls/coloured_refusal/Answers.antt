-- The questions are put in their order, and the first "no" gives the number.
use Rattle.in_place.proofs.Names.{◌<◌, ◌⊎◌, ◌∙◌, ◌≡◌, ◌≤◌, ap, arith, cond, first_coloured, get_or, inl, inr, last_colour, le-ltb, lt-ltb}
use Rattle.in_place.proofs.Names.{ltb, numbered, refl, stream, stream_count, time_refusal, ℕ}
use Rattle.constraint.proofs.Refusals.{exit_number}
use Rattle.in_place.proofs.{RefusalOrder.form_number, RefusalOrder.kind_number, RefusalOrder.some_number}
use Rattle.in_place.proofs.calls.coloured_refusal.Goals as goal

pub returns-in_err-kind_refusal : goal.returns-in_err-kind_refusal
returns-in_err-kind_refusal c =
    rw (exit_number c.from_residual.result _ c.from_residual.ensures.1) (
      λ z. absurd (some_number _ z),
      λ h e s. kind_number h c.args.kind _ _ (c.in_err-kind_refusal.ensures.1 h e s) (numbered _).0,
    )

-- the kind is plain, or there is no such colour
wrong_form : (kind colour own : ℕ) → (kind < first_coloured) ⊎ ((first_coloured ≤ kind) × (last_colour < colour))
    → 19 ≡ cond (ltb kind first_coloured) 19 (cond (ltb last_colour colour) 19 own)
wrong_form kind colour own (inl plain) = rw (lt-ltb kind first_coloured plain) refl
wrong_form kind colour own (inr none) = rw (le-ltb kind first_coloured none.0, lt-ltb last_colour colour none.1) refl

pub returns-then-kind-lt-FIRST_COLOURED : goal.returns-then-kind-lt-FIRST_COLOURED
returns-then-kind-lt-FIRST_COLOURED c =
    let a = c.args in (
      λ z. absurd (omega (arith, z)),
      λ h e s.
          form_number h a.kind _ _ (c.in_ok-kind_refusal.ensures.1 h e s)
          (wrong_form a.kind a.colour _ c.then-kind-lt-FIRST_COLOURED.either),
    )

pub returns : goal.returns
returns c =
    let a = c.args in let there = c.stream_of.ensures in (
      λ _. (
        omega (arith, c.if-kind-lt-FIRST_COLOURED.false),
        (c.in_ok-kind_refusal.ensures.0 refl, omega (arith, c.if-colour-gt-LAST_COLOUR.false)),
      ),
      λ h e s.
          form_number h a.kind _ _ (c.in_ok-kind_refusal.ensures.1 h e s)
          (rw (
            le-ltb a.kind first_coloured c.if-kind-lt-FIRST_COLOURED.false,
            le-ltb last_colour a.colour c.if-colour-gt-LAST_COLOUR.false,
            lt-ltb (stream a.kind a.colour) stream_count (omega (arith, there.0, there.1)),
          )
          (c.stream_refusal.ensures h e s
          ∙ ap (λ (k : ℕ). time_refusal a.time h.monitor.clock (get_or h.monitor.next k 0)) there.0)),
    )

pub stream_of-requires : goal.stream_of-requires
stream_of-requires c = (
  omega (arith, c.if-kind-lt-FIRST_COLOURED.false),
  (c.in_ok-kind_refusal.ensures.0 refl, omega (arith, c.if-colour-gt-LAST_COLOUR.false)),
)
