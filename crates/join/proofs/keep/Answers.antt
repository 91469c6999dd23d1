-- A record is dropped, or does not fit, or is stored.
use Rattle.join.proofs.Names.{◌∙◌, arith, both, refl, sym}
use Rattle.join.proofs.keep.Goals as goal

pub returns-then-not-is_kept : goal.returns-then-not-is_kept
returns-then-not-is_kept c = (
  refl,
  record { kept = λ k. both (sym k ∙ sym c.is_kept.ensures ∙ c.if-not-is_kept.true); dropped = λ k. (refl, refl, refl) },
)

pub returns : goal.returns
returns c = (
  c.put_within.ensures.0,
  record {
    kept = λ k. (refl, omega (arith, c.if-limit-part.false), refl, c.put_within.ensures.1);
    dropped = λ k. both (sym (sym c.is_kept.ensures ∙ c.if-not-is_kept.false) ∙ k);
  },
)
