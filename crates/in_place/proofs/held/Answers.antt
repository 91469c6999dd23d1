-- The number of rows stands at its place, and is cut at 32.
use Rattle.in_place.proofs.Names.{◌∙◌, ap, arith, min, ℕ}
use Rattle.in_place.proofs.{Parts.number_at}
use Rattle.in_place.proofs.held.Goals as goal

pub returns : goal.returns
returns c = (
  omega (arith, c.min.ensures),
  λ h e s. c.min.ensures ∙ ap (λ (n : ℕ). min n 32) (number_at h s c.args.m.now e 3),
)
