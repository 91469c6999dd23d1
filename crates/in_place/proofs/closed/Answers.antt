-- The word for "open" stands at its place: 0 there says that the mark of the close is not.
use Rattle.in_place.proofs.Names.{◌-◌, ◌∙◌, ◌≡◌, ap, arith, eq-eqb, eqb, lt-ltb, ltb, refl, suc, sym, zero, ℕ}
use Rattle.in_place.proofs.{Parts.number_at}
use Rattle.in_place.proofs.closed.Goals as goal

marked : (closed : ℕ) → eqb (1 - closed) 0 ≡ ltb 0 closed
marked zero = refl
marked (suc closed) = eq-eqb _ _ (omega arith) ∙ sym (lt-ltb 0 (suc closed) (omega arith))

pub returns : goal.returns
returns c h e s = ap (λ (n : ℕ). eqb n 0) (number_at h s c.args.m.now e 2) ∙ marked h.monitor.closed
