-- An Order looks at the times of its two kinds.
use Rattle.constraint.proofs.Names.{Meets, MeetsOrder, Order, [], ◌∷◌, arith, event, refl, subst₂, times, waiting, ℕ}
use Rattle.constraint.proofs.Lawful.{Contingent, Lawful}

pub lawful_order : (source target : ℕ) → Lawful (Order source target)
unfolding Meets waiting
lawful_order source target =
    record {
      same = λ a b in_order same earlier m. subst₂ MeetsOrder (same 0 (omega arith)) (same 1 (omega arith)) m;
      waits_same = λ a b same. refl;
    }

-- §2.2: it can be met, and can be missed
pub order_contingent : Contingent (Order 0 1) (event 1 5 ∷ event 0 5 ∷ []) (event 1 5 ∷ [])
unfolding Meets MeetsOrder times
order_contingent = record { can_be_met = (refl, λ i h. omega arith); can_be_missed = λ m. omega (arith, m.0) }
