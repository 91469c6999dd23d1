-- A StrongDelay looks at the times of its two kinds, and the sources that have no target of their place wait.
use Rattle.constraint.proofs.Names.{List, Meets, MeetsStrongDelay, StrongDelay, [], ◌+◌, ◌-◌, ◌<◌, ◌∷◌, ◌≤◌, ap₂, arith, at, event, length}
use Rattle.constraint.proofs.Names.{refl, subst₂, suc, times, waiting, zero, ℕ}
use Rattle.constraint.proofs.Lawful.{Contingent, Lawful}

pub lawful_strong_delay : (source target lower upper : ℕ) → Lawful (StrongDelay source target lower upper)
unfolding Meets waiting
lawful_strong_delay source target lower upper =
    record {
      same = λ a b in_order same earlier m. subst₂ (MeetsStrongDelay lower upper) (same 0 (omega arith)) (same 1 (omega arith)) m;
      waits_same = λ a b same. ap₂ (λ (s t : List ℕ). length s - length t) (same 0 (omega arith)) (same 1 (omega arith));
    }

-- §2.2: it can be met, and can be missed
pub strong_delay_contingent : Contingent (StrongDelay 0 1 1 3) (event 0 10 ∷ event 1 12 ∷ []) (event 1 10 ∷ [])
unfolding Meets MeetsStrongDelay times
strong_delay_contingent = record { can_be_met = (refl, λ i h. paired i h); can_be_missed = λ m. omega (arith, m.0) }
  where
    paired : (i : ℕ) → i < 1 → (at (10 ∷ []) i + 1 ≤ at (12 ∷ []) i) × (at (12 ∷ []) i ≤ at (10 ∷ []) i + 3)
    paired zero h = (omega arith, omega arith)
    paired (suc i) h = absurd (omega arith)
