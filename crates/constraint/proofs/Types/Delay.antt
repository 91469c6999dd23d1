-- A Delay looks at the times of its two kinds, and each source without a target in its interval waits.
use Rattle.constraint.proofs.Names.{Apart, Delay, Meets, MeetsDelay, [], ◌<◌, ◌^◌, ◌∷◌, ap₂, arith, at, event, inl, inr, no_limit, refl, subst₂}
use Rattle.constraint.proofs.Names.{suc, times, unanswered, waiting, zero, ℕ}
use Rattle.constraint.proofs.Lawful.{Contingent, Lawful}

pub lawful_delay : (source target lower upper : ℕ) → Lawful (Delay source target lower upper)
unfolding Meets waiting
lawful_delay source target lower upper =
    record {
      same = λ a b in_order same earlier m. subst₂ (MeetsDelay lower upper) (same 0 (omega arith)) (same 1 (omega arith)) m;
      waits_same = λ a b same. ap₂ (unanswered lower upper) (same 0 (omega arith)) (same 1 (omega arith));
    }

-- §2.2: it can be met, and can be missed
pub delay_contingent : Contingent (Delay 0 1 2 3) (event 0 10 ∷ event 1 12 ∷ []) (event 0 10 ∷ event 1 14 ∷ [])
unfolding Meets MeetsDelay times
delay_contingent = record { can_be_met = λ i h. answered i h; can_be_missed = λ m. late (m 0 (omega arith)) }
  where
    answered : (i : ℕ) → i < 1 → (j : ℕ) × (j < 1) × Apart 2 3 (at (10 ∷ []) i) (at (12 ∷ []) j)
    answered zero h = (0, omega arith, (omega arith, inr (omega arith)))
    answered (suc i) h = absurd (omega arith)

    late : (j : ℕ) × (j < 1) × Apart 2 3 10 (at (14 ∷ []) j) → ⊥
    late (zero, h, (b, inl e)) = omega arith
    late (zero, h, (b, inr after)) = omega arith
    late (suc j, h, b) = omega arith

-- §2.2: without an upper limit a target may come later than every number of eight bytes
pub unlimited_delay_contingent : Contingent (Delay 0 1 2 no_limit) (event 0 10 ∷ event 1 (2 ^ 65) ∷ []) (event 0 10 ∷ event 1 11 ∷ [])
unfolding Meets MeetsDelay times
unlimited_delay_contingent = record { can_be_met = λ i h. answered i h; can_be_missed = λ m. early (m 0 (omega arith)) }
  where
    answered : (i : ℕ) → i < 1 → (j : ℕ) × (j < 1) × Apart 2 no_limit (at (10 ∷ []) i) (at (2 ^ 65 ∷ []) j)
    answered zero h = (0, omega arith, (omega arith, inl refl))
    answered (suc i) h = absurd (omega arith)

    early : (j : ℕ) × (j < 1) × Apart 2 no_limit 10 (at (11 ∷ []) j) → ⊥
    early (zero, h, b) = omega (arith, b.0)
    early (suc j, h, b) = omega arith
