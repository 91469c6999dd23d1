-- A Burst looks at the times of its kind alone.
use Rattle.constraint.proofs.Names.{Burst, Meets, MeetsBurst, SpansApart, [], ◌+◌, ◌<◌, ◌∷◌, ◌≡◌, ◌≤◌, ◌⊎◌, arith, at, event, inl, no_limit}
use Rattle.constraint.proofs.Names.{refl, subst, suc, times, waiting, zero, ℕ}
use Rattle.constraint.proofs.Lawful.{Contingent, Lawful}

pub lawful_burst : (kind maximum len minimum : ℕ) → Lawful (Burst kind maximum len minimum)
unfolding Meets waiting
lawful_burst kind maximum len minimum =
    record {
      same = λ a b in_order same earlier m. subst (MeetsBurst maximum len minimum) (same 0 (omega arith)) m;
      waits_same = λ a b same. refl;
    }

-- §2.2: it can be met, and can be missed
pub burst_contingent : Contingent (Burst 0 1 5 0) (event 0 0 ∷ event 0 5 ∷ []) (event 0 0 ∷ event 0 4 ∷ [])
unfolding Meets MeetsBurst SpansApart times
burst_contingent = record {
  can_be_met = (λ i h. apart 5 (omega arith) i h, λ i h. apart 0 (omega arith) i h);
  can_be_missed =
      λ m. omega (arith, (m.0 0 (omega arith)).0);
}
  where
    apart : (lower : ℕ) → lower ≤ 5 → (i : ℕ) → i + 1 < 2 → (at (0 ∷ 5 ∷ []) i + lower ≤ at (0 ∷ 5 ∷ []) (i + 1))
        × ((no_limit ≡ no_limit) ⊎ (at (0 ∷ 5 ∷ []) (i + 1) ≤ at (0 ∷ 5 ∷ []) i + no_limit))
    apart lower small zero h = (omega arith, inl refl)
    apart lower small (suc i) h = absurd (omega arith)
