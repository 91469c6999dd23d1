-- A Repetition looks at the times of its kind alone.
use Rattle.constraint.proofs.Names.{Apart, Between, Meets, MeetsRepetition, Repetition, [], ◌+◌, ◌<◌, ◌∷◌, ◌≡◌, ◌≤◌, ◌⊎◌, arith, at, event}
use Rattle.constraint.proofs.Names.{inl, inr, no_limit, refl, subst, suc, times, waiting, zero, ℕ}
use Rattle.constraint.proofs.Lawful.{Contingent, Lawful}

pub lawful_repetition : (kind span lower upper jitter : ℕ) → Lawful (Repetition kind span lower upper jitter)
unfolding Meets waiting
lawful_repetition kind span lower upper jitter =
    record {
      same = λ a b in_order same earlier m. subst (MeetsRepetition span lower upper jitter) (same 0 (omega arith)) m;
      waits_same = λ a b same. refl;
    }

-- §2.2: the points must rise besides: each of the two chains taken singly has its points in both lists
pub repetition_contingent : Contingent (Repetition 0 2 10 10 5) (event 0 5 ∷ event 0 16 ∷ event 0 17 ∷ event 0 29 ∷ [])
    (event 0 5 ∷ event 0 16 ∷ event 0 17 ∷ event 0 31 ∷ [])
unfolding Meets MeetsRepetition times
repetition_contingent =
    record {
      can_be_met = (5 ∷ 14 ∷ 15 ∷ 24 ∷ [], record { one_each = refl; near = λ i h. near i h; rise = λ i h. rise i h; apart = λ i h. apart i h });
      can_be_missed = λ m. let points = m.1 in
          omega (
            arith,
            points.near 0 (omega arith),
            points.near 3 (omega arith),
            points.rise 1 (omega arith),
            far (at m.0 0) (at m.0 2) (points.apart 0 (omega arith)).1,
            far (at m.0 1) (at m.0 3) (points.apart 1 (omega arith)).1,
          );
    }
  where
    near : (i : ℕ) → i < 4 → Between 0 5 (at (5 ∷ 14 ∷ 15 ∷ 24 ∷ []) i) (at (5 ∷ 16 ∷ 17 ∷ 29 ∷ []) i)
    near zero h = (omega arith, omega arith)
    near (suc zero) h = (omega arith, omega arith)
    near (suc (suc zero)) h = (omega arith, omega arith)
    near (suc (suc (suc zero))) h = (omega arith, omega arith)
    near (suc (suc (suc (suc i)))) h = absurd (omega arith)

    rise : (i : ℕ) → i + 1 < 4 → at (5 ∷ 14 ∷ 15 ∷ 24 ∷ []) i < at (5 ∷ 14 ∷ 15 ∷ 24 ∷ []) (i + 1)
    rise zero h = omega arith
    rise (suc zero) h = omega arith
    rise (suc (suc zero)) h = omega arith
    rise (suc (suc (suc i))) h = absurd (omega arith)

    apart : (i : ℕ) → i + 2 < 4 → Apart 10 10 (at (5 ∷ 14 ∷ 15 ∷ 24 ∷ []) i) (at (5 ∷ 14 ∷ 15 ∷ 24 ∷ []) (i + 2))
    apart zero h = (omega arith, inr (omega arith))
    apart (suc zero) h = (omega arith, inr (omega arith))
    apart (suc (suc i)) h = absurd (omega arith)

    far : (x y : ℕ) → (10 ≡ no_limit) ⊎ (y ≤ x + 10) → y ≤ x + 10
    far x y (inl e) = absurd (omega arith)
    far x y (inr h) = h
