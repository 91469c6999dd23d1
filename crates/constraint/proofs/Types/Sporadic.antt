-- A Sporadic looks at the times of its kind and at the clock, for which the same points do where a later one has them.
use Rattle.constraint.proofs.Names.{List, Meets, MeetsSporadic, NotLater, SpansApart, Sporadic, [], ◌+◌, ◌<◌, ◌∷◌, ◌≡◌, ◌≤◌, ◌⊎◌, arith, at}
use Rattle.constraint.proofs.Names.{clock, clock_from, event, inl, inr, no_limit, refl, subst, suc, tick, times, waiting, zero, ℕ, ⊎_elim}
use Rattle.constraint.proofs.Lawful.{Contingent, Lawful, not_later_earlier}

pub lawful_sporadic : (kind lower upper jitter minimum : ℕ) → Lawful (Sporadic kind lower upper jitter minimum)
unfolding Meets MeetsSporadic waiting
lawful_sporadic kind lower upper jitter minimum =
    record {
      same = λ a b in_order same earlier m. subst (λ (ts : List ℕ). MeetsSporadic lower upper jitter minimum ts (clock b)) (same 0 (omega arith))
          (let ((points, hidden, last), apart) = m in
          ((points, hidden, λ i e. not_later_earlier (at points i + jitter) (clock b) (clock a) earlier (last i e)), apart));
      waits_same = λ a b same. refl;
    }

-- §2.2: it can be met, and can be missed
pub sporadic_contingent : Contingent (Sporadic 0 5 5 2 0) (event 0 2 ∷ event 0 9 ∷ []) (event 0 2 ∷ event 0 10 ∷ [])
unfolding Meets SpansApart MeetsSporadic times clock_from
sporadic_contingent =
    record {
      can_be_met = (
        (2 ∷ 7 ∷ [], record { one_each = refl; near = λ i h. near i h; rise = λ i h. rise i h; apart = λ i h. apart i h }, λ i e. last i e),
        λ i h. minimum i h,
      );
      can_be_missed = λ m. let points = m.0.1 in omega (
        arith,
        points.near 0 (omega arith),
        points.near 1 (omega arith),
        far (at m.0.0 0) (at m.0.0 1) (points.apart 0 (omega arith)).1,
      );
    }
  where
    near : (i : ℕ) → i < 2 → (at (2 ∷ 7 ∷ []) i + 0 ≤ at (2 ∷ 9 ∷ []) i) × (at (2 ∷ 9 ∷ []) i ≤ at (2 ∷ 7 ∷ []) i + 2)
    near zero h = (omega arith, omega arith)
    near (suc zero) h = (omega arith, omega arith)
    near (suc (suc i)) h = absurd (omega arith)

    rise : (i : ℕ) → i + 1 < 2 → at (2 ∷ 7 ∷ []) i < at (2 ∷ 7 ∷ []) (i + 1)
    rise zero h = omega arith
    rise (suc i) h = absurd (omega arith)

    apart : (i : ℕ) → i + 1 < 2 → (at (2 ∷ 7 ∷ []) i + 5 ≤ at (2 ∷ 7 ∷ []) (i + 1))
        × ((5 ≡ no_limit) ⊎ (at (2 ∷ 7 ∷ []) (i + 1) ≤ at (2 ∷ 7 ∷ []) i + 5))
    apart zero h = (omega arith, inr (omega arith))
    apart (suc i) h = absurd (omega arith)

    last : (i : ℕ) → i + 1 ≡ 2 → NotLater 5 (at (2 ∷ 7 ∷ []) i + 2) 9
    last zero e = absurd (omega arith)
    last (suc zero) e = inr (omega arith)
    last (suc (suc i)) e = absurd (omega arith)

    minimum : (i : ℕ) → i + 1 < 2 → (at (2 ∷ 9 ∷ []) i + 0 ≤ at (2 ∷ 9 ∷ []) (i + 1))
        × ((no_limit ≡ no_limit) ⊎ (at (2 ∷ 9 ∷ []) (i + 1) ≤ at (2 ∷ 9 ∷ []) i + no_limit))
    minimum zero h = (omega arith, inl refl)
    minimum (suc i) h = absurd (omega arith)

    far : (x y : ℕ) → (5 ≡ no_limit) ⊎ (y ≤ x + 5) → y ≤ x + 5
    far x y (inl e) = absurd (omega arith)
    far x y (inr h) = h

-- §2.2: and so with its point as late as it can be
pub silent_sporadic_contingent : Contingent (Sporadic 0 5 5 2 0) (event 0 2 ∷ tick 9 ∷ []) (event 0 2 ∷ tick 10 ∷ [])
unfolding Meets SpansApart MeetsSporadic times clock_from
silent_sporadic_contingent =
    record {
      can_be_met = (
        (
          2 ∷ [],
          record { one_each = refl; near = λ i h. near i h; rise = λ i h. absurd (omega arith); apart = λ i h. absurd (omega arith) },
          λ i e. last i e,
        ),
        λ i h. absurd (omega arith),
      );
      can_be_missed = λ m. ⊎_elim (λ e. omega arith) (λ h. omega (arith, m.0.1.near 0 (omega arith)))
          (m.0.2 0 (omega (arith, m.0.1.one_each)));
    }
  where
    near : (i : ℕ) → i < 1 → (at (2 ∷ []) i + 0 ≤ at (2 ∷ []) i) × (at (2 ∷ []) i ≤ at (2 ∷ []) i + 2)
    near zero h = (omega arith, omega arith)
    near (suc i) h = absurd (omega arith)

    last : (i : ℕ) → i + 1 ≡ 1 → NotLater 5 (at (2 ∷ []) i + 2) 9
    last zero e = inr (omega arith)
    last (suc i) e = absurd (omega arith)
