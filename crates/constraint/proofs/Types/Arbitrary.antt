-- An Arbitrary looks at the times of its kind and at the clock, as each of its Repeats does.
use Rattle.constraint.proofs.Lawful.{Contingent}
use Rattle.constraint.proofs.Names.{MeetsRepeat, NotLater, SpansApart, [], ◌∷◌, ◌<◌, clock_from, event, inr, suc, zero}
use Rattle.constraint.proofs.Names.{Arbitrary, List, Meets, MeetsArbitrary, ◌+◌, ◌≤◌, arith, at, clock, map, refl, subst, times, waiting, ℕ}
use Rattle.constraint.proofs.{Lawful.Lawful, Types.Repeat.repeat_earlier}

-- §5.16: what is met at a clock is met at every earlier one
pub arbitrary_earlier : (minima maxima events : List ℕ) (now later : ℕ) → now ≤ later → MeetsArbitrary minima maxima events later
    → MeetsArbitrary minima maxima events now
unfolding MeetsArbitrary
arbitrary_earlier minima maxima events now later h m i l = repeat_earlier (i + 1) (at minima i) (at maxima i) events now later h (m i l)

pub lawful_arbitrary : (kind : ℕ) (pairs : List (ℕ × ℕ)) → Lawful (Arbitrary kind pairs)
unfolding Meets waiting
lawful_arbitrary kind pairs =
    let minima = map (λ (p : ℕ × ℕ). p.0) pairs in
    let maxima = map (λ (p : ℕ × ℕ). p.1) pairs in
    record {
      same = λ a b in_order same earlier m. subst (λ (ts : List ℕ). MeetsArbitrary minima maxima ts (clock b)) (same 0 (omega arith))
          (arbitrary_earlier minima maxima (times kind a) (clock b) (clock a) earlier m);
      waits_same = λ a b same. refl;
    }

-- §2.2, §5.16: events at 0, 3 and 7; and at 0 and 1
pub arbitrary_contingent : Contingent (Arbitrary 0 ((2, 4) ∷ (5, 9) ∷ [])) (event 0 0 ∷ event 0 3 ∷ event 0 7 ∷ []) (event 0 0 ∷ event 0 1 ∷ [])
unfolding Meets MeetsArbitrary MeetsRepeat SpansApart times clock_from
arbitrary_contingent =
    record { can_be_met = met; can_be_missed = λ m. omega (arith, ((m 0 (omega arith)).0 0 (omega arith)).0) }
  where
    met : MeetsArbitrary (2 ∷ 5 ∷ []) (4 ∷ 9 ∷ []) (0 ∷ 3 ∷ 7 ∷ []) 7
    met zero l = (apart, still)
      where
        apart : SpansApart 1 2 4 (0 ∷ 3 ∷ 7 ∷ [])
        apart zero h = (omega arith, inr (omega arith))
        apart (suc zero) h = (omega arith, inr (omega arith))
        apart (suc (suc i)) h = absurd (omega arith)

        still : (i : ℕ) → i < 3 → 3 ≤ i + 1 → NotLater 4 (at (0 ∷ 3 ∷ 7 ∷ []) i) 7
        still zero h end = absurd (omega arith)
        still (suc zero) h end = absurd (omega arith)
        still (suc (suc zero)) h end = inr (omega arith)
        still (suc (suc (suc i))) h end = absurd (omega arith)
    met (suc zero) l = (apart, still)
      where
        apart : SpansApart 2 5 9 (0 ∷ 3 ∷ 7 ∷ [])
        apart zero h = (omega arith, inr (omega arith))
        apart (suc i) h = absurd (omega arith)

        still : (i : ℕ) → i < 3 → 3 ≤ i + 2 → NotLater 9 (at (0 ∷ 3 ∷ 7 ∷ []) i) 7
        still zero h end = absurd (omega arith)
        still (suc zero) h end = inr (omega arith)
        still (suc (suc zero)) h end = inr (omega arith)
        still (suc (suc (suc i))) h end = absurd (omega arith)
    met (suc (suc i)) l = absurd (omega arith)
