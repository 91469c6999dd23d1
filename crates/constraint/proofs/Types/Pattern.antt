-- A Pattern looks at the times of its kind and at the clock: a next event that is not overdue at a clock is not overdue at an earlier one.
use Rattle.constraint.proofs.Lawful.{Contingent}
use Rattle.constraint.proofs.Names.{AtLeastApart, Between, SpansApart, [], ◌∷◌, at, clock_from, event, inl, number_of, place_of, point_of, suc}
use Rattle.constraint.proofs.Names.{zero, ◌<◌, ◌+◌}
use Rattle.constraint.proofs.Names.{List, Meets, MeetsPattern, Pattern, ◌≤◌, arith, clock, refl, subst, times}
use Rattle.constraint.proofs.Names.{waiting, ℕ}
use Rattle.constraint.proofs.{Lawful.Lawful}

-- §5.15: what is met at a clock is met at every earlier one
pub pattern_earlier : (period jitter minimum : ℕ) (offsets events : List ℕ) (now later : ℕ) → now ≤ later
    → MeetsPattern period jitter minimum offsets events later → MeetsPattern period jitter minimum offsets events now
unfolding MeetsPattern
pattern_earlier period jitter minimum offsets events now later h ((start, near, soon), apart, other) =
    ((start, near, λ some. omega (arith, soon some)), apart, other)

pub lawful_pattern : (kind period jitter minimum : ℕ) (offsets : List ℕ) → Lawful (Pattern kind period jitter minimum offsets)
unfolding Meets waiting
lawful_pattern kind period jitter minimum offsets =
    record {
      same = λ a b in_order same earlier m. subst (λ (ts : List ℕ). MeetsPattern period jitter minimum offsets ts (clock b)) (same 0 (omega arith))
          (pattern_earlier period jitter minimum offsets (times kind a) (clock b) (clock a) earlier m);
      waits_same = λ a b same. refl;
    }

-- §2.2, §5.15: events at 5 and 9, whose places are 5 and 8; and at 5 and 20
pub pattern_contingent : Contingent (Pattern 0 10 1 0 (0 ∷ 3 ∷ [])) (event 0 5 ∷ event 0 9 ∷ []) (event 0 5 ∷ event 0 20 ∷ [])
unfolding Meets MeetsPattern SpansApart times clock_from number_of point_of
pattern_contingent =
    record {
      can_be_met = ((5, near, λ some. omega arith), apart, λ more. omega arith);
      can_be_missed = λ m. let (start, places, soon) = m.0 in omega (arith, places 0 (omega arith), places 1 (omega arith));
    }
  where
    near : (j : ℕ) → j < 2 → Between 0 1 (5 + place_of 10 (0 ∷ 3 ∷ []) j) (at (5 ∷ 9 ∷ []) j)
    near zero h = (omega arith, omega arith)
    near (suc zero) h = (omega arith, omega arith)
    near (suc (suc j)) h = absurd (omega arith)

    apart : AtLeastApart 0 (5 ∷ 9 ∷ [])
    apart zero h = (omega arith, inl refl)
    apart (suc i) h = absurd (omega arith)
