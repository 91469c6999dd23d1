-- A StrongSynchronization looks at the times of each of its kinds, and the groups that are begun and not complete wait.
use Rattle.constraint.proofs.Names.{List, Meets, MeetsStrongSynchronization, Step, StrongSynchronization}
use Rattle.constraint.proofs.Names.{[], ◌-◌, ◌<◌, ◌∷◌, ◌≡◌, ap, ap₂, arith, at, begun_incomplete, event, largest, least}
use Rattle.constraint.proofs.Names.{length, map, refl, suc, times, waiting, zero, ℕ}
use Rattle.constraint.proofs.{Lawful.Contingent, Lawful.Lawful, Lawful.SameTimes, Lawful.listed_same, Lists.each_tail}

group_same : (ks : List ℕ) (tolerance : ℕ) (a b : List Step) → SameTimes ks a b → MeetsStrongSynchronization ks tolerance a
    → MeetsStrongSynchronization ks tolerance b
unfolding MeetsStrongSynchronization
group_same ks tolerance a b same m j k h g = rw (← same j h, ← same k g) (m j k h g)

counts_same : (ks : List ℕ) (a b : List Step) → SameTimes ks a b → map (λ k. length (times k a)) ks ≡ map (λ k. length (times k b)) ks
counts_same [] a b same = refl
counts_same (k ∷ ks) a b same =
    ap₂ (λ (n : ℕ) (ns : List ℕ). n ∷ ns) (ap length (same 0 (omega arith))) (counts_same ks a b (each_tail (λ k. times k a ≡ times k b) k ks same))

group_waits : (ks : List ℕ) (a b : List Step) → SameTimes ks a b → begun_incomplete ks a ≡ begun_incomplete ks b
unfolding begun_incomplete
group_waits ks a b same = ap (λ (counts : List ℕ). largest counts - least counts) (counts_same ks a b same)

pub lawful_strong_synchronization : (ks : List ℕ) (tolerance : ℕ) → Lawful (StrongSynchronization ks tolerance)
unfolding Meets waiting
lawful_strong_synchronization ks tolerance =
    record {
      same = λ a b in_order same earlier m. group_same ks tolerance a b (listed_same ks tolerance a b same) m;
      waits_same = λ a b same. group_waits ks a b (listed_same ks tolerance a b same);
    }

-- kinds that have one event each, all at the same time
synchronized_alike : (ks : List ℕ) (tolerance t : ℕ) (steps : List Step) → ((j : ℕ) → j < length ks → times (at ks j) steps ≡ t ∷ [])
    → MeetsStrongSynchronization ks tolerance steps
unfolding MeetsStrongSynchronization
synchronized_alike ks tolerance t steps alike j k h g = rw (alike j h, alike k g) (refl, λ i l. omega arith)

-- §2.2
pub synchronization2_contingent : Contingent (StrongSynchronization (0 ∷ 1 ∷ []) 2) (event 0 5 ∷ event 1 5 ∷ []) (event 0 5 ∷ [])
unfolding Meets MeetsStrongSynchronization times
synchronization2_contingent =
    record {
      can_be_met = synchronized_alike (0 ∷ 1 ∷ []) 2 5 (event 0 5 ∷ event 1 5 ∷ []) (λ j h. alike j h);
      can_be_missed =
          λ m. omega (arith, (m 0 1 (omega arith) (omega arith)).0);
    }
  where
    alike : (j : ℕ) → j < 2 → times (at (0 ∷ 1 ∷ []) j) (event 0 5 ∷ event 1 5 ∷ []) ≡ 5 ∷ []
    alike zero h = refl
    alike (suc zero) h = refl
    alike (suc (suc j)) h = absurd (omega arith)

-- §2.2
pub synchronization3_contingent : Contingent (StrongSynchronization (0 ∷ 1 ∷ 2 ∷ []) 2) (event 0 5 ∷ event 1 5 ∷ event 2 5 ∷ [])
    (event 0 5 ∷ event 1 5 ∷ [])
unfolding Meets MeetsStrongSynchronization times
synchronization3_contingent =
    record {
      can_be_met = synchronized_alike (0 ∷ 1 ∷ 2 ∷ []) 2 5 (event 0 5 ∷ event 1 5 ∷ event 2 5 ∷ []) (λ j h. alike j h);
      can_be_missed = λ m. omega (arith, (m 0 2 (omega arith) (omega arith)).0);
    }
  where
    alike : (j : ℕ) → j < 3 → times (at (0 ∷ 1 ∷ 2 ∷ []) j) (event 0 5 ∷ event 1 5 ∷ event 2 5 ∷ []) ≡ 5 ∷ []
    alike zero h = refl
    alike (suc zero) h = refl
    alike (suc (suc zero)) h = refl
    alike (suc (suc (suc j))) h = absurd (omega arith)

-- §2.2
pub synchronization4_contingent : Contingent (StrongSynchronization (0 ∷ 1 ∷ 2 ∷ 3 ∷ []) 2) (event 0 5 ∷ event 1 5 ∷ event 2 5 ∷ event 3 5 ∷ [])
    (event 0 5 ∷ event 1 5 ∷ event 2 5 ∷ [])
unfolding Meets MeetsStrongSynchronization times
synchronization4_contingent =
    record {
      can_be_met = synchronized_alike (0 ∷ 1 ∷ 2 ∷ 3 ∷ []) 2 5 (event 0 5 ∷ event 1 5 ∷ event 2 5 ∷ event 3 5 ∷ []) (λ j h. alike j h);
      can_be_missed = λ m. omega (arith, (m 0 3 (omega arith) (omega arith)).0);
    }
  where
    alike : (j : ℕ) → j < 4 → times (at (0 ∷ 1 ∷ 2 ∷ 3 ∷ []) j) (event 0 5 ∷ event 1 5 ∷ event 2 5 ∷ event 3 5 ∷ []) ≡ 5 ∷ []
    alike zero h = refl
    alike (suc zero) h = refl
    alike (suc (suc zero)) h = refl
    alike (suc (suc (suc zero))) h = refl
    alike (suc (suc (suc (suc j)))) h = absurd (omega arith)
