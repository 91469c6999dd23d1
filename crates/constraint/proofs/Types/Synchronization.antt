-- A Synchronization looks at the times of each of its kinds, and nothing waits in it.
use Rattle.constraint.proofs.Names.{List, Meets, MeetsStrongSynchronization, MeetsSynchronization, Recorded, Step, Synchronization}
use Rattle.constraint.proofs.Names.{[], ◌<◌, ◌∷◌, ◌≡◌, ◌≤◌, ap, arith, at, by_cases, dec_lt, event, length}
use Rattle.constraint.proofs.Names.{refl, suc, times, waiting, zero, ℕ, ℕ_discrete}
use Rattle.constraint.proofs.Lawful.{Contingent, Lawful, SameTimes, listed_same}

windows_same : (ks : List ℕ) (tolerance : ℕ) (a b : List Step) → SameTimes ks a b → MeetsSynchronization ks tolerance a
    → MeetsSynchronization ks tolerance b
unfolding MeetsSynchronization
windows_same ks tolerance a b same m j s h there =
    let (x, within, full) = m j s h (rw (same j h) there) in
    (x, within, λ k g. let (r, other, near) = full k g in (r, rw (← same k g) other, near))

pub lawful_synchronization : (ks : List ℕ) (tolerance : ℕ) → Lawful (Synchronization ks tolerance)
unfolding Meets waiting
lawful_synchronization ks tolerance =
    record {
      same = λ a b in_order same earlier m. windows_same ks tolerance a b (listed_same ks tolerance a b same) m;
      waits_same = λ a b same. refl;
    }

-- the place of the least of n numbers
least_place : (n : ℕ) (f : ℕ → ℕ) → 0 < n → (m : ℕ) × (m < n) × ((k : ℕ) → k < n → f m ≤ f k)
least_place zero f some = absurd (omega arith)
least_place (suc zero) f some = (0, omega arith, λ k h. rw (none k h) (omega arith))
  where
    none : (k : ℕ) → k < 1 → k ≡ 0
    none k h = omega arith
least_place (suc (suc n)) f some =
    let (m, h, least) = least_place (suc n) f (omega arith) in
    by_cases (dec_lt (f (suc n)) (f m))
    (λ less. (suc n, omega arith, λ k l. by_cases (ℕ_discrete k (suc n)) (λ e. rw e (omega arith)) (λ e. omega (arith, least k (omega arith)))))
    (λ more. (m, omega arith, λ k l. by_cases (ℕ_discrete k (suc n)) (λ e. rw e (omega arith)) (λ e. least k (omega arith))))

-- §5.11
-- what meets a StrongSynchronization meets a Synchronization of the same kinds: the events of one place are in the window that the first begins
pub strong_windows : (ks : List ℕ) (tolerance : ℕ) (steps : List Step) → MeetsStrongSynchronization ks tolerance steps
    → MeetsSynchronization ks tolerance steps
unfolding MeetsStrongSynchronization MeetsSynchronization
strong_windows ks tolerance steps meets j s h (i, l, e) =
    let (m, g, least) = least_place (length ks) (λ k. at (times (at ks k) steps) i) (omega arith) in
    let place : (k : ℕ) → k < length ks → i < length (times (at ks k) steps) = λ k q. omega (arith, (meets j k h q).0) in (
      at (times (at ks m) steps) i,
      (omega (arith, least j h), omega (arith, (meets j m h g).1 i l)),
      λ k q. (at (times (at ks k) steps) i, (i, place k q, refl), (omega (arith, least k q), (meets k m q g).1 i (place k q))),
    )

-- kinds that have one event each, all at the same time: the window begins there
windows_alike : (ks : List ℕ) (tolerance t : ℕ) (steps : List Step) → ((j : ℕ) → j < length ks → times (at ks j) steps ≡ t ∷ [])
    → MeetsSynchronization ks tolerance steps
unfolding MeetsSynchronization
windows_alike ks tolerance t steps alike j s h there =
    let same = only (rw (alike j h) at there) in
    (t, (omega arith, omega arith), λ k g. (t, rw (alike k g) (0, omega arith, refl), (omega arith, omega arith)))
  where
    only : (i : ℕ) × (i < length (t ∷ [])) × (at (t ∷ []) i ≡ s) → t ≡ s
    only (zero, l, e) = e
    only (suc i, l, e) = absurd (omega arith)

-- a kind that has no event misses it where another has one
windows_lack : (ks : List ℕ) (tolerance j k s : ℕ) (steps : List Step) → j < length ks → k < length ks → Recorded ks steps j s
    → times (at ks k) steps ≡ [] → ¬ MeetsSynchronization ks tolerance steps
unfolding MeetsSynchronization
windows_lack ks tolerance j k s steps h g there none meets =
    let (x, within, full) = meets j s h there in
    let (r, (i, l, e), near) = full k g in
    omega (arith, ap length none)

-- §5.11
pub window2_contingent : Contingent (Synchronization (0 ∷ 1 ∷ []) 2) (event 0 5 ∷ event 1 5 ∷ []) (event 0 5 ∷ [])
unfolding Meets times
window2_contingent =
    record {
      can_be_met = windows_alike (0 ∷ 1 ∷ []) 2 5 (event 0 5 ∷ event 1 5 ∷ []) alike;
      can_be_missed = windows_lack (0 ∷ 1 ∷ []) 2 0 1 5 (event 0 5 ∷ []) (omega arith) (omega arith) (0, omega arith, refl) refl;
    }
  where
    alike : (j : ℕ) → j < 2 → times (at (0 ∷ 1 ∷ []) j) (event 0 5 ∷ event 1 5 ∷ []) ≡ 5 ∷ []
    alike zero h = refl
    alike (suc zero) h = refl
    alike (suc (suc j)) h = absurd (omega arith)

-- §5.11
pub window3_contingent : Contingent (Synchronization (0 ∷ 1 ∷ 2 ∷ []) 2) (event 0 5 ∷ event 1 5 ∷ event 2 5 ∷ []) (event 0 5 ∷ event 1 5 ∷ [])
unfolding Meets times
window3_contingent =
    record {
      can_be_met = windows_alike (0 ∷ 1 ∷ 2 ∷ []) 2 5 (event 0 5 ∷ event 1 5 ∷ event 2 5 ∷ []) alike;
      can_be_missed = windows_lack (0 ∷ 1 ∷ 2 ∷ []) 2 0 2 5 (event 0 5 ∷ event 1 5 ∷ []) (omega arith) (omega arith) (0, omega arith, refl) refl;
    }
  where
    alike : (j : ℕ) → j < 3 → times (at (0 ∷ 1 ∷ 2 ∷ []) j) (event 0 5 ∷ event 1 5 ∷ event 2 5 ∷ []) ≡ 5 ∷ []
    alike zero h = refl
    alike (suc zero) h = refl
    alike (suc (suc zero)) h = refl
    alike (suc (suc (suc j))) h = absurd (omega arith)

-- §5.11
pub window4_contingent : Contingent (Synchronization (0 ∷ 1 ∷ 2 ∷ 3 ∷ []) 2) (event 0 5 ∷ event 1 5 ∷ event 2 5 ∷ event 3 5 ∷ [])
    (event 0 5 ∷ event 1 5 ∷ event 2 5 ∷ [])
unfolding Meets times
window4_contingent =
    record {
      can_be_met = windows_alike (0 ∷ 1 ∷ 2 ∷ 3 ∷ []) 2 5 (event 0 5 ∷ event 1 5 ∷ event 2 5 ∷ event 3 5 ∷ []) alike;
      can_be_missed =
          windows_lack (0 ∷ 1 ∷ 2 ∷ 3 ∷ []) 2 0 3 5 (event 0 5 ∷ event 1 5 ∷ event 2 5 ∷ []) (omega arith) (omega arith) (0, omega arith, refl) refl;
    }
  where
    alike : (j : ℕ) → j < 4 → times (at (0 ∷ 1 ∷ 2 ∷ 3 ∷ []) j) (event 0 5 ∷ event 1 5 ∷ event 2 5 ∷ event 3 5 ∷ []) ≡ 5 ∷ []
    alike zero h = refl
    alike (suc zero) h = refl
    alike (suc (suc zero)) h = refl
    alike (suc (suc (suc zero))) h = refl
    alike (suc (suc (suc (suc j)))) h = absurd (omega arith)
