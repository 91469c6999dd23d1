-- A Repeat looks at the times of its kind and at the clock, which is late enough where a later one is.
use Rattle.constraint.proofs.Names.{List, Meets, MeetsRepeat, NotLater, Repeat, SpansApart, [], ◌+◌, ◌<◌, ◌∷◌, ◌≡◌, ◌≤◌, ◌⊎◌, arith, at, clock}
use Rattle.constraint.proofs.Names.{clock_from, event, inr, no_limit, refl, subst, suc, tick, times, waiting, zero, ℕ, ⊎_elim}
use Rattle.constraint.proofs.Lawful.{Contingent, Lawful, not_later_earlier}

-- §5.3: what is met at a clock is met at every earlier one
pub repeat_earlier : (span lower upper : ℕ) (events : List ℕ) (now later : ℕ) → now ≤ later → MeetsRepeat span lower upper events later
    → MeetsRepeat span lower upper events now
unfolding MeetsRepeat
repeat_earlier span lower upper events now later h m = (m.0, λ i l end. not_later_earlier (at events i) now later h (m.1 i l end))

pub lawful_repeat : (kind span lower upper : ℕ) → Lawful (Repeat kind span lower upper)
unfolding Meets waiting
lawful_repeat kind span lower upper =
    record {
      same = λ a b in_order same earlier m. subst (λ (ts : List ℕ). MeetsRepeat span lower upper ts (clock b)) (same 0 (omega arith))
          (repeat_earlier span lower upper (times kind a) (clock b) (clock a) earlier m);
      waits_same = λ a b same. refl;
    }

-- §2.2: it can be met, and can be missed
pub repeat_contingent : Contingent (Repeat 0 1 4 4) (event 0 0 ∷ event 0 4 ∷ []) (event 0 0 ∷ event 0 3 ∷ [])
unfolding Meets SpansApart MeetsRepeat times clock_from
repeat_contingent =
    record {
      can_be_met = (λ i h. apart i h, λ i h end. still i h (omega arith));
      can_be_missed = λ m. let early = (m.0 0 (omega arith)).0 in omega (arith, early);
    }
  where
    still : (i : ℕ) → i < 2 → 2 ≤ i + 1 → NotLater 4 (at (0 ∷ 4 ∷ []) i) 4
    still zero h end = absurd (omega arith)
    still (suc zero) h end = inr (omega arith)
    still (suc (suc i)) h end = absurd (omega arith)

    apart : (i : ℕ) → i + 1 < 2 → (at (0 ∷ 4 ∷ []) i + 4 ≤ at (0 ∷ 4 ∷ []) (i + 1))
        × ((4 ≡ no_limit) ⊎ (at (0 ∷ 4 ∷ []) (i + 1) ≤ at (0 ∷ 4 ∷ []) i + 4))
    apart zero h = (omega arith, inr (omega arith))
    apart (suc i) h = absurd (omega arith)

-- §2.2: silence alone, one step of the clock later, misses it
pub silent_repeat_contingent : Contingent (Repeat 0 1 4 4) (event 0 0 ∷ tick 4 ∷ []) (event 0 0 ∷ tick 5 ∷ [])
unfolding Meets SpansApart MeetsRepeat times clock_from
silent_repeat_contingent =
    record {
      can_be_met = (λ i h. absurd (omega arith), λ i h end. last i h);
      can_be_missed = λ m. ⊎_elim (λ e. omega arith) (λ h. omega arith) (m.1 0 (omega arith) (omega arith));
    }
  where
    last : (i : ℕ) → i < 1 → NotLater 4 (at (0 ∷ []) i) 4
    last zero h = inr (omega arith)
    last (suc i) h = absurd (omega arith)
