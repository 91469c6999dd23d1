-- Whatever the number of its type, a row's machine fits a row: each type's does, and so does that of no type.
use Rattle.row.proofs.Names.{FitsRow, List, List·getD-eq-default, Machine, [], ◌<◌, ◌∷◌, ◌≡◌, arith, fits_none, get_or}
use Rattle.row.proofs.Names.{Bool, ◌%◌, ◌∙◌, ap, cond, eq-eqb, eqb, eqb-true, machine_of, machines, min, no_machine, refl, split, suc}
use Rattle.row.proofs.Names.{sym, zero, ℕ}
use Rattle.constraint.proofs.Library.{◌≢◌, by_cases, dec_lt}
use Rattle.row_type.specs.Words.{live_of}
use Rattle.delay_order.proofs.Laws.Delay.{fits_delay}
use Rattle.delay_order.proofs.Laws.StrongDelay.{fits_strong_delay}
use Rattle.repeat_burst.proofs.Laws.Repeat.{fits_repeat}
use Rattle.hidden_points.proofs.Laws.Sporadic.{fits_sporadic}
use Rattle.delay_order.proofs.Laws.Order.{fits_order}
use Rattle.synchronizations.proofs.Laws.StrongSynchronization.{fits_strong_synchronization}
use Rattle.execution.proofs.Laws.ExecutionTime.{fits_execution_time}
use Rattle.event_chain.proofs.Laws.Reaction.{fits_reaction}
use Rattle.repetition.proofs.Laws.Repetition.{fits_repetition}
use Rattle.synchronizations.proofs.Laws.Synchronization.{fits_synchronization}
use Rattle.event_chain.proofs.Laws.Age.{fits_age}
use Rattle.event_chain.proofs.Laws.OutputSynchronization.{fits_output_synchronization}
use Rattle.event_chain.proofs.Laws.InputSynchronization.{fits_input_synchronization}
use Rattle.patterns.proofs.Laws.PatternWords.{fits_pattern}
use Rattle.repeat_burst.proofs.Laws.ArbitraryWords.{fits_arbitrary}

-- each of several machines fits a row, and so does the one of a number
data EachFits : List Machine → Type 0 where
  none_more : EachFits []
  one_more : {m : Machine} {ms : List Machine} → FitsRow m → EachFits ms → EachFits (m ∷ ms)

each_fits : {ms : List Machine} → EachFits ms → (n : ℕ) → FitsRow (get_or ms n no_machine)
each_fits none_more n = fits_none
each_fits (one_more one others) zero = one
each_fits (one_more one others) (suc n) = each_fits others n

-- ---- the word on which an event dispatches

-- a number beyond those of the types
pub beyond : (n : ℕ) → 16 < n → machine_of n ≡ no_machine
beyond n h = List·getD-eq-default machines no_machine {n = n} h

-- 0, and the numbers beyond, are those of no type
pub none_of : (n : ℕ) → (n ≢ 0 → 16 < n) → machine_of n ≡ no_machine
none_of zero _ = refl
none_of (suc n) above = beyond (suc n) (above (λ z. absurd (omega (arith, z))))

-- it names the machine of the row's type
same_machine : (tag : ℕ) → machine_of tag ≡ machine_of (min tag 30 % 32)
same_machine tag =
    by_cases (dec_lt tag 31) (λ small. ap machine_of (at_most_30 tag small))
    (λ large. beyond tag (omega (arith, large)) ∙ ap machine_of (from_30 tag large))
  where
    at_most_30 : (m : ℕ) → m < 31 → m ≡ min m 30 % 32
    at_most_30 m h = omega (arith, h)

    from_30 : (m : ℕ) → ¬ (m < 31) → 30 ≡ min m 30 % 32
    from_30 m h = omega (arith, h)

pub live_type : (tag broken : ℕ) → ¬ (live_of tag broken % 32 ≡ 31) → (broken ≡ 0) × (machine_of tag ≡ machine_of (live_of tag broken % 32))
live_type tag broken =
    split (eqb broken 0)
    (λ b. ¬ (cond b (min tag 30) 31 % 32 ≡ 31) → (broken ≡ 0) × (machine_of tag ≡ machine_of (cond b (min tag 30) 31 % 32)))
    (λ e other. (eqb-true broken 0 e, same_machine tag)) (λ e other. absurd (other refl))

-- it is 31 only where the row is broken
pub live_none : (tag broken : ℕ) → live_of tag broken % 32 ≡ 31 → ¬ (broken ≡ 0)
live_none tag broken none is_open =
    below tag (sym (ap (λ (b : Bool). cond b (min tag 30) 31 % 32) (eq-eqb broken 0 is_open)) ∙ none)
  where
    below : (m : ℕ) → ¬ (min m 30 % 32 ≡ 31)
    below m z = absurd (omega (arith, z))

pub fits : (tag : ℕ) → FitsRow (machine_of tag)
fits =
    each_fits
    (one_more fits_none
    (one_more fits_delay
    (one_more fits_strong_delay
    (one_more fits_repeat
    (one_more fits_sporadic
    (one_more fits_repeat
    (one_more fits_order
    (one_more fits_strong_synchronization
    (one_more fits_execution_time
    (one_more fits_reaction
    (one_more fits_repetition
    (one_more fits_synchronization
    (one_more fits_age
    (one_more fits_output_synchronization
    (one_more fits_input_synchronization
    (one_more fits_pattern
    (one_more fits_arbitrary
    none_more)))))))))))))))))
