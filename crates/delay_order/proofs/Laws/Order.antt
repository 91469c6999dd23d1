-- Order is exact: as many sources as it counts are beyond the number of targets and may get theirs at any later time, and a target beyond the
-- number of sources is the partner of a source at its own time only.
use Rattle.constraint.proofs.Library.{Bool, List, [], ◌&&◌, ◌++◌, ◌+◌, ◌-◌, ◌<◌, ◌∙◌, ◌∷◌, ◌≡◌, ◌≤◌, ◌⊎◌, ap, arith, cond, eq-eqb, eqb, eqb-true}
use Rattle.constraint.proofs.Library.{false, false≢true, inl, inr, length, length-append, ne_eqb, refl, subst, sym, true, ℕ}
use Rattle.constraint.proofs.Lists.{Each, Rising, both, each_right, rising_by, split}
use Rattle.constraint.specs.{Limits.last_time, Limits.no_limit, Meets.Meets, Meets.MeetsOrder, Waiting.waiting, Constraint.Order}
use Rattle.row_type.proofs.Exact.{ByOutcome, Exact, GoesOn, Sound}
use Rattle.row_type.proofs.FitsRow.{FitsRow, Steady, fits_steady, keeping_first_three, steady_by, steady_drop}
use Rattle.row_type.proofs.TwoKinds.{Further, Lost, TwoKinds, UpTo, exact_two_kinds, target_apart}
use Rattle.row_type.specs.Parts.{continues_with, early_of, registers_of, no_registers, plus, with_last}
use Rattle.row_type.specs.{Parameters.parameters_of, Words.first_three_saved, declared.Registers.Registers, declared.Parameters.Parameters}
use Rattle.delay_order.proofs.Laws.Answers.{first_free}
use Rattle.delay_order.proofs.Laws.Paired.{Ahead, Paired, Pairing, ahead_count, ahead_open, beyond_each, beyond_late, beyond_open, due_ahead}
use Rattle.delay_order.proofs.Laws.Paired.{due_beyond, due_early, paired_none_beyond, pairing_paired, pairing_start, source_partners}
use Rattle.delay_order.proofs.Laws.Paired.{source_waits}
use Rattle.delay_order.proofs.Laws.Paired.{target_beyond, target_partners}
use Rattle.delay_order.specs.Order.{ahead_of, changes_to, decide_order, machine_order, with_ahead}
use Rattle.ring.specs.declared.Edit.TheVariants.{Drop}

-- no times are kept, and `ahead_of` counts the sources beyond the number of targets
record LiveOrder (sources targets : List ℕ) (registers : Registers) (times : List ℕ) : Type 0 where
  no_times : times ≡ []
  waiting : List ℕ
  count : ahead_of registers ≡ length waiting
  pairing : Pairing ◌≤◌ sources targets (early_of registers) waiting

-- its due time, and whether it is kept
abbrev due : Registers → List ℕ → ℕ
due registers times = due_early (early_of registers) no_limit

abbrev kept : Registers → List ℕ → Bool
kept registers times = eqb (early_of registers) 0 && eqb (ahead_of registers) 0

-- times that rise up to a clock are not more than one more than it
rising_count : (now : ℕ) (xs : List ℕ) → Rising xs → Each (λ x. x ≤ now) xs → length xs ≤ now + 1
rising_count now [] rise past = omega arith
rising_count now (x ∷ xs) rise past = omega (arith, rising_by (x ∷ xs) rise 0 (length xs) (omega arith), past (0 + length xs) (omega arith))

module _ (source target : ℕ) (sound : Sound (Order source target)) where
  abbrev parameters : Parameters
  parameters = parameters_of (Order source target)

  -- ---- Start

  order_start : LiveOrder [] [] no_registers []
  order_start = record { no_times = refl; waiting = []; count = refl; pairing = pairing_start ◌≤◌ }

  -- ---- Events

  -- the row goes on with each change to other marks
  goes_to : (sources targets : List ℕ) (registers : Registers) (times : List ℕ) (t : ℕ) → LiveOrder sources targets registers times
      → t ≤ due registers times
      → ByOutcome (Lost t (Paired ◌≤◌) sources targets) (GoesOn (LiveOrder sources targets) due kept times t) (changes_to registers)
  unfolding changes_to
  goes_to sources targets registers times t live in_time =
      split (eqb (early_of registers) 0)
      (λ x. eqb (early_of registers) 0 ≡ x → ByOutcome (Lost t (Paired ◌≤◌) sources targets) (GoesOn (LiveOrder sources targets) due kept times t)
      (cond x (continues_with (Drop 0) registers no_limit (eqb (ahead_of registers) 0))
      (continues_with (Drop 0) registers (early_of registers - 1) false)))
      (λ e f. record { live = live; due_is = rw f; kept_is = rw f; in_time = rw f at in_time })
      (λ e f. record { live = live; due_is = rw f; kept_is = rw f; in_time = rw f at in_time }) refl

  module _ (sources targets : List ℕ) (registers : Registers) (times : List ℕ) (t : ℕ) (r : UpTo t sources targets) (no_times : times ≡ [])
      (waiting : List ℕ) (count : ahead_of registers ≡ length waiting) where
    source_by : Pairing ◌≤◌ sources targets (early_of registers) waiting → t ≤ due registers times
        → ByOutcome (Lost t (Paired ◌≤◌) (sources ++ t ∷ []) targets) (GoesOn (LiveOrder (sources ++ t ∷ []) targets) due kept times t)
        (decide_order parameters registers times source t)
    unfolding decide_order
    source_by (inl (none, a)) in_time =
        rw (eq-eqb source source refl, eq-eqb (early_of registers) 0 none)
        (goes_to (sources ++ t ∷ []) targets (with_ahead registers (plus (ahead_of registers) 1)) times t
        (record { no_times = no_times; waiting = waiting ++ t ∷ []; count = one_more; pairing = inl (none, source_waits t a) })
        (omega (arith, r.small, due_ahead (early_of registers) no_limit none)))
      where
        one_more : plus (ahead_of registers) 1 ≡ length (waiting ++ t ∷ [])
        one_more =
            rw (count, length-append waiting (t ∷ []))
            (omega (arith, r.small, ahead_count a, rising_count t sources r.sources_rise r.sources_past))
    source_by (inr (b, is, none, beyond)) in_time =
        rw (eq-eqb source source refl, ne_eqb (early_of registers) 0 (omega arith))
        (goes_to (sources ++ t ∷ []) targets (with_last registers 0) times t
        (record {
          no_times = no_times;
          waiting = [];
          count = count ∙ ap length none;
          pairing = inl (refl, subst (λ (x : ℕ). Ahead ◌≤◌ (sources ++ x ∷ []) targets []) now (source_partners beyond));
        })
        (omega (arith, r.small)))
      where
        now : b ≡ t
        now = omega (arith, beyond_each (λ y. y ≤ t) beyond r.targets_past, due_beyond (early_of registers) no_limit b is)

  abbrev TargetDoes : List ℕ → List ℕ → Registers → List ℕ → ℕ → Type 0
  TargetDoes sources targets registers times t =
      ByOutcome (Lost t (Paired ◌≤◌) sources (targets ++ t ∷ [])) (GoesOn (LiveOrder sources (targets ++ t ∷ [])) due kept times t)
      (decide_order parameters registers times target t)

  target_change : (registers : Registers) (times : List ℕ) (t : ℕ) → decide_order parameters registers times target t
      ≡ cond (eqb (ahead_of registers) 0) (changes_to (with_last registers (plus t 1))) (changes_to (with_ahead registers (ahead_of registers - 1)))
  unfolding decide_order
  target_change registers times t = rw (ne_eqb target source (target_apart sound.kinds_fit))

  module _ (sources targets : List ℕ) (registers : Registers) (times : List ℕ) (t : ℕ) (r : UpTo t sources targets)
      (before : Each (λ y. y < t) targets)
      (no_times : times ≡ []) where
    target_by : (waiting : List ℕ) → ahead_of registers ≡ length waiting → Pairing ◌≤◌ sources targets (early_of registers) waiting
        → t ≤ due registers times
        → TargetDoes sources targets registers times t
    target_by [] count (inl (none, a)) in_time =
        rw (target_change registers times t, eq-eqb (ahead_of registers) 0 count)
        (goes_to sources (targets ++ t ∷ []) (with_last registers (plus t 1)) times t
        (record {
          no_times = no_times;
          waiting = [];
          count = count;
          pairing = inr (t, omega (arith, r.small), refl, target_beyond t a (omega arith));
        })
        (omega (arith, due_beyond (plus t 1) no_limit t (omega (arith, r.small)))))
    target_by (s ∷ waiting) count (inl (none, a)) in_time =
        rw (target_change registers times t, ne_eqb (ahead_of registers) 0 (omega arith))
        (goes_to sources (targets ++ t ∷ []) (with_ahead registers (ahead_of registers - 1)) times t
        (record { no_times = no_times; waiting = waiting; count = omega arith; pairing = inl (none, target_partners t a earlier) })
        (omega (arith, r.small, due_ahead (early_of registers) no_limit none)))
      where
        earlier : s ≤ t
        earlier = each_right (λ x. x ≤ t) a.paired (s ∷ waiting) (subst (Each (λ x. x ≤ t)) a.rest r.sources_past) 0 (omega arith)
    target_by waiting count (inr (b, is, none, beyond)) in_time =
        absurd (omega (arith, beyond_each (λ y. y < t) beyond before, due_beyond (early_of registers) no_limit b is))

  -- ---- Ticks

  late_by : (sources targets : List ℕ) (early : ℕ) (waiting : List ℕ) (t : ℕ) → Pairing ◌≤◌ sources targets early waiting
      → due_early early no_limit < t
      → t ≤ last_time → Lost t (Paired ◌≤◌) sources targets
  late_by sources targets early waiting t (inl (none, a)) passed small = λ fs gs late_fs late_gs m. omega (arith, due_ahead early no_limit none)
  late_by sources targets early waiting t (inr (b, is, none, beyond)) passed small =
      beyond_late (λ x y h. h) t beyond (omega (arith, due_beyond early no_limit b is))

  -- ---- Open

  open_by : (now : ℕ) (sources targets : List ℕ) (early : ℕ) (waiting : List ℕ) → UpTo now sources targets
      → Pairing ◌≤◌ sources targets early waiting → now ≤ due_early early no_limit
      → Further now sources (λ all. Paired ◌≤◌ all targets) ⊎ Further now targets (λ all. Paired ◌≤◌ sources all)
  open_by now sources targets early waiting r (inl (none, a)) in_time =
      inr (ahead_open 0 (first_free now targets) (omega arith) (λ x y h. omega (arith, h.0)) r a (λ i h. omega arith))
  open_by now sources targets early waiting r (inr (b, is, none, beyond)) in_time =
      inl (beyond_open (λ x y h. h) r beyond (omega (arith, due_beyond early no_limit b is)))

  -- ---- Close

  order_kept : (sources targets : List ℕ) (registers : Registers) (times : List ℕ) → LiveOrder sources targets registers times
      → kept registers times ≡ true
      → Paired ◌≤◌ sources targets
  order_kept sources targets registers times live =
      split (eqb (early_of registers) 0) (λ x. x && eqb (ahead_of registers) 0 ≡ true → Paired ◌≤◌ sources targets)
      (λ e f. pairing_paired live.waiting live.pairing (sym live.count ∙ eqb-true (ahead_of registers) 0 f)
      (eqb-true (early_of registers) 0 e))
      (λ e f. absurd (false≢true f))

  order_not_kept : (sources targets : List ℕ) (registers : Registers) (times : List ℕ) → LiveOrder sources targets registers times
      → kept registers times ≡ false
      → ¬ Paired ◌≤◌ sources targets
  order_not_kept sources targets registers times live e p =
      let (no_source, no_target) = paired_none_beyond live.pairing p in
      both (rw (eq-eqb (ahead_of registers) 0 (live.count ∙ no_source), eq-eqb (early_of registers) 0 no_target) at e)

  -- ---- Exact

  order_laws : TwoKinds (decide_order parameters) source target (Paired ◌≤◌) false (λ sources targets. 0)
  order_laws =
      record {
        Live = LiveOrder;
        due = due;
        kept = kept;
        start = record { live = order_start; due_is = refl; kept_is = refl };
        source_does = λ r live. source_by _ _ _ _ _ r live.no_times live.waiting live.count live.pairing;
        target_does = λ r before live. target_by _ _ _ _ _ r before live.no_times live.waiting live.count live.pairing;
        late = λ live. late_by _ _ _ live.waiting _ live.pairing;
        is_open = λ r live. open_by _ _ _ _ live.waiting r live.pairing;
        waits = λ live. (refl, omega (arith, ap length live.no_times));
        is_kept = λ live. order_kept _ _ _ _ live;
        not_kept = λ live. order_not_kept _ _ _ _ live;
      }

  -- §5.6
  pub exact_order : Exact (Order source target) (decide_order parameters)
  unfolding Meets MeetsOrder waiting
  exact_order =
      exact_two_kinds
      (record {
        kinds_are = refl;
        streams_are = refl;
        kinds_fit = sound.kinds_fit;
        no_words = refl;
        meets_are = λ steps. refl;
        waits_are = refl;
        waiting_is = λ steps. refl;
      })
      (decide_order parameters) order_laws

-- ---- In a row

-- no times are kept, and an event changes two marks
steady_to : (last first : ℕ) (m : Registers) (times : List ℕ) → Steady first_three_saved m times (changes_to (registers_of last first m.second m))
unfolding changes_to
steady_to last first m times =
    steady_by (eqb last 0) (steady_drop 0 (ap (registers_of last first m.second))) (steady_drop 0 (ap (registers_of last first m.second)))

steady_order : (parameters : Parameters) (m : Registers) (times : List ℕ) (kind t : ℕ) → Steady first_three_saved m times (decide_order parameters m
    times kind t)
unfolding decide_order
steady_order parameters m times kind t =
    steady_by (eqb kind parameters.first)
    (steady_by (eqb (early_of m) 0) (steady_to m.last (plus (ahead_of m) 1) m times) (steady_to 0 m.first m times))
    (steady_by (eqb (ahead_of m) 0) (steady_to (plus t 1) m.first m times) (steady_to m.last (ahead_of m - 1) m times))

pub fits_order : FitsRow machine_order
fits_order = fits_steady keeping_first_three steady_order
