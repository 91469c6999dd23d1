-- StrongDelay is exact: the times that it keeps are just the sources beyond the number of targets, each pair is tested when its second event
-- comes, and the oldest source that waits is the first that can no longer get its target.
use Rattle.constraint.proofs.Library.{Bool, List, [], ◌&&◌, ◌++◌, ◌+◌, ◌-◌, ◌<◌, ◌∙◌, ◌∷◌, ◌≡◌, ◌≤◌, ◌⊎◌, ap, arith, cond, eq-eqb, eqb, eqb-false}
use Rattle.constraint.proofs.Library.{eqb-true, false, false≢true, get_or, inl, inr, leb, leb-false, leb-true, length, ltb, ne_eqb, refl, subst, sym}
use Rattle.constraint.proofs.Library.{true, ℕ}
use Rattle.constraint.proofs.{Counting.next_least, Lists.Each, Lists.Rising, Lists.both, Lists.rising_across, Lists.split}
use Rattle.constraint.specs.{Accepted.LowerFirst, Limits.last_time, Limits.waiting_limit, Meets.Between, Meets.Meets, Meets.MeetsStrongDelay}
use Rattle.constraint.specs.{Steps.Step, Steps.at, Steps.times}
use Rattle.constraint.specs.{Waiting.waiting, Constraint.StrongDelay}
use Rattle.row_type.proofs.FitsRow.{Calm, FitsRow, Unkept, calm_by, kind_overflows, dropped, free_second, keeping_last, neither, places_each, pushed}
use Rattle.row_type.proofs.FitsRow.{unkept_by}
use Rattle.row_type.proofs.TwoKinds.{Further, Lost, OfTwoKinds, TwoKinds, UpTo, exact_two_kinds, pair_live, target_apart}
use Rattle.row_type.proofs.{Exact.ByOutcome, Exact.Exact, Exact.GoesOn, Exact.Sound, Oldest.due_dropped, Oldest.due_each, Oldest.due_pushed}
use Rattle.row_type.specs.Parts.{breaking, continues_with, due_oldest, early_of, front, no_registers, none_left, plus, waits, with_last}
use Rattle.row_type.specs.{Parameters.parameters_of, Words.last_saved, declared.Registers.Registers, declared.Parameters.Parameters}
use Rattle.delay_order.proofs.Laws.Paired.{Ahead, Paired, Pairing, ahead_open, ahead_rising, beyond_each, beyond_late, beyond_misfits}
use Rattle.delay_order.proofs.Laws.Paired.{beyond_open}
use Rattle.delay_order.proofs.Laws.Paired.{due_ahead, due_beyond, due_early, paired_none_beyond, pairing_paired, pairing_oldest, pairing_start}
use Rattle.delay_order.proofs.Laws.Paired.{pairing_waits}
use Rattle.delay_order.proofs.Laws.Paired.{source_partners, source_waits, target_beyond, target_misfits, target_partners, waiting_late}
use Rattle.delay_order.specs.StrongDelay.{decide_strong_delay, overflows_strong_delay, machine_strong_delay, source_strong_delay, target_strong_delay}
use Rattle.ring.specs.declared.Edit.TheVariants.{Drop, Push}

-- the times are the sources beyond the number of targets
record LiveStrongDelay (lower upper : ℕ) (sources targets : List ℕ) (registers : Registers) (times : List ℕ) : Type 0 where
  pairing : Pairing (Between lower upper) sources targets (early_of registers) times

-- its due time, and whether it is kept
abbrev due : ℕ → Registers → List ℕ → ℕ
due upper registers times = due_early (early_of registers) (due_oldest upper times)

abbrev kept : Registers → List ℕ → Bool
kept registers times = eqb (early_of registers) 0 && none_left times

between_not_later : (lower upper x y : ℕ) → Between lower upper x y → x ≤ y
between_not_later lower upper x y f = omega (arith, f.0)

module _ (source target lower upper : ℕ) (sound : Sound (StrongDelay source target lower upper)) where
  abbrev parameters : Parameters
  parameters = parameters_of (StrongDelay source target lower upper)

  -- what the change at t makes of the row
  abbrev Does : List ℕ → List ℕ → Registers → List ℕ → ℕ → ℕ → Type 0
  Does sources targets registers times t k =
      ByOutcome (Lost t (Paired (Between lower upper)) sources targets)
      (GoesOn (LiveStrongDelay lower upper sources targets) (due upper) kept times t) (decide_strong_delay parameters registers times k t)

  -- ---- Start

  strong_delay_start : LiveStrongDelay lower upper [] [] no_registers []
  strong_delay_start = record { pairing = pairing_start (Between lower upper) }

  -- ---- Events

  -- what the machine does in each state
  source_change : (registers : Registers) (times : List ℕ) (t : ℕ) (b : Bool) → eqb (early_of registers) 0 ≡ b
      → decide_strong_delay parameters registers times source t ≡ waits upper times (cond b (Push 0 t) (Drop 0)) (with_last registers 0)
  unfolding decide_strong_delay source_strong_delay
  source_change registers times t b e = rw (eq-eqb source source refl, e)

  target_change : (registers : Registers) (times : List ℕ) (t : ℕ) → decide_strong_delay parameters registers times target t ≡ target_strong_delay
      parameters registers times t
  unfolding decide_strong_delay
  target_change registers times t = rw (ne_eqb target source (target_apart sound.kinds_fit))

  module _ (sources targets : List ℕ) (registers : Registers) (t : ℕ) (r : UpTo t sources targets) where
    source_by : (times : List ℕ) → Pairing (Between lower upper) sources targets (early_of registers) times → t ≤ due upper registers times
        → Does (sources ++ t ∷ []) targets registers times t source
    source_by times (inl (none, a)) in_time =
        rw (source_change registers times t true (eq-eqb (early_of registers) 0 none)) (record {
          live = record { pairing = inl (refl, source_waits t a) };
          due_is = refl;
          kept_is = refl;
          in_time = due_pushed upper t times r.small (rw (due_ahead (early_of registers) (due_oldest upper times) none) at in_time);
        })
    source_by times (inr (b, is, none, beyond)) in_time =
        let now : b ≡ t = omega (
          arith,
          beyond_each (λ y. y ≤ t) beyond r.targets_past,
          due_beyond (early_of registers) (due_oldest upper times) b
              is,
        ) in
        rw (source_change registers times t false (ne_eqb (early_of registers) 0 (omega arith)), none) (record {
          live = record {
            pairing = inl
                (refl, subst (λ (x : ℕ). Ahead (Between lower upper) (sources ++ x ∷ []) targets []) now (source_partners beyond));
          };
          due_is = refl;
          kept_is = refl;
          in_time = omega (arith, r.small);
        })

    -- a target with no source that waits, and one that takes the oldest
    target_alone : early_of registers ≡ 0 → Ahead (Between lower upper) sources targets [] → Does sources (targets ++ t ∷ []) registers [] t target
    unfolding target_strong_delay
    target_alone none a =
        rw (target_change registers [] t)
        (split (eqb lower 0)
        (λ x. ByOutcome (Lost t (Paired (Between lower upper)) sources (targets ++ t ∷ []))
        (GoesOn (LiveStrongDelay lower upper sources (targets ++ t ∷ [])) (due upper) kept [] t)
        (cond x (continues_with (Drop 0) (with_last registers (plus t 1)) t false) breaking))
        (λ e. record {
          live = record { pairing = inr (t, omega (arith, r.small), refl, target_beyond t a (omega (arith, eqb-true lower 0 e), omega arith)) };
          due_is = omega (arith, due_beyond (plus t 1) (due_oldest upper []) t (omega (arith, r.small)));
          kept_is = rw (ne_eqb (plus t 1) 0 (omega arith));
          in_time = omega arith;
        })
        (λ e. beyond_misfits (between_not_later lower upper) t a (λ f. eqb-false lower 0 e (omega (arith, f.0)))))

    target_takes : (s : ℕ) (times : List ℕ) → early_of registers ≡ 0 → Ahead (Between lower upper) sources targets (s ∷ times) → t ≤ plus s upper
        → Does sources (targets ++ t ∷ []) registers (s ∷ times) t target
    unfolding target_strong_delay
    target_takes s times none a oldest =
        rw (target_change registers (s ∷ times) t)
        (split (leb (s + lower) t)
        (λ x. ByOutcome (Lost t (Paired (Between lower upper)) sources (targets ++ t ∷ []))
        (GoesOn (LiveStrongDelay lower upper sources (targets ++ t ∷ [])) (due upper) kept (s ∷ times) t)
        (cond x (waits upper (s ∷ times) (Drop 1) registers) breaking))
        (λ e. record {
          live = record { pairing = inl (none, target_partners t a (leb-true (s + lower) t e, omega arith)) };
          due_is = rw (due_ahead (early_of registers) (due_oldest upper times) none);
          kept_is = rw (eq-eqb (early_of registers) 0 none);
          in_time = due_dropped upper t 1 (s ∷ times) r.small (ahead_rising a r.sources_rise) oldest;
        })
        (λ e. target_misfits t a (λ f. omega (arith, f.0, leb-false (s + lower) t e))))

    -- a second target beyond would be later than the due time
    target_by : (times : List ℕ) → Each (λ y. y < t) targets → Pairing (Between lower upper) sources targets (early_of registers) times
        → t ≤ due upper registers times → Does sources (targets ++ t ∷ []) registers times t target
    target_by [] before (inl (none, a)) in_time = target_alone none a
    target_by (s ∷ times) before (inl (none, a)) in_time = target_takes s times none a
        (rw (due_ahead (early_of registers) (plus s upper) none) at in_time)
    target_by times before (inr (b, is, none, beyond)) in_time =
        absurd (omega (arith, beyond_each (λ y. y < t) beyond before, due_beyond (early_of registers) (due_oldest upper times) b is))

  -- ---- Ticks

  late_by : (sources targets : List ℕ) (early : ℕ) (times : List ℕ) (t : ℕ) → Pairing (Between lower upper) sources targets early times
      → due_early early (due_oldest upper times) < t → t ≤ last_time → Lost t (Paired (Between lower upper)) sources targets
  late_by sources targets early [] t (inl (none, a)) passed small =
      λ fs gs late_fs late_gs m. omega (arith, due_ahead early (due_oldest upper []) none)
  late_by sources targets early (s ∷ times) t (inl (none, a)) passed small =
      waiting_late t a (λ g h f. omega (arith, f.1, due_ahead early (plus s upper) none))
  late_by sources targets early times t (inr (b, is, none, beyond)) passed small =
      beyond_late (between_not_later lower upper) t beyond (omega (arith, due_beyond early (due_oldest upper times) b is))

  -- ---- Open

  -- every target is earlier than the end of each waiting source's interval
  targets_early : (sources targets waiting : List ℕ) → Rising sources → Ahead (Between lower upper) sources targets waiting
      → Each (λ s. Each (λ t. t < s + upper) targets) waiting
  targets_early sources targets waiting rise a i h j k =
      omega (
        arith,
        rising_across a.paired waiting (subst Rising a.rest rise) j (omega (arith, a.pairs.0)) i h,
        a.pairs.1 j (omega (arith, a.pairs.0)),
      )

  open_by : (now : ℕ) (sources targets : List ℕ) (early : ℕ) (times : List ℕ) → UpTo now sources targets
      → Pairing (Between lower upper) sources targets early times → now ≤ due_early early (due_oldest upper times)
      → Further now sources (λ all. Paired (Between lower upper) all targets) ⊎ Further now targets (λ all. Paired (Between lower upper) sources all)
  unfolding LowerFirst
  open_by now sources targets early times r (inl (none, a)) in_time =
      let soon : now ≤ due_oldest upper times = rw (due_ahead early (due_oldest upper times) none) at in_time in
      let each_in_time = due_each upper now times (ahead_rising a r.sources_rise) soon in
      inr (ahead_open lower upper sound.lower_first.1.1.1.0 (λ x y f. f) r a
      (λ i h. omega (arith, each_in_time i h, next_least targets (at times i + upper) (targets_early sources targets times r.sources_rise a i h))))
  open_by now sources targets early times r (inr (b, is, none, beyond)) in_time =
      inl (beyond_open (between_not_later lower upper) r beyond (omega (arith, due_beyond early (due_oldest upper times) b is)))

  -- ---- Close

  kept_by : (sources targets : List ℕ) (early : ℕ) (times : List ℕ) → Pairing (Between lower upper) sources targets early times
      → (eqb early 0 && none_left times) ≡ true → Paired (Between lower upper) sources targets
  kept_by sources targets early times p =
      split (eqb early 0) (λ x. x && none_left times ≡ true → Paired (Between lower upper) sources targets)
      (λ e. empty times p (eqb-true early 0 e)) (λ e f. absurd (false≢true f))
    where
      empty : (times : List ℕ) → Pairing (Between lower upper) sources targets early times → early ≡ 0 → none_left times ≡ true
          → Paired (Between lower upper) sources targets
      empty [] p none f = pairing_paired [] p refl none
      empty (s ∷ times) p none f = absurd (false≢true f)

  not_kept_by : (sources targets : List ℕ) (early : ℕ) (times : List ℕ) → Pairing (Between lower upper) sources targets early times
      → (eqb early 0 && none_left times) ≡ false → ¬ Paired (Between lower upper) sources targets
  not_kept_by sources targets early [] p e m = both (rw (eq-eqb early 0 (paired_none_beyond p m).1) at e)
  not_kept_by sources targets early (s ∷ times) p e m = omega (arith, (paired_none_beyond p m).0)

  -- ---- Exact

  strong_delay_laws : TwoKinds (decide_strong_delay parameters) source target (Paired (Between lower upper)) true
      (λ sources targets. length sources - length targets)
  strong_delay_laws =
      record {
        Live = LiveStrongDelay lower upper;
        due = due upper;
        kept = kept;
        start = record { live = strong_delay_start; due_is = refl; kept_is = refl };
        source_does = λ r live. source_by _ _ _ _ r _ live.pairing;
        target_does = λ r before live. target_by _ _ _ _ r _ before live.pairing;
        late = λ live. late_by _ _ _ _ _ live.pairing;
        is_open = λ r live. open_by _ _ _ _ _ r live.pairing;
        waits = λ live. pairing_waits live.pairing;
        is_kept = λ live. kept_by _ _ _ _ live.pairing;
        not_kept = λ live. not_kept_by _ _ _ _ live.pairing;
      }

  strong_delay_of : OfTwoKinds (StrongDelay source target lower upper) source target (Paired (Between lower upper)) true
      (λ sources targets. length sources - length targets)
  unfolding Meets MeetsStrongDelay waiting
  strong_delay_of = record {
    kinds_are = refl;
    streams_are = refl;
    kinds_fit = sound.kinds_fit;
    no_words = refl;
    meets_are = λ steps. refl;
    waits_are = refl;
    waiting_is = λ steps. refl;
  }

  -- §5.2
  pub exact_strong_delay : Exact (StrongDelay source target lower upper) (decide_strong_delay parameters)
  exact_strong_delay = exact_two_kinds strong_delay_of (decide_strong_delay parameters) strong_delay_laws

  -- §6.2: the times that it keeps are the sources beyond the number of targets
  pub strong_delay_keeps : (steps : List Step) (registers : Registers) (held : List ℕ) → exact_strong_delay.Live steps registers held
      → (missing : ℕ) → get_or (times source steps) (length (times target steps)) missing ≡ get_or held 0 missing
  unfolding exact_strong_delay strong_delay_laws
  strong_delay_keeps steps registers held live =
      pairing_oldest (pair_live strong_delay_of (decide_strong_delay parameters) strong_delay_laws steps registers held live).pairing

-- ---- In a row

-- a target beyond is marked with its time, and a source takes the mark away
unkept_strong_delay : (parameters : Parameters) (m : Registers) (times : List ℕ) (kind t : ℕ) → Unkept last_saved m
    → Unkept last_saved (decide_strong_delay parameters m times kind t).registers
unfolding decide_strong_delay source_strong_delay target_strong_delay
unkept_strong_delay parameters m times kind t e =
    unkept_by last_saved (eqb kind parameters.first) (source_strong_delay parameters m times t) (target_strong_delay parameters m times t)
    (ap (λ (x : Registers). with_last x 0) e)
    (unkept_by last_saved (none_left times) _ _
    (unkept_by last_saved (eqb parameters.lower 0) (continues_with (Drop 0) (with_last m (plus t 1)) t false) breaking
    (ap (λ (x : Registers). with_last x (plus t 1)) e) refl)
    (unkept_by last_saved (leb (front times + parameters.lower) t) (waits parameters.upper times (Drop 1) m) breaking e refl))

target_calm : (parameters : Parameters) (registers : Registers) (times : List ℕ) (t : ℕ) → length times ≤ 64
    → Calm times (target_strong_delay parameters registers times t)
unfolding target_strong_delay
target_calm parameters registers times t few =
    calm_by times (none_left times) (cond (eqb parameters.lower 0) (continues_with (Drop 0) (with_last registers (plus t 1)) t false) breaking)
    (cond (leb (front times + parameters.lower) t) (waits parameters.upper times (Drop 1) registers) breaking)
    (calm_by times (eqb parameters.lower 0) (continues_with (Drop 0) (with_last registers (plus t 1)) t false) breaking (dropped times 0 few) refl)
    (calm_by times (leb (front times + parameters.lower) t) (waits parameters.upper times (Drop 1) registers) breaking (dropped times 1 few) refl)

crowding_strong_delay : (parameters : Parameters) (registers : Registers) (times : List ℕ) (kind t : ℕ) → 63 ≤ length times → length times ≤ 64
    → overflows_strong_delay parameters registers (length times) kind t ≡ kind_overflows (decide_strong_delay parameters registers times kind t) times
unfolding overflows_strong_delay decide_strong_delay source_strong_delay
crowding_strong_delay parameters registers times kind t many few =
    let full : Bool → Bool = λ b. cond (ltb (length times) waiting_limit) false b in
    split (eqb kind parameters.first)
    (λ a. cond a (full (eqb (early_of registers) 0)) false
    ≡ kind_overflows (cond a (waits parameters.upper times (cond (eqb (early_of registers) 0) (Push 0 t) (Drop 0)) (with_last registers 0))
    (target_strong_delay parameters registers times t)) times)
    (λ _. split (eqb (early_of registers) 0)
    (λ b. full b ≡ kind_overflows (waits parameters.upper times (cond b (Push 0 t) (Drop 0)) (with_last registers 0)) times)
    (λ _. sym (pushed times t)) (λ _. neither (ltb (length times) waiting_limit) ∙ sym (dropped times 0 few)))
    (λ _. sym (target_calm parameters registers times t few))

pub fits_strong_delay : FitsRow machine_strong_delay
unfolding overflows_strong_delay
fits_strong_delay =
    record {
      keeping = keeping_last;
      unkept = unkept_strong_delay;
      crowding = crowding_strong_delay;
      room = λ parameters registers n s t many free. free_second n free (eqb s parameters.first) (eqb (early_of registers) 0);
      places = places_each;
    }
