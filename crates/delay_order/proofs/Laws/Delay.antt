-- Delay is exact: the times that it keeps are just the sources with no target in their interval; a target answers the oldest of them, and
-- the oldest is the first that can no longer be answered.
use Rattle.constraint.proofs.Counting.{next_above, next_least, next_snoc, next_free}
use Rattle.constraint.proofs.History.{Accepts, Past, Valid, closed_tick, past_of, valid_more}
use Rattle.constraint.proofs.Library.{Bool, List, [], ◌&&◌, ◌++◌, ◌+◌, ◌<◌, ◌||◌, ◌∙◌, ◌∷◌, ◌≡◌, ◌≤◌, ap, append-nil, arith, cond, drop, eq-eqb, eqb}
use Rattle.constraint.proofs.Library.{eqb-true, false, false≢true, inr, le-leb, leb, leb-false, leb-true, length, lt-leb, ltb, ne_eqb, or-true, refl}
use Rattle.constraint.proofs.Library.{suc, sym, true, true≢false, ℕ, ⊎_elim}
use Rattle.constraint.proofs.Lists.{Each, Rising, each_left, each_tail, split}
use Rattle.constraint.specs.Steps.{Step, at, clock, closed, tick, times}
use Rattle.constraint.specs.{Accepted.LowerFirst, Continuation.Open, Limits.last_time, Limits.no_limit, Limits.waiting_limit, Meets.Meets}
use Rattle.constraint.specs.{Meets.MeetsDelay, Waiting.answered, Waiting.unanswered, Waiting.waiting, Constraint.Delay}
use Rattle.row_type.proofs.Exact.{ByOutcome, Exact, GoesOn, Sound}
use Rattle.row_type.proofs.FitsRow.{FitsRow, Unkept, kind_overflows, dropped, free_second, keeping_last, neither, places_each, pushed, unkept_by}
use Rattle.row_type.proofs.Oldest.{due_dropped, due_each, due_passed, due_pushed}
use Rattle.row_type.proofs.TwoKinds.{Further, Lost, OfTwoKinds, TwoKinds, UpTo, exact_two_kinds, pair_live, pair_open, target_apart}
use Rattle.row_type.specs.Parts.{due_oldest, no_registers, none_left, plus, waits, with_last}
use Rattle.row_type.specs.{Parameters.parameters_of, Words.last_saved, declared.Change.Change, declared.Registers.Registers}
use Rattle.row_type.specs.{declared.Parameters.Parameters}
use Rattle.delay_order.proofs.Laws.Answers.{answers, answers_between, answers_count, answers_follow, answers_from_now, first_free}
use Rattle.delay_order.proofs.Laws.Unmet.{Answered, answered_by_lem, answered_true, meets_unmet, unmet, unmet_count, unmet_meets, unmet_rising}
use Rattle.delay_order.proofs.Laws.Unmet.{unmet_sources, unmet_targets, unmet_unanswered}
use Rattle.delay_order.specs.Delay.{answered_at_once, answered_by, decide_delay, overflows_delay, machine_delay}
use Rattle.ring.specs.declared.Edit.TheVariants.{Drop, Push}

-- the times are the sources with no target in their interval, and `last` is one more than the last target's time
record LiveDelay (lower upper : ℕ) (sources targets : List ℕ) (registers : Registers) (times : List ℕ) : Type 0 where
  unmet_are : times ≡ unmet lower upper sources targets
  last_is : registers.last ≡ next_free targets

-- its due time, and whether it is kept
abbrev due : ℕ → Registers → List ℕ → ℕ
due upper registers times = due_oldest upper times

abbrev kept : Registers → List ℕ → Bool
kept registers times = none_left times

module _ (source target lower upper : ℕ) (sound : Sound (Delay source target lower upper)) where
  abbrev parameters : Parameters
  parameters = parameters_of (Delay source target lower upper)

  -- ---- Start

  delay_start : LiveDelay lower upper [] [] no_registers []
  unfolding next_free
  delay_start = record { unmet_are = refl; last_is = refl }

  -- ---- Events

  -- of targets that are not after the source only the last can answer it, and only at its time
  earlier_unanswered : (targets : List ℕ) (t : ℕ) → lower ≡ 0 → Each (λ y. y ≤ t) targets → answered lower upper t targets ≡ false
      → Each (λ y. y < t) targets
  earlier_unanswered targets t none past e j h =
      split (leb t (at targets j)) (λ x. at targets j < t)
      (λ f. absurd (true≢false (sym (answered_by_lem lower upper t targets j h (omega (arith, leb-true), inr (omega (arith, past j h)))) ∙ e)))
      (λ f. omega (arith, leb-false))

  answered_at_once_lem : (targets : List ℕ) (t : ℕ) → t ≤ last_time → Each (λ y. y ≤ t) targets
      → answered lower upper t targets ≡ answered_at_once lower (next_free targets) t
  answered_at_once_lem targets t small past =
      split (answered lower upper t targets) (λ x. x ≡ answered_at_once lower (next_free targets) t)
      (λ e. let a = answered_true lower upper t targets e in
      rw (
        eq-eqb lower 0 (omega (arith, a.2.0, past a.0 a.1)),
        eq-eqb (next_free targets) (plus t 1)
            (omega (arith, a.2.0, next_above targets a.0 a.1, next_least targets (suc t) (λ j h. omega (arith, past j h)))),
      ))
      (λ e. split (eqb lower 0) (λ x. false ≡ (x && eqb (next_free targets) (plus t 1)))
      (λ f. let before = earlier_unanswered targets t (eqb-true lower 0 f) past e in
      sym (ne_eqb (next_free targets) (plus t 1) (λ is. omega (arith, next_least targets t before))))
      (λ f. refl))

  -- a target answers the oldest of the waiting, as many as are at least lower before it
  unmet_none : (times : List ℕ) (t : ℕ) → Each (λ s. t < s + lower) times → unmet lower upper times (t ∷ []) ≡ times
  unfolding answered
  unmet_none [] t early = refl
  unmet_none (s ∷ times) t early =
      rw (lt-leb (s + lower) t (early 0 (omega arith)), unmet_none times t (each_tail (λ s. t < s + lower) s times early))

  answered_oldest : (times : List ℕ) (t : ℕ) → Rising times → Each (λ s. t ≤ s + upper) times
      → drop (answered_by lower t times) times ≡ unmet lower upper times (t ∷ [])
  unfolding answered answered_by
  answered_oldest [] t rise in_time = refl
  answered_oldest (s ∷ times) t rise in_time =
      rw (le-leb t (s + upper) (in_time 0 (omega arith)), or-true (eqb upper no_limit))
      (split (leb (s + lower) t)
      (λ x. drop (cond x (suc (answered_by lower t times)) 0) (s ∷ times)
      ≡ cond ((x && true) || false) (unmet lower upper times (t ∷ [])) (s ∷ unmet lower upper times (t ∷ [])))
      (λ e. answered_oldest times t rise.1 (each_tail (λ s. t ≤ s + upper) s times in_time))
      (λ e. ap (λ (l : List ℕ). s ∷ l) (sym (unmet_none times t (λ i h. omega (arith, leb-false, rise.0 i h))))))

  module _ {now : ℕ} {sources targets : List ℕ} {registers : Registers} {times : List ℕ} (r : UpTo now sources targets)
      (live : LiveDelay lower upper sources targets registers times) where
    times_rise : Rising times
    times_rise = rw live.unmet_are (unmet_rising lower upper sources targets r.sources_rise)

    module _ (in_time : now ≤ due_oldest upper times) where
      -- a source that a target answers already, and one that waits
      source_goes : (b : Bool) → answered lower upper now targets ≡ b
          → GoesOn (LiveDelay lower upper (sources ++ now ∷ []) targets) (due upper) kept times now
          (waits upper times (cond b (Drop 0) (Push 0 now)) registers)
      source_goes true e =
          record {
            live = record {
              unmet_are = live.unmet_are ∙ sym (append-nil (unmet lower upper sources targets))
                  ∙ rw (unmet_sources lower upper sources (now ∷ []) targets, e);
              last_is = live.last_is;
            };
            due_is = refl;
            kept_is = refl;
            in_time = in_time;
          }
      source_goes false e =
          record {
            live = record { unmet_are = rw (live.unmet_are, unmet_sources lower upper sources (now ∷ []) targets, e); last_is = live.last_is };
            due_is = refl;
            kept_is = refl;
            in_time = due_pushed upper now times r.small in_time;
          }

      source_does : ByOutcome (Lost now (MeetsDelay lower upper) (sources ++ now ∷ []) targets)
          (GoesOn (LiveDelay lower upper (sources ++ now ∷ []) targets) (due upper) kept times now)
          (decide_delay parameters registers times source now)
      unfolding decide_delay
      source_does =
          rw (eq-eqb source source refl)
          (source_goes (answered_at_once lower registers.last now) (rw live.last_is (answered_at_once_lem targets now r.small r.targets_past)))

      target_does : Each (λ y. y < now) targets → ByOutcome (Lost now (MeetsDelay lower upper) sources (targets ++ now ∷ []))
          (GoesOn (LiveDelay lower upper sources (targets ++ now ∷ [])) (due upper) kept times now)
          (decide_delay parameters registers times target now)
      unfolding decide_delay
      target_does before =
          rw (ne_eqb target source (target_apart sound.kinds_fit)) (record {
            live = record {
              unmet_are = answered_oldest times now times_rise (due_each upper now times times_rise in_time)
                  ∙ rw live.unmet_are (sym (unmet_targets lower upper sources targets (now ∷ [])));
              last_is = omega (arith, next_snoc targets now before, r.small);
            };
            due_is = refl;
            kept_is = refl;
            in_time = due_dropped upper now (answered_by lower now times) times r.small times_rise in_time;
          })

  -- ---- Ticks

  -- no target from t on answers the oldest
  late_oldest : (times : List ℕ) (t : ℕ) (further : List ℕ) → t ≤ last_time → due_oldest upper times < t → Each (λ y. t ≤ y) further
      → ¬ MeetsDelay lower upper times further
  unfolding MeetsDelay
  late_oldest times t further small passed late m =
      let (some, over) = due_passed upper t times small passed in
      let a = m 0 some in
      ⊎_elim (λ mark. omega arith) (λ soon. omega (arith, late a.0 a.1)) a.2.1

  delay_late : {sources targets : List ℕ} {registers : Registers} {times : List ℕ} {t : ℕ} → LiveDelay lower upper sources targets registers times
      → due_oldest upper times < t → t ≤ last_time → Lost t (MeetsDelay lower upper) sources targets
  unfolding MeetsDelay
  delay_late {sources} {targets} {registers} {times} {t} live passed small fs gs late_fs late m =
      late_oldest times t gs small passed late
      (unmet_meets lower upper times gs
      (rw (live.unmet_are, ← unmet_targets lower upper sources targets gs)
      (meets_unmet lower upper sources (targets ++ gs) (each_left (Answered lower upper (targets ++ gs)) sources fs m))))

  -- ---- Open

  module _ {now : ℕ} {sources targets : List ℕ} {registers : Registers} {times : List ℕ} (r : UpTo now sources targets)
      (live : LiveDelay lower upper sources targets registers times) (in_time : now ≤ due_oldest upper times) where
    -- every target is earlier than the end of each waiting source's interval
    targets_early : (s : ℕ) → ¬ Answered lower upper targets s → now ≤ s + upper → Each (λ t. t < s + upper) targets
    unfolding LowerFirst
    targets_early s waits late j h =
        split (leb (s + lower) (at targets j)) (λ x. at targets j < s + upper)
        (λ e. absurd (waits (j, h, (leb-true (s + lower) (at targets j) e, inr (omega (arith, r.targets_past j h))))))
        (λ e. omega (arith, leb-false, sound.lower_first.1.1.1.0))

    free_in_time : Each (λ s. first_free now targets ≤ s + upper) times
    free_in_time i h =
        let none_answered : Each (λ s. ¬ Answered lower upper targets s) times =
        rw live.unmet_are (unmet_unanswered lower upper sources targets) in
        let late = due_each upper now times (times_rise r live) in_time i h in
        omega (arith, next_least targets (at times i + upper) (targets_early (at times i) (none_answered i h) late))

    delay_open : Further now targets (λ all. MeetsDelay lower upper sources all)
    unfolding MeetsDelay LowerFirst
    delay_open =
        let further : List ℕ = answers lower (first_free now targets) times in
        let between = answers_between lower upper (first_free now targets) times sound.lower_first.1.1.1.0 (times_rise r live) free_in_time in (
          further,
          answers_follow lower now targets times r.targets_rise,
          answers_from_now lower now targets times,
          unmet_meets lower upper sources (targets ++ further)
              (rw (unmet_targets lower upper sources targets further, ← live.unmet_are)
              (meets_unmet lower upper times further
              (λ i h. (i, rw (answers_count lower (first_free now targets) times) h, ((between i h).0, inr (between i h).1))))),
        )

  -- ---- Waiting

  delay_waits : {sources targets : List ℕ} {registers : Registers} {times : List ℕ} → LiveDelay lower upper sources targets registers times
      → unanswered lower upper sources targets ≡ length times
  delay_waits {sources} {targets} live = unmet_count lower upper sources targets ∙ ap length (sym live.unmet_are)

  -- ---- Close

  delay_kept : (sources targets times : List ℕ) → times ≡ unmet lower upper sources targets → none_left times ≡ true
      → MeetsDelay lower upper sources targets
  delay_kept sources targets [] are e = unmet_meets lower upper sources targets (sym are)
  delay_kept sources targets (s ∷ times) are e = absurd (false≢true e)

  delay_not_kept : (sources targets times : List ℕ) → times ≡ unmet lower upper sources targets → none_left times ≡ false
      → ¬ MeetsDelay lower upper sources targets
  delay_not_kept sources targets times are e m = true≢false (rw (are, meets_unmet lower upper sources targets m) at e)

  -- ---- Exact

  delay_laws : TwoKinds (decide_delay parameters) source target (MeetsDelay lower upper) true (unanswered lower upper)
  delay_laws =
      record {
        Live = LiveDelay lower upper;
        due = due upper;
        kept = kept;
        start = record { live = delay_start; due_is = refl; kept_is = refl };
        source_does = source_does;
        target_does = λ r before live soon. target_does r live soon before;
        late = delay_late;
        is_open = λ r live soon. inr (delay_open r live soon);
        waits = delay_waits;
        is_kept = λ live. delay_kept _ _ _ live.unmet_are;
        not_kept = λ live. delay_not_kept _ _ _ live.unmet_are;
      }

  delay_of : OfTwoKinds (Delay source target lower upper) source target (MeetsDelay lower upper) true (unanswered lower upper)
  unfolding Meets waiting
  delay_of = record {
    kinds_are = refl;
    streams_are = refl;
    kinds_fit = sound.kinds_fit;
    no_words = refl;
    meets_are = λ steps. refl;
    waits_are = refl;
    waiting_is = λ steps. refl;
  }

  -- §5.1
  pub exact_delay : Exact (Delay source target lower upper) (decide_delay parameters)
  exact_delay = exact_two_kinds delay_of (decide_delay parameters) delay_laws

  -- §6.1: the times that it keeps are the sources that are not answered
  pub delay_keeps : (steps : List Step) (registers : Registers) (held : List ℕ) → exact_delay.Live steps registers held
      → held ≡ unmet lower upper (times source steps) (times target steps)
  unfolding exact_delay delay_laws
  delay_keeps steps registers held live = (pair_live delay_of (decide_delay parameters) delay_laws steps registers held live).unmet_are

-- ---- Without an upper limit

module _ (source target lower : ℕ) (sound : Sound (Delay source target lower no_limit)) where
  -- its due time is none
  none_due : (sources : List ℕ) → due_oldest no_limit sources ≡ no_limit
  none_due [] = refl
  none_due (s ∷ sources) = omega arith

  -- the sources with no target so far still can have one
  unlimited_further : {now : ℕ} {sources targets : List ℕ} → UpTo now sources targets
      → Further now targets (λ all. MeetsDelay lower no_limit sources all)
  unlimited_further {now} {sources} {targets} r =
      delay_open source target lower no_limit sound {registers = with_last no_registers (next_free targets)} r
      (record { unmet_are = refl; last_is = refl })
      (omega (arith, none_due (unmet lower no_limit sources targets), r.small))

  -- §5.1.6: before the close the row is open, whatever has come and however late it is
  pub unlimited_delay_open : {steps : List Step} → Past steps → closed steps ≡ false → Open (Delay source target lower no_limit) steps
  unlimited_delay_open {steps} p o =
      let r : UpTo (clock steps) (times source steps) (times target steps) = record {
        sources_rise = p.rising source;
        targets_rise = p.rising target;
        sources_past = p.past source;
        targets_past = p.past target;
        small = p.small;
      } in
      pair_open (delay_of source target lower no_limit sound) (decide_delay (parameters_of (Delay source target lower no_limit)))
      (delay_laws source target lower no_limit sound) steps o (inr (unlimited_further r))

  -- §5.1.6: so no tick breaks it
  pub unlimited_delay_waits : {steps : List Step} {t : ℕ} → Valid steps → Accepts steps (tick t)
      → Open (Delay source target lower no_limit) (steps ++ (tick t ∷ []))
  unlimited_delay_waits {steps} {t} v a = unlimited_delay_open (past_of (valid_more (tick t) v a)) (closed_tick t steps ∙ a.not_closed)

-- ---- In a row

-- a source changes no mark, and a target the last time alone
unkept_delay : (parameters : Parameters) (m : Registers) (times : List ℕ) (kind t : ℕ) → Unkept last_saved m
    → Unkept last_saved (decide_delay parameters m times kind t).registers
unfolding decide_delay
unkept_delay parameters m times kind t e =
    unkept_by last_saved (eqb kind parameters.first)
    (waits parameters.upper times (cond (answered_at_once parameters.lower m.last t) (Drop 0) (Push 0 t)) m)
    (waits parameters.upper times (Drop (answered_by parameters.lower t times)) (with_last m (plus t 1))) e
    (ap (λ (x : Registers). with_last x (plus t 1)) e)

crowding_delay : (parameters : Parameters) (registers : Registers) (times : List ℕ) (kind t : ℕ) → 63 ≤ length times → length times ≤ 64
    → overflows_delay parameters registers (length times) kind t ≡ kind_overflows (decide_delay parameters registers times kind t) times
unfolding overflows_delay decide_delay
crowding_delay parameters registers times kind t many few =
    let once : Bool = answered_at_once parameters.lower registers.last t in
    let full : Bool → Bool = λ b. cond (ltb (length times) waiting_limit) false b in
    let target : Change = waits parameters.upper times (Drop (answered_by parameters.lower t times)) (with_last registers (plus t 1)) in
    split (eqb kind parameters.first)
    (λ a. cond a (full (cond once false true)) false
    ≡ kind_overflows (cond a (waits parameters.upper times (cond once (Drop 0) (Push 0 t)) registers) target) times)
    (λ _. split once
    (λ b. full (cond b false true) ≡ kind_overflows (waits parameters.upper times (cond b (Drop 0) (Push 0 t)) registers) times)
    (λ _. neither (ltb (length times) waiting_limit) ∙ sym (dropped times 0 few)) (λ _. sym (pushed times t)))
    (λ _. sym (dropped times (answered_by parameters.lower t times) few))

pub fits_delay : FitsRow machine_delay
unfolding overflows_delay
fits_delay =
    record {
      keeping = keeping_last;
      unkept = unkept_delay;
      crowding = crowding_delay;
      room = λ parameters registers n s t many free. free_second n free (eqb s parameters.first)
          (cond (answered_at_once parameters.lower registers.last t) false true);
      places = places_each;
    }
