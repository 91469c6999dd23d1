-- Rows of a source kind and a target kind: what is proved over their lists of times holds of the steps that recorded them.
use Rattle.row_type.proofs.Names.{Accepts, Bool, Change, Constraint, Each, KindsFit, List, Registers, Meets, Open, Past, Rising, SameTimes}
use Rattle.row_type.proofs.Names.{Step}
use Rattle.row_type.proofs.Names.{[], ◌++◌, ◌<◌, ◌∷◌, ◌≡◌, ◌≤◌, ◌⊎◌, append-nil, arith, at, clock, clock_event, clock_tick, closed}
use Rattle.row_type.proofs.Names.{continues_events, continues_late, event, events, false, inl, inr, kinds, last_time, length, own, parameters_of}
use Rattle.row_type.proofs.Names.{same_times, start_words, streams, subst, subst₂, suc, sym, tick, times, times_append, times_events}
use Rattle.row_type.proofs.Names.{times_no_events, times_other, times_own, times_tick, transport, true, waiting, waits_in, zero, ℕ}
use Rattle.row_type.proofs.Exact.{ByOutcome, Exact, GoesOn, OfStream, Starts, Waits, outcome_map}
use Rattle.row_type.proofs.SeveralKinds.{by_place, kinds_apart, kinds_stream}

-- what is known of the times recorded up to a clock
pub record UpTo (now : ℕ) (sources targets : List ℕ) : Type 0 where
  pub sources_rise : Rising sources
  pub targets_rise : Rising targets
  pub sources_past : Each (λ s. s ≤ now) sources
  pub targets_past : Each (λ t. t ≤ now) targets
  pub small : now ≤ last_time

-- further times of one kind that make the row's definition true
abbrev pub Further : ℕ → List ℕ → (List ℕ → Type 0) → Type 0
Further now times Meet = (further : List ℕ) × Rising (times ++ further) × Each (λ t. now ≤ t) further × Meet (times ++ further)

-- no further times from t on do
abbrev pub Lost : ℕ → (List ℕ → List ℕ → Type 0) → List ℕ → List ℕ → Type 0
Lost t Meet sources targets = (fs gs : List ℕ) → Each (λ s. t ≤ s) fs → Each (λ y. t ≤ y) gs → ¬ Meet (sources ++ fs) (targets ++ gs)

-- what a row of two kinds proves over its lists of times; the parts are those of `Exact`
pub record TwoKinds (decide : Registers → List ℕ → ℕ → ℕ → Change) (source target : ℕ) (Meet : List ℕ → List ℕ → Type 0)
    (Waits-in : Bool) (wait : List ℕ → List ℕ → ℕ) : Type 1 where
  pub Live : List ℕ → List ℕ → Registers → List ℕ → Type 0
  pub due : Registers → List ℕ → ℕ
  pub kept : Registers → List ℕ → Bool
  pub start : Starts (Live [] []) due kept []
  pub source_does : {sources targets : List ℕ} {registers : Registers} {times : List ℕ} {t : ℕ} → UpTo t sources targets
      → Live sources targets registers times → t ≤ due registers times
      → ByOutcome (Lost t Meet (sources ++ t ∷ []) targets) (GoesOn (Live (sources ++ t ∷ []) targets) due kept times t)
      (decide registers times source t)
  pub target_does : {sources targets : List ℕ} {registers : Registers} {times : List ℕ} {t : ℕ} → UpTo t sources targets → Each (λ y. y < t) targets
      → Live sources targets registers times → t ≤ due registers times
      → ByOutcome (Lost t Meet sources (targets ++ t ∷ [])) (GoesOn (Live sources (targets ++ t ∷ [])) due kept times t)
      (decide registers times target t)
  pub late : {sources targets : List ℕ} {registers : Registers} {times : List ℕ} {t : ℕ} → Live sources targets registers times
      → due registers times < t
      → t ≤ last_time → Lost t Meet sources targets
  pub is_open : {now : ℕ} {sources targets : List ℕ} {registers : Registers} {times : List ℕ} → UpTo now sources targets
      → Live sources targets registers times → now ≤ due registers times
      → Further now sources (λ all. Meet all targets) ⊎ Further now targets (λ all. Meet sources all)
  pub waits : {sources targets : List ℕ} {registers : Registers} {times : List ℕ} → Live sources targets registers times
      → Waits Waits-in (wait sources targets) (length times)
  pub is_kept : {sources targets : List ℕ} {registers : Registers} {times : List ℕ} → Live sources targets registers times
      → kept registers times ≡ true → Meet sources targets
  pub not_kept : {sources targets : List ℕ} {registers : Registers} {times : List ℕ} → Live sources targets registers times
      → kept registers times ≡ false → ¬ Meet sources targets

-- a constraint whose definition and what waits are said of two lists of times
pub record OfTwoKinds (c : Constraint) (source target : ℕ) (Meet : List ℕ → List ℕ → Type 0) (Waits-in : Bool)
    (wait : List ℕ → List ℕ → ℕ) : Type 1 where
  pub kinds_are : kinds c ≡ source ∷ target ∷ []
  pub streams_are : streams c ≡ source ∷ target ∷ []
  pub kinds_fit : KindsFit (kinds c)
  pub no_words : start_words c ≡ []
  pub meets_are : (steps : List Step) → Meets c steps ≡ Meet (times source steps) (times target steps)
  pub waits_are : waits_in (parameters_of c).tag ≡ Waits-in
  pub waiting_is : (steps : List Step) → waiting c steps ≡ wait (times source steps) (times target steps)

-- the two kinds differ
pub target_apart : {source target : ℕ} → KindsFit (source ∷ target ∷ []) → ¬ (target ≡ source)
target_apart {source} {target} fit = kinds_apart (source ∷ target ∷ []) fit 1 0 (omega arith) (omega arith) (λ e. omega arith)

module _ {c : Constraint} {source target : ℕ} {Meet : List ℕ → List ℕ → Type 0} {Waits-in : Bool} {wait : List ℕ → List ℕ → ℕ}
    (of : OfTwoKinds c source target Meet Waits-in wait) (decide : Registers → List ℕ → ℕ → ℕ → Change)
    (laws : TwoKinds decide source target Meet Waits-in wait) where
  -- ---- the two kinds

  pair_fit : KindsFit (source ∷ target ∷ [])
  pair_fit = subst KindsFit of.kinds_are of.kinds_fit

  apart : ¬ (source ≡ target)
  apart e = target_apart pair_fit (sym e)

  -- what holds of both kinds holds of a kind of the row
  of_kind : (P : ℕ → Type 0) → P source → P target → {k : ℕ} → OfStream c k → P k
  of_kind P s t = by_place c (source ∷ target ∷ []) of.streams_are P both
    where
      both : (i : ℕ) → i < 2 → P (at (source ∷ target ∷ []) i)
      both zero h = s
      both (suc zero) h = t
      both (suc (suc i)) h = absurd (omega arith)

  -- ---- the lists of times

  abbrev Live : List Step → Registers → List ℕ → Type 0
  Live steps = laws.Live (times source steps) (times target steps)

  up_to : (now : ℕ) (steps : List Step) → Past steps → clock steps ≤ now → now ≤ last_time → UpTo now (times source steps) (times target steps)
  up_to now steps p later small =
      record {
        sources_rise = p.rising source;
        targets_rise = p.rising target;
        sources_past = λ i h. omega (arith, p.past source i h);
        targets_past = λ i h. omega (arith, p.past target i h);
        small = small;
      }

  meets_of : (steps further : List Step)
      → Meet (times source steps ++ times source further) (times target steps ++ times target further) → Meets c (steps ++ further)
  meets_of steps further m =
      transport (sym (of.meets_are (steps ++ further))) (rw (times_append source steps further, times_append target steps further) m)

  -- no continuation is left where no further times are
  shut : (t : ℕ) (steps : List Step) → clock steps ≡ t → Lost t Meet (times source steps) (times target steps) → ¬ Open c steps
  shut t steps now lost (further, follows, meets) =
      lost (times source further) (times target further) (rw now at (continues_late follows source)) (rw now at (continues_late follows target))
      (subst₂ Meet (times_append source steps further) (times_append target steps further) (transport (of.meets_are (steps ++ further)) meets))

  -- ---- Start

  pair_start : Starts (Live []) laws.due laws.kept (start_words c)
  unfolding times
  pair_start = rw of.no_words laws.start

  -- ---- Events

  abbrev Does : List Step → Registers → List ℕ → ℕ → ℕ → Type 0
  Does steps registers held k t =
      ByOutcome (¬ Open c (steps ++ (event k t ∷ []))) (GoesOn (Live (steps ++ (event k t ∷ []))) laws.due laws.kept held t)
      (decide registers held k t)

  -- what the event makes of the two lists it makes of the steps
  does_of : (steps : List Step) (registers : Registers) (held : List ℕ) (k t : ℕ) (sources targets : List ℕ)
      → times source (steps ++ (event k t ∷ [])) ≡ sources → times target (steps ++ (event k t ∷ [])) ≡ targets
      → ByOutcome (Lost t Meet sources targets) (GoesOn (laws.Live sources targets) laws.due laws.kept held t) (decide registers held k t)
      → Does steps registers held k t
  does_of steps registers held k t sources targets are-sources are-targets =
      outcome_map (decide registers held k t).breaks
      (λ lost. shut t (steps ++ (event k t ∷ [])) (clock_event k t steps) (rw (are-sources, are-targets) lost))
      (subst₂ (λ (x y : List ℕ). GoesOn (laws.Live x y) laws.due laws.kept held t (decide registers held k t)) (sym are-sources)
      (sym are-targets))

  pair_does : {steps : List Step} {registers : Registers} {held : List ℕ} {k t : ℕ} → Past steps → Live steps registers held → OfStream c k
      → Accepts steps (event k t) → t ≤ laws.due registers held → Does steps registers held k t
  pair_does {steps} {registers} {held} {k} {t} p live =
      of_kind (λ j. Accepts steps (event j t) → t ≤ laws.due registers held → Does steps registers held j t)
      (λ a soon. does_of steps registers held source t (times source steps ++ t ∷ []) (times target steps)
      (times_own source t steps) (times_other target source t steps apart)
      (laws.source_does (up_to t steps p a.in_order.0 a.time_small) live soon))
      (λ a soon. does_of steps registers held target t (times source steps) (times target steps ++ t ∷ [])
      (times_other source target t steps (λ f. apart (sym f))) (times_own target t steps)
      (laws.target_does (up_to t steps p a.in_order.0 a.time_small) a.in_order.1 live soon))

  -- ---- Ticks

  pair_same : (a b : List Step) (registers : Registers) (held : List ℕ) → own (streams c) a ≡ own (streams c) b → Live a registers held
      → Live b registers held
  pair_same a b registers held same live =
      let both : SameTimes (source ∷ target ∷ []) a b = rw of.streams_are at (same_times (streams c) a b same) in
      subst₂ (λ (x y : List ℕ). laws.Live x y registers held) (both 0 (omega arith)) (both 1 (omega arith)) live

  pair_late : (steps : List Step) (registers : Registers) (held : List ℕ) (t : ℕ) → Live steps registers held → laws.due registers held < t
      → t ≤ last_time → ¬ Open c (steps ++ (tick t ∷ []))
  pair_late steps registers held t live passed small =
      shut t (steps ++ (tick t ∷ [])) (clock_tick t steps) (rw (times_tick source t steps, times_tick target t steps) (laws.late live passed small))

  -- ---- Open

  pub pair_open : (steps : List Step) → closed steps ≡ false
      → Further (clock steps) (times source steps) (λ all. Meet all (times target steps))
      ⊎ Further (clock steps) (times target steps) (λ all. Meet (times source steps) all)
      → Open c steps
  pair_open steps o (inl (further, rising, late, meets)) = (
    events source further,
    continues_events source (kinds_stream (source ∷ target ∷ []) pair_fit 0 (omega arith)) further steps o rising late,
    meets_of steps (events source further)
        (rw (times_events source further, times_no_events target source apart further, append-nil (times target steps)) meets),
  )
  pair_open steps o (inr (further, rising, late, meets)) = (
    events target further,
    continues_events target (kinds_stream (source ∷ target ∷ []) pair_fit 1 (omega arith)) further steps o rising late,
    meets_of steps (events target further)
        (rw (times_events target further, times_no_events source target (λ f. apart (sym f)) further, append-nil (times source steps)) meets),
  )

  -- ---- Exact

  pub exact_two_kinds : Exact c decide
  exact_two_kinds =
      record {
        Live = Live;
        due = laws.due;
        kept = laws.kept;
        start = pair_start;
        does = pair_does;
        same = pair_same _ _ _ _;
        late = λ p. pair_late _ _ _ _;
        is_open = λ p o live soon. pair_open _ o (laws.is_open (up_to _ _ p (omega arith) p.small) live soon);
        waits = λ p live. rw (of.waits_are, of.waiting_is _) (laws.waits live);
        is_kept = λ p live soon k. transport (sym (of.meets_are _)) (laws.is_kept live k);
        not_kept = λ p live k m. laws.not_kept live k (transport (of.meets_are _) m);
      }

  -- what is live of the steps is live of the two lists
  pub pair_live : (steps : List Step) (registers : Registers) (held : List ℕ) → exact_two_kinds.Live steps registers held
      → laws.Live (times source steps) (times target steps) registers held
  unfolding exact_two_kinds
  pair_live steps registers held live = live
