-- A row of one kind that is open exactly while the recorded events meet it at the present clock: what it says of some events at a clock it
-- says of the first of them at every clock before the others, so the empty continuation is the best, and the close does not break it.
use Rattle.row_type.proofs.Names.{Accepts, Bool, Change, Constraint, Each, List, Registers, Meets, Open, Past, Rising, SameTimes, Step, []}
use Rattle.row_type.proofs.Names.{◌++◌}
use Rattle.row_type.proofs.Names.{◌<◌, ◌↔◌, ◌∷◌, ◌≡◌, ◌≤◌, append-nil, arith, at, changed, clock, clock_event, clock_tick, continues_clock}
use Rattle.row_type.proofs.Names.{continues_late, event, false, last_time, length, no_limit, no_registers, own, refl, rising_snoc, parameters_of}
use Rattle.row_type.proofs.Names.{same_times}
use Rattle.row_type.proofs.Names.{start_words, stop, streams, subst, suc, sym, tick, times, times_append, times_own, times_tick, true}
use Rattle.row_type.proofs.Names.{true≢false, waiting, waiting_limit, waits_in, zero, ℕ}
use Rattle.row_type.proofs.Exact.{ByOutcome, Exact, GoesOn, OfStream, Starts, outcome_map}

-- the close never breaks it
abbrev always : Registers → List ℕ → Bool
always registers times = true

-- what an event at t makes of a row that says M of its events and the clock, keeps K of them and has a due time: the events do not meet it
-- any more, or it keeps K of all
abbrev pub ByTurn : (List ℕ → ℕ → Type 0) → (List ℕ → Registers → List ℕ → Type 0) → (Registers → List ℕ → ℕ) → List ℕ → List ℕ → ℕ → Change → Type 0
ByTurn M K due events times t = ByOutcome (¬ M (events ++ (t ∷ [])) t) (GoesOn (K (events ++ (t ∷ []))) due always times t)

-- what a type proves that says Says of its events and the clock, has these words from the start and decides so of an event at t: nothing in it goes
-- by the constraint
pub record Follows (Says : List ℕ → ℕ → Type 0) (words : List ℕ) (decide : Registers → List ℕ → ℕ → Change) : Type 1 where
  -- what holds between the events and what the row keeps of them, and its due time
  pub Keeps : List ℕ → Registers → List ℕ → Type 0
  pub due : Registers → List ℕ → ℕ
  -- what it says at a later clock, of further events that are not before this one, it says now of the first ones
  pub says_first : (xs ys : List ℕ) (now later : ℕ) → now ≤ later → Each (λ y. now ≤ y) ys → Says (xs ++ ys) later → Says xs now
  pub keeps_none : Keeps [] no_registers words
  pub due_none : no_limit ≡ due no_registers words
  -- its events meet it just until its due time
  pub keeps_says : {events : List ℕ} {registers : Registers} {times : List ℕ} (now : ℕ) → Rising events → now ≤ last_time
      → Keeps events registers times
      → Says events now ↔ (now ≤ due registers times)
  pub keeps_few : {events : List ℕ} {registers : Registers} {times : List ℕ} → Keeps events registers times → length times ≤ waiting_limit
  pub keeps_event : {events : List ℕ} {registers : Registers} {times : List ℕ} (t : ℕ) → Rising (events ++ (t ∷ [])) → t ≤ last_time
      → Keeps events registers times → t ≤ due registers times → ByTurn Says Keeps due events times t (decide registers times t)

-- a constraint of one kind that asks so of its events
pub record OneKind (c : Constraint) (decide : Registers → List ℕ → ℕ → ℕ → Change) : Type 1 where
  pub kind : ℕ
  pub Says : List ℕ → ℕ → Type 0
  pub words : List ℕ
  pub follows : Follows Says words (λ registers times t. decide registers times kind t)
  pub one_kind : streams c ≡ kind ∷ []
  pub start_words_lem : start_words c ≡ words
  pub meets : (steps : List Step) → Meets c steps ↔ Says (times kind steps) (clock steps)
  pub none_waits : waits_in (parameters_of c).tag ≡ false
  pub waits_none : (steps : List Step) → waiting c steps ≡ 0

only_kind : (x k i : ℕ) → i < length (x ∷ []) → at (x ∷ []) i ≡ k → x ≡ k
only_kind x k zero h e = e
only_kind x k (suc i) h e = absurd (omega arith)

module _ (c : Constraint) (decide : Registers → List ℕ → ℕ → ℕ → Change) (r : OneKind c decide) where
  abbrev Live : List Step → Registers → List ℕ → Type 0
  Live steps = r.follows.Keeps (times r.kind steps)

  -- ---- Start

  start : Starts (Live []) r.follows.due always (start_words c)
  unfolding times
  start = rw r.start_words_lem (record { live = r.follows.keeps_none; due_is = r.follows.due_none; kept_is = refl })

  -- ---- Events

  kind_is : (k : ℕ) → OfStream c k → r.kind ≡ k
  kind_is k (i, h, e) = subst (λ (ks : List ℕ). i < length ks → at ks i ≡ k → r.kind ≡ k) (sym r.one_kind) (only_kind r.kind k i) h e

  -- a continuation that meets the row shows that what is recorded meets it now
  says_now : (steps : List Step) (now : ℕ) → clock steps ≡ now → Open c steps → r.Says (times r.kind steps) now
  says_now steps now e (further, follows, meets) =
      let says : r.Says (times r.kind (steps ++ further)) (clock (steps ++ further)) = (r.meets (steps ++ further)).0 meets in
      r.follows.says_first (times r.kind steps) (times r.kind further) now (clock (steps ++ further)) (omega (arith, continues_clock follows))
      (rw e at (continues_late follows r.kind)) (rw (times_append r.kind steps further) at says)

  -- after the events of the row that are recorded, and one more
  breaks : (steps : List Step) (t : ℕ) → ¬ r.Says (times r.kind steps ++ (t ∷ [])) t → ¬ Open c (steps ++ (event r.kind t ∷ []))
  breaks steps t refuted o =
      refuted (rw (times_own r.kind t steps) at (says_now (steps ++ (event r.kind t ∷ [])) t (clock_event r.kind t steps) o))

  abbrev Does : List Step → Registers → List ℕ → ℕ → ℕ → Type 0
  Does steps registers held k t =
      ByOutcome (¬ Open c (steps ++ (event k t ∷ []))) (GoesOn (Live (steps ++ (event k t ∷ []))) r.follows.due always held t)
      (decide registers held k t)

  own_event : (steps : List Step) (registers : Registers) (held : List ℕ) (t : ℕ) → Past steps → Live steps registers held
      → Accepts steps (event r.kind t) → t ≤ r.follows.due registers held → Does steps registers held r.kind t
  own_event steps registers held t p live a soon =
      let events : List ℕ = times r.kind steps in
      outcome_map (decide registers held r.kind t).breaks (breaks steps t)
      (subst (λ (all : List ℕ). GoesOn (r.follows.Keeps all) r.follows.due always held t (decide registers held r.kind t))
      (sym (times_own r.kind t steps)))
      (r.follows.keeps_event t (rising_snoc events t (p.rising r.kind) a.in_order.1) a.time_small live soon)

  does : {steps : List Step} {registers : Registers} {held : List ℕ} {k t : ℕ} → Past steps → Live steps registers held → OfStream c k
      → Accepts steps (event k t) → t ≤ r.follows.due registers held → Does steps registers held k t
  does {steps} {registers} {held} {k} {t} p live of_kind =
      subst (λ (j : ℕ). Accepts steps (event j t) → t ≤ r.follows.due registers held → Does steps registers held j t) (kind_is k of_kind)
      (own_event steps registers held t p live)

  -- ---- Ticks

  same : (a b : List Step) (registers : Registers) (held : List ℕ) → own (streams c) a ≡ own (streams c) b → Live a registers held
      → Live b registers held
  same a b registers held s live =
      let both : SameTimes (r.kind ∷ []) a b = rw r.one_kind at (same_times (streams c) a b s) in
      subst (λ (events : List ℕ). r.follows.Keeps events registers held) (both 0 (omega arith)) live

  late : (steps : List Step) (registers : Registers) (held : List ℕ) (t : ℕ) → Past steps → Live steps registers held
      → r.follows.due registers held < t → t ≤ last_time
      → ¬ Open c (steps ++ (tick t ∷ []))
  late steps registers held t p live passed small o =
      let says : r.Says (times r.kind steps) t =
      rw (times_tick r.kind t steps) at (says_now (steps ++ (tick t ∷ [])) t (clock_tick t steps) o) in
      omega (arith, (r.follows.keeps_says t (p.rising r.kind) small live).0 says)

  -- ---- Open

  is_met : (steps : List Step) (registers : Registers) (held : List ℕ) → Past steps → Live steps registers held
      → clock steps ≤ r.follows.due registers held → Meets c steps
  is_met steps registers held p live soon = (r.meets steps).1 ((r.follows.keeps_says (clock steps) (p.rising r.kind) p.small live).1 soon)

  -- ---- Exact

  pub exact_one_kind : Exact c decide
  exact_one_kind =
      record {
        Live = Live;
        due = r.follows.due;
        kept = always;
        start = start;
        does = does;
        same = same _ _ _ _;
        late = late _ _ _ _;
        is_open = λ p o live soon. ([], stop, rw (append-nil _) (is_met _ _ _ p live soon));
        waits = λ p live. rw r.none_waits (r.waits_none _, r.follows.keeps_few live);
        is_kept = λ p live soon e. is_met _ _ _ p live soon;
        not_kept = λ p live e. absurd (true≢false e);
      }

-- ---- Words that stay as they are

-- a type may read from its words what its constraint says, where something holds of the words from the start and of the words after each change
module _ {Says : List ℕ → ℕ → Type 0} {words : List ℕ} {decide other : Registers → List ℕ → ℕ → Change} (f : Follows Says words decide)
    (Holds : List ℕ → Type 0) (holds_first : Holds words)
    (agrees : (registers : Registers) (held : List ℕ) (t : ℕ) → Holds held → decide registers held t ≡ other registers held t)
    (stays : (events : List ℕ) (registers : Registers) (held : List ℕ) (t : ℕ) → f.Keeps events registers held → Holds held
    → Holds (changed (decide registers held t).edit held)) where
  abbrev KeepsBoth : List ℕ → Registers → List ℕ → Type 0
  KeepsBoth events registers held = f.Keeps events registers held × Holds held

  goes_both : {events held : List ℕ} {t : ℕ} (change : Change) → Holds (changed change.edit held)
      → GoesOn (f.Keeps events) f.due always held t change → GoesOn (KeepsBoth events) f.due always held t change
  goes_both change h goes =
      record { live = (goes.live, h); due_is = goes.due_is; kept_is = goes.kept_is; in_time = goes.in_time }

  pub follows_where : Follows Says words other
  follows_where =
      record {
        Keeps = KeepsBoth;
        due = f.due;
        says_first = f.says_first;
        keeps_none = (f.keeps_none, holds_first);
        due_none = f.due_none;
        keeps_says = λ now rises small keeps. f.keeps_says now rises small keeps.0;
        keeps_few = λ keeps. f.keeps_few keeps.0;
        keeps_event = λ {events} {registers} {times = held} t rises small keeps soon.
            subst (ByTurn Says KeepsBoth f.due events held t) (agrees registers held t keeps.1)
            (outcome_map (decide registers held t).breaks (λ none. none)
            (goes_both (decide registers held t) (stays events registers held t keeps.0 keeps.1))
            (f.keeps_event t rises small keeps.0 soon));
      }
