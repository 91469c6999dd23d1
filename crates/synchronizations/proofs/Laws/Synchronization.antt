-- Synchronization: the last time of each kind and the oldest event in no full window are enough, since an event either makes the window that ends
-- with it full, and that holds every event in none, or it covers nothing; and one event of each kind at the clock fills the window from the oldest.
use Rattle.constraint.proofs.Counting.{next_above, next_least, next_snoc, next_free}
use Rattle.constraint.proofs.History.{Accepts, Past, clock_event, clock_tick, closed_event, times_append, times_other, times_own, times_tick}
use Rattle.constraint.proofs.History.{with_time}
use Rattle.constraint.proofs.Library.{Bool, List, [], ◌++◌, ◌+◌, ◌-◌, ◌<◌, ◌∙◌, ◌∷◌, ◌≡◌, ◌≤◌, ◌⊎◌, ap, append-nil}
use Rattle.constraint.proofs.Library.{arith, by_cases, dec_lt, eqb, false, false≢true, inl, inr, length, length-append}
use Rattle.constraint.proofs.Library.{ne_eqb, refl, subst, suc, sym, true, zero, ℕ, ℕ_discrete}
use Rattle.constraint.proofs.Lists.{at_left, at_next, at_right}
use Rattle.constraint.proofs.{Continuations.SameTimes, Continuations.continues_late, Continuations.same_times, Streams.streams}
use Rattle.constraint.specs.Steps.{Step, at, clock, closed, event, own, tick, times}
use Rattle.constraint.specs.{Accepted.KindsFit, Accepted.kinds, Continuation.Continues, Continuation.Open, Continuation.stop}
use Rattle.constraint.specs.{Limits.last_time, Limits.no_limit, Meets.Meets, Meets.MeetsSynchronization, Meets.Recorded, Waiting.waiting}
use Rattle.constraint.specs.Constraint.{Constraint, Synchronization}
use Rattle.synchronizations.proofs.Laws.Columns.{Reaches, reaches_before}
use Rattle.synchronizations.proofs.Laws.Counts.{Names, OfKinds, above_each, above_lacks, count_none, four_counts}
use Rattle.synchronizations.proofs.Laws.Counts.{of_kinds, with_other, with_own}
use Rattle.synchronizations.proofs.Laws.Windows.{Lasts, OneMore, Owing, Settled, SettledBefore, all_now, all_past, earlier_after, owing_begins}
use Rattle.synchronizations.proofs.Laws.Windows.{owing_ends, owing_late, owing_same, owing_stays, settled_on, settled_same}
use Rattle.synchronizations.specs.Synchronization.{after_event, all_saved, decide_synchronization, full, latest, machine_synchronization}
use Rattle.row_type.proofs.Exact.{ByOutcome, Exact, GoesOn, OfStream, Sound, Starts, Waits}
use Rattle.row_type.proofs.FitsRow.{FitsRow, Steady, fits_steady, steady_by, steady_drop}
use Rattle.row_type.proofs.{SeveralKinds.by_place, SeveralKinds.kinds_apart, SeveralKinds.kinds_stream}
use Rattle.row_type.specs.{Parts.continues_with, Parts.plus, Parts.with_last, Parameters.parameters_of}
use Rattle.row_type.specs.{Parameters.start_words, Parameters.waits_in}
use Rattle.row_type.specs.{declared.Change.Change, declared.Registers.Registers, declared.Parameters.Parameters}
use Rattle.ring.specs.{declared.Edit.TheVariants.Drop}

-- ---- the marks

module _ {parameters : Parameters} {ks : List ℕ} (names : Names parameters ks) (registers : Registers) where
  full_has : (t : ℕ) → full parameters registers t ≡ true → (j : ℕ) → j < length ks
      → (0 < at (four_counts registers) j) × (t < at (four_counts registers) j + parameters.upper)
  full_has t e j h =
      let since = above_each names registers (t - parameters.upper) e j h in
      (omega arith, omega arith)

  full_lacks : (t : ℕ) → full parameters registers t ≡ false
      → (j : ℕ) × (j < length ks) × (0 < at (four_counts registers) j → at (four_counts registers) j + parameters.upper ≤ t)
  full_lacks t e =
      let (j, h, before) = above_lacks names registers (t - parameters.upper) e in
      (j, h, λ some. omega arith)

-- ---- what is recorded

-- the last time of a list is in it
next_in : (ts : List ℕ) (s : ℕ) → next_free ts ≡ suc s → (i : ℕ) × (i < length ts) × (at ts i ≡ s)
unfolding next_free
next_in [] s e = absurd (omega arith)
next_in (t ∷ ts) s e =
    by_cases (ℕ_discrete (next_free ts) (suc s))
    (λ f. let (i, h, is) = next_in ts s f in (suc i, omega arith, is))
    (λ f. (0, omega arith, omega arith))

module _ (ks : List ℕ) where
  recorded_old : (steps further : List Step) (j s : ℕ) → Recorded ks steps j s → Recorded ks (steps ++ further) j s
  recorded_old steps further j s (i, l, e) =
      let now = times (at ks j) steps in
      let rest = times (at ks j) further in
      rw (times_append (at ks j) steps further) (i, omega (arith, length-append now rest), at_left now rest i l ∙ e)

  -- what is recorded with a continuation is old or not before the clock
  recorded_late : (steps further : List Step) (j s : ℕ) → Continues steps further → Recorded ks (steps ++ further) j s
      → Recorded ks steps j s ⊎ (clock steps ≤ s)
  recorded_late steps further j s follows (i, l, e) =
      let now = times (at ks j) steps in
      let rest = times (at ks j) further in
      let both = times_append (at ks j) steps further in
      let d = i - length now in
      by_cases (dec_lt i (length now))
      (λ old. inl (i, old, sym (at_left now rest i old) ∙ rw both at e))
      (λ new. let is : length now + d ≡ i = omega arith in
      let within : d < length rest = omega (arith, ap length both, length-append now rest) in
      let same : at rest d ≡ s = sym (at_right now rest d) ∙ ap (at (now ++ rest)) is ∙ rw both at e in
      inr (omega (arith, continues_late follows (at ks j) d within)))

  recorded_event : (fit : KindsFit ks) (steps : List Step) (k t : ℕ) → k < length ks → ((j s : ℕ) → j < length ks → Recorded ks steps j s → s ≤ t)
      → OneMore (Recorded ks steps) (Recorded ks (steps ++ (event (at ks k) t ∷ []))) (length ks) k t
  recorded_event fit steps k t own past =
      record {
        old = λ j s h. recorded_old steps (event (at ks k) t ∷ []) j s;
        new = rw (times_own (at ks k) t steps) (
          length (times (at ks k) steps),
          omega (arith, length-append (times (at ks k) steps) (t ∷ [])),
          at_next (times (at ks k) steps) t [] (length (times (at ks k) steps)) refl,
        );
        other = λ j s h (i, l, e). with_time (at ks j) (at ks k) t steps
            (λ ts. (i : ℕ) → i < length ts → at ts i ≡ s → Recorded ks steps j s ⊎ (s ≡ t))
            (λ same i l e. by_cases (dec_lt i (length (times (at ks j) steps)))
            (λ old. inl (i, old, sym (at_left (times (at ks j) steps) (t ∷ []) i old) ∙ e))
            (λ new. inr (sym e ∙ at_next (times (at ks j) steps) t [] i (omega (arith, length-append (times (at ks j) steps) (t ∷ []))))))
            (λ i l e. inl (i, l, e)) i l e;
        past = past;
      }

  abbrev pub next : List Step → ℕ → ℕ
  next steps j = next_free (times (at ks j) steps)

  recorded_lasts : (steps : List Step) → Lasts (Recorded ks steps) (length ks) (next steps)
  recorded_lasts steps =
      record {
        above = λ j s h (i, l, e). omega (arith, next_above (times (at ks j) steps) i l);
        reached = λ j s h e. next_in (times (at ks j) steps) s e;
      }

-- nothing is owed, or the oldest event in no full window is, given by one more than its time
abbrev pub Owed : List ℕ → ℕ → List Step → ℕ → Type 0
Owed ks tolerance steps zero = Settled (Recorded ks steps) (length ks) tolerance
Owed ks tolerance steps (suc u) = Owing (Recorded ks steps) (length ks) tolerance u

-- its due time, and whether there is none
abbrev due_owed : ℕ → ℕ → ℕ
due_owed tolerance zero = no_limit
due_owed tolerance (suc u) = plus u tolerance

abbrev none_owed : ℕ → Bool
none_owed zero = true
none_owed (suc u) = false

-- what the row keeps: the last time of each kind, and what is owed
pub record LiveWindows (ks : List ℕ) (tolerance : ℕ) (steps : List Step) (registers : Registers) (times : List ℕ) : Type 0 where
  pub no_times : times ≡ []
  pub lasts : (j : ℕ) → j < length ks → at (four_counts registers) j ≡ next ks steps j
  pub owes : Owed ks tolerance steps registers.last

-- its due time, and whether it is kept
abbrev due : ℕ → Registers → List ℕ → ℕ
due tolerance registers times = due_owed tolerance registers.last

abbrev kept : Registers → List ℕ → Bool
kept registers times = none_owed registers.last

recorded_past : (ks : List ℕ) (steps : List Step) (t : ℕ) → Past steps → clock steps ≤ t → (j s : ℕ) → j < length ks → Recorded ks steps j s → s ≤ t
recorded_past ks steps t past later j s h (i, l, e) = omega (arith, past.past (at ks j) i l)

-- ---- Events

module _ {parameters : Parameters} {ks : List ℕ} (names : Names parameters ks)
    (steps : List Step) (registers : Registers) (k t : ℕ) (past : Past steps)
    (lasts : (j : ℕ) → j < length ks → at (four_counts registers) j ≡ next ks steps j) (of_row : k < length ks)
    (accepts : Accepts steps (event (at ks k) t)) where
  abbrev after : List Step
  after = steps ++ (event (at ks k) t ∷ [])

  abbrev noted : Registers
  noted = latest parameters registers (at ks k) t

  one_more : OneMore (Recorded ks steps) (Recorded ks after) (length ks) k t
  one_more = recorded_event ks names.fit steps k t of_row (recorded_past ks steps t past accepts.in_order.0)

  later : plus t 1 ≡ suc t
  later = omega (arith, accepts.time_small)

  lasts_after : (j : ℕ) → j < length ks → at (four_counts noted) j ≡ next ks after j
  lasts_after j h =
      by_cases (ℕ_discrete j k)
      (λ e. rw e (with_own names registers k (plus t 1) of_row ∙ later
      ∙ sym (ap next_free (times_own (at ks k) t steps) ∙ next_snoc (times (at ks k) steps) t accepts.in_order.1)))
      (λ e. with_other names registers k (plus t 1) j of_row h e ∙ lasts j h
      ∙ sym (ap next_free (times_other (at ks j) (at ks k) t steps (kinds_apart ks names.fit k j of_row h (λ f. e (sym f))))))

  -- what the row keeps after a change that it goes on with
  abbrev Goes : Change → Type 0
  Goes = GoesOn (LiveWindows ks parameters.upper after) (due parameters.upper) kept [] t

  full_after : full parameters noted t ≡ true → (j : ℕ) → j < length ks → (0 < next ks after j) × (t < next ks after j + parameters.upper)
  full_after e j h = rw (← lasts_after j h) (full_has names noted t e j h)

  lacks_after : full parameters noted t ≡ false → (j : ℕ) × (j < length ks) × (0 < next ks after j → next ks after j + parameters.upper ≤ t)
  lacks_after e = let (j, h, lacks) = full_lacks names noted t e in (j, h, rw (← lasts_after j h) lacks)

  goes_on : (owed : ℕ) → Owed ks parameters.upper after owed → t ≤ due_owed parameters.upper owed
      → Goes (continues_with (Drop 0) (with_last noted owed) (due_owed parameters.upper owed) (none_owed owed))
  goes_on owed owes in_time =
      record { live = record { no_times = refl; lasts = lasts_after; owes = owes }; due_is = refl; kept_is = refl; in_time = in_time }

  event_cases : (B : Type 0) (owed : ℕ) (fills : Bool) → full parameters noted t ≡ fills → Owed ks parameters.upper steps owed
      → t ≤ due_owed parameters.upper owed → ByOutcome B Goes (after_event parameters noted owed t fills)
  event_cases B zero true e settled in_time =
      goes_on 0 (settled_on one_more parameters.upper (next ks after) (recorded_lasts ks after) (full_after e) settled) in_time
  event_cases B zero false e settled in_time =
      let (j, h, lacks) = lacks_after e in
      subst (λ (n : ℕ). Goes (continues_with (Drop 0) (with_last noted n) (plus t parameters.upper) false)) (sym later)
      (goes_on (suc t) (owing_begins one_more parameters.upper (next ks after) (recorded_lasts ks after) j h lacks of_row settled)
      (omega (arith, accepts.time_small)))
  event_cases B (suc u) true e owing in_time =
      goes_on 0 (owing_ends one_more parameters.upper (next ks after) (recorded_lasts ks after) (full_after e) u (omega arith) owing)
      (omega (arith, accepts.time_small))
  event_cases B (suc u) false e owing in_time =
      let (j, h, lacks) = lacks_after e in
      let time : suc u - 1 ≡ u = omega arith in
      rw (ne_eqb (suc u) 0 (λ same. omega arith), time)
      (goes_on (suc u) (owing_stays one_more parameters.upper (next ks after) (recorded_lasts ks after) j h lacks u owing) in_time)

  -- no event breaks the row
  event_does : (B : Type 0) → Owed ks parameters.upper steps registers.last
      → t ≤ due_owed parameters.upper registers.last
      → ByOutcome B Goes (decide_synchronization parameters registers [] (at ks k) t)
  unfolding decide_synchronization
  event_does B = event_cases B registers.last (full parameters noted t) refl

-- ---- Open

-- steps after which each kind from the m-th on has an event now, and u can still be covered by events now
record Filling (ks : List ℕ) (tolerance now u m : ℕ) (steps : List Step) : Type 0 where
  goes_on : closed steps ≡ false
  clocked : clock steps ≤ now
  past : (j s : ℕ) → j < length ks → Recorded ks steps j s → s ≤ now
  has : (j : ℕ) → m ≤ j → j < length ks → Recorded ks steps j now
  earlier : SettledBefore (Recorded ks steps) (length ks) tolerance u

module _ (ks : List ℕ) (fit : KindsFit ks) (tolerance now u : ℕ) (begun : u ≤ now) (in_time : now ≤ u + tolerance) where
  filling_event : (m : ℕ) (steps : List Step) → m < length ks → Filling ks tolerance now u (suc m) steps
      → Filling ks tolerance now u m (steps ++ (event (at ks m) now ∷ []))
  filling_event m steps h filling =
      let more = recorded_event ks fit steps m now h filling.past in
      record {
        goes_on = closed_event (at ks m) now steps ∙ filling.goes_on;
        clocked = rw (clock_event (at ks m) now steps) (omega arith);
        past = all_past more tolerance;
        has = λ j l g. by_cases (ℕ_discrete j m) (λ e. rw e more.new) (λ e. more.old j now g (filling.has j (omega arith) g));
        earlier = earlier_after more tolerance u begun filling.earlier;
      }

  -- each kind below the m-th that has no event now gets one
  fill : (m : ℕ) (steps : List Step) → m ≤ length ks → Filling ks tolerance now u m steps → Reaches (MeetsSynchronization ks tolerance) steps
  unfolding MeetsSynchronization
  fill zero steps h filling = (
    [],
    stop,
    rw (append-nil steps) (all_now (Recorded ks steps) (length ks) tolerance now u (λ j l. filling.has j (omega arith) l) filling.past
        filling.earlier begun in_time),
  )
  fill (suc m) steps h filling =
      let ts = times (at ks m) steps in
      by_cases (dec_lt now (next ks steps m))
      (λ some. let none_later = next_least ts (suc now) (λ i l. omega (arith, filling.past m (at ts i) h (i, l, refl))) in
      let is : next ks steps m ≡ suc now = omega (arith, none_later) in
      fill m steps (omega arith) (record {
        goes_on = filling.goes_on;
        clocked = filling.clocked;
        past = filling.past;
        has = λ j l g. by_cases (ℕ_discrete j m) (λ e. rw e ((recorded_lasts ks steps).reached m now h is)) (λ e. filling.has j (omega arith) g);
        earlier = filling.earlier;
      }))
      (λ none. reaches_before (MeetsSynchronization ks tolerance) steps (at ks m) now filling.goes_on (kinds_stream ks fit m h)
      (filling.clocked, λ i l. omega (arith, next_above ts i l))
      (fill m (steps ++ (event (at ks m) now ∷ [])) (omega arith) (filling_event m steps h filling)))

-- ---- a row of a list of kinds: its rule, its definition and what waits are those of the list

-- a row of a list of kinds
abbrev Synchronized : Constraint → Type 1
Synchronized = OfKinds MeetsSynchronization (λ ks steps. 0) false

module _ (c : Constraint) (s : Synchronized c) where
  abbrev tolerance : ℕ
  tolerance = (parameters_of c).upper

  abbrev Live : List Step → Registers → List ℕ → Type 0
  Live = LiveWindows (kinds c) tolerance

  -- ---- Start

  live_start : Starts (Live []) (due tolerance) kept (start_words c)
  unfolding times next_free
  live_start =
      rw s.no_words
      (record {
        live = record { no_times = refl; lasts = λ j h. count_none s.names j h; owes = λ j t h (i, l, e). absurd (omega arith) };
        due_is = refl;
        kept_is = refl;
      })

  -- ---- Events

  live_does : {steps : List Step} {registers : Registers} {times : List ℕ} {k t : ℕ} → Past steps → Live steps registers times → OfStream c k
      → Accepts steps (event k t) → t ≤ due tolerance registers times
      → ByOutcome (¬ Open c (steps ++ (event k t ∷ []))) (GoesOn (Live (steps ++ (event k t ∷ []))) (due tolerance) kept times t)
      (decide_synchronization (parameters_of c) registers times k t)
  live_does {steps} {registers} {times} {k} {t} past live =
      rw live.no_times
      (by_place c (kinds c) s.streams_are (λ j. Accepts steps (event j t) → t ≤ due tolerance registers []
      → ByOutcome (¬ Open c (steps ++ (event j t ∷ []))) (GoesOn (Live (steps ++ (event j t ∷ []))) (due tolerance) kept [] t)
      (decide_synchronization (parameters_of c) registers [] j t))
      (λ i h accepts in_time. event_does s.names steps registers i t past live.lasts h accepts
      (¬ Open c (steps ++ (event (at (kinds c) i) t ∷ []))) live.owes in_time))

  -- ---- Ticks

  owed_same : (a b : List Step) → SameTimes (kinds c) a b → (owed : ℕ) → Owed (kinds c) tolerance a owed → Owed (kinds c) tolerance b owed
  owed_same a b same zero =
      settled_same (Recorded (kinds c) a) (Recorded (kinds c) b) (length (kinds c)) tolerance
      (λ j t h r. rw (← same j h) r) (λ j t h r. rw (same j h) r)
  owed_same a b same (suc u) =
      owing_same (Recorded (kinds c) a) (Recorded (kinds c) b) (length (kinds c)) tolerance
      (λ j t h r. rw (← same j h) r) (λ j t h r. rw (same j h) r) u

  live_same : (a b : List Step) (registers : Registers) (times : List ℕ) → own (streams c) a ≡ own (streams c) b → Live a registers times
      → Live b registers times
  live_same a b registers times equal live =
      let same : SameTimes (kinds c) a b = rw s.streams_are at (same_times (streams c) a b equal) in
      record {
        no_times = live.no_times;
        lasts = λ j h. rw (← same j h) (live.lasts j h);
        owes = owed_same a b same registers.last live.owes;
      }

  owed_late : (steps : List Step) (owed t : ℕ) → Owed (kinds c) tolerance steps owed → due_owed tolerance owed < t → t ≤ last_time
      → (further : List Step) → Continues (steps ++ (tick t ∷ [])) further
      → ¬ MeetsSynchronization (kinds c) tolerance (steps ++ (tick t ∷ []) ++ further)
  unfolding MeetsSynchronization
  owed_late steps zero t settled passed small further follows meets = absurd (omega arith)
  owed_late steps (suc u) t owing passed small further follows meets =
      let ks = kinds c in
      let ticked = steps ++ (tick t ∷ []) in
      owing_late (Recorded ks steps) (Recorded ks (ticked ++ further)) (length ks) tolerance t u
      (λ j r h there before. old j r before (recorded_late ks ticked further j r follows there)) owing (omega arith)
      (meets owing.kind u owing.of_row (recorded_old ks ticked further owing.kind u
      (recorded_old ks steps (tick t ∷ []) owing.kind u owing.there)))
    where
      old : (j r : ℕ) → r < t → Recorded (kinds c) (steps ++ (tick t ∷ [])) j r ⊎ (clock (steps ++ (tick t ∷ [])) ≤ r) → Recorded (kinds c) steps j r
      old j r before (inl there) = rw (times_tick (at (kinds c) j) t steps) at there
      old j r before (inr late) = absurd (omega (arith, clock_tick t steps))

  live_late : (steps : List Step) (registers : Registers) (times : List ℕ) (t : ℕ) → Live steps registers times → due tolerance registers times < t
      → t ≤ last_time → ¬ Open c (steps ++ (tick t ∷ []))
  live_late steps registers times t live passed small (further, follows, meets) =
      owed_late steps registers.last t live.owes passed small further follows (rw (s.meets (steps ++ (tick t ∷ []) ++ further)) at meets)

  -- ---- Open

  owed_open : (steps : List Step) (owed : ℕ) → Past steps → closed steps ≡ false → Owed (kinds c) tolerance steps owed
      → clock steps ≤ due_owed tolerance owed → Reaches (MeetsSynchronization (kinds c) tolerance) steps
  unfolding MeetsSynchronization
  owed_open steps zero past goes_on settled in_time = ([], stop, rw (append-nil steps) settled)
  owed_open steps (suc u) past goes_on owing in_time =
      let ks = kinds c in
      let recorded = recorded_past ks steps (clock steps) past (omega arith) in
      fill ks s.names.fit tolerance (clock steps) u (recorded owing.kind u owing.of_row owing.there) (omega arith) (length ks) steps
      (omega arith) (record {
        goes_on = goes_on;
        clocked = omega arith;
        past = recorded;
        has = λ j l g. absurd (omega arith);
        earlier = owing.earlier;
      })

  live_open : (steps : List Step) (registers : Registers) (times : List ℕ) → Past steps → closed steps ≡ false → Live steps registers times
      → clock steps ≤ due tolerance registers times → Open c steps
  live_open steps registers times past goes_on live in_time =
      let (further, follows, meets) = owed_open steps registers.last past goes_on live.owes in_time in
      (further, follows, rw (s.meets (steps ++ further)) meets)

  -- ---- Waiting

  live_waits : (steps : List Step) (registers : Registers) (times : List ℕ) → Live steps registers times
      → Waits (waits_in (parameters_of c).tag) (waiting c steps) (length times)
  live_waits steps registers times live = rw s.tag_waits (s.waits steps, omega (arith, ap length live.no_times))

  -- ---- Close

  owed_kept : (steps : List Step) (owed : ℕ) → Owed (kinds c) tolerance steps owed → none_owed owed ≡ true → Meets c steps
  unfolding MeetsSynchronization
  owed_kept steps zero settled e = rw (s.meets steps) settled
  owed_kept steps (suc u) owing e = absurd (false≢true e)

  owed_not_kept : (steps : List Step) (owed : ℕ) → Owed (kinds c) tolerance steps owed → none_owed owed ≡ false → ¬ Meets c steps
  unfolding MeetsSynchronization
  owed_not_kept steps zero settled e = absurd (false≢true (sym e))
  owed_not_kept steps (suc u) owing e =
      λ meets. owing.uncovered ((rw (s.meets steps) at meets) owing.kind u owing.of_row owing.there)

  -- ---- Exact

  exact_synchronized : Exact c (decide_synchronization (parameters_of c))
  exact_synchronized =
      record {
        Live = Live;
        due = due tolerance;
        kept = kept;
        start = live_start;
        does = live_does;
        same = live_same _ _ _ _;
        late = λ past live. live_late _ _ _ _ live;
        is_open = live_open _ _ _;
        waits = λ past live. live_waits _ _ _ live;
        is_kept = λ {steps} {registers} past live in_time. owed_kept steps registers.last live.owes;
        not_kept = λ {steps} {registers} past live. owed_not_kept steps registers.last live.owes;
      }

-- §5.11
pub exact_synchronization : (ks : List ℕ) (x : ℕ) → Sound (Synchronization ks x)
    → Exact (Synchronization ks x) (decide_synchronization (parameters_of (Synchronization ks x)))
unfolding Meets waiting
exact_synchronization ks x sound =
    let c = Synchronization ks x in
    exact_synchronized c (of_kinds c sound ks x refl (sound.known.1.n_known refl) refl (λ steps. refl) refl (λ steps. refl))

-- ---- In a row

-- no times are kept, and all registers are
steady_synchronization : (parameters : Parameters) (m : Registers) (times : List ℕ) (kind t : ℕ)
    → Steady all_saved m times (decide_synchronization parameters m times kind t)
unfolding decide_synchronization
steady_synchronization parameters m times kind t =
    steady_by (full parameters (latest parameters m kind t) t) (steady_drop 0 (λ e. refl))
    (steady_by (eqb m.last 0) (steady_drop 0 (λ e. refl)) (steady_drop 0 (λ e. refl)))

pub fits_synchronization : FitsRow machine_synchronization
fits_synchronization =
    fits_steady (record { over_past = λ registers past. refl; over_own = λ registers. refl }) steady_synchronization
