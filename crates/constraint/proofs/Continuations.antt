-- What is true of continuations for every row type: a row's definition looks only at its own events and the clock, what is met at a clock is met at
-- every earlier one, and what may still follow after a step might have followed before it, so a row that is open after a step was open before it.
use Rattle.constraint.proofs.Names.{Constraint, Continues, EventInOrder, List, Meets, Open, Step, [], ◌++◌, ◌<◌, ◌∙◌, ◌∷◌, ◌≡◌, ◌≤◌, ap}
use Rattle.constraint.proofs.Names.{append_assoc, append-nil, arith, clock, clock_from, close, closed, cond, eq-eqb, eqb, event, false, map}
use Rattle.constraint.proofs.Names.{more, ne_eqb, own, refl, stop, stream_count, subst, sym, tick, times, true, ℕ}
use Rattle.constraint.proofs.History.{Accepts, clock_append, clock_close, clock_event, clock_later, clock_tick, closed_close, closed_event}
use Rattle.constraint.proofs.History.{closed_tick, own_append, own_close, own_tick, times_append, times_own, times_tick}
use Rattle.constraint.proofs.Lists.{Each, Rising, each_cons, each_none, rising_across, rising_right, split}
use Rattle.constraint.proofs.{Streams.streams, Types.lawful}
unfoldable pub use Rattle.constraint.proofs.Lawful.{times_in}
pub use Rattle.constraint.proofs.Lawful.{own_times, SameTimes, same_times, not_later_earlier}

-- §2.2: what a row says of some events and a clock it says of the same events and every earlier clock
pub meets_same : (c : Constraint) (a b : List Step) → own (streams c) a ≡ own (streams c) b → clock b ≤ clock a → Meets c a → Meets c b
meets_same c a b same earlier m = (lawful c).same a b same (same_times (streams c) a b same) earlier m

-- ---- what a continuation is made of

-- its times are not before the clock
pub continues_late : {steps further : List Step} → Continues steps further → (k : ℕ) → Each (λ t. clock steps ≤ t) (times k further)
unfolding times
continues_late (stop {steps = steps}) k = each_none (λ t. clock steps ≤ t)
continues_late (more {steps = steps} {further = further} j t o kind order rest) k =
    let later : Each (λ s. clock steps ≤ s) (times k further) = λ i h. omega (arith, clock_event j t steps, continues_late rest k i h, order.0) in
    split (eqb j k) (λ x. Each (λ s. clock steps ≤ s) (cond x (t ∷ times k further) (times k further)))
    (λ e. each_cons (λ s. clock steps ≤ s) t (times k further) order.0 later)
    (λ e. later)

-- nor is the clock that it closes at
pub continues_clock : {steps further : List Step} → Continues steps further → clock steps ≤ clock (steps ++ further)
continues_clock (stop {steps = steps}) = rw (append-nil steps) (omega arith)
continues_clock (more {steps = steps} {further = further} j t o kind order rest) =
    let on : clock (steps ++ (event j t ∷ [])) ≤ clock (steps ++ (event j t ∷ further)) =
    subst (λ (all : List Step). clock (steps ++ (event j t ∷ [])) ≤ clock all) (append_assoc steps (event j t ∷ []) further) (continues_clock rest) in
    omega (arith, clock_event j t steps, order.0)

-- §2.3: "After the close only the empty one is left."
pub continues_closed : {steps further : List Step} → closed steps ≡ true → Continues steps further → further ≡ []
continues_closed c stop = refl
continues_closed c (more j t o kind order rest) = absurd (let z : ◌≡◌ {A = ℕ} 0 1 = cc in omega arith)

-- it also follows on steps with the same times and no later clock
pub continues_earlier : {a further : List Step} → Continues a further → (b : List Step) → closed b ≡ closed a → ((k : ℕ) → times k a ≡ times k b)
    → clock b ≤ clock a → Continues b further
continues_earlier stop b o same earlier = stop
continues_earlier (more {steps = a} {further = further} j t open-a kind order rest) b o same earlier =
    more j t (o ∙ open-a) kind (omega (arith, order.0), rw (← same j) order.1)
    (continues_earlier rest (b ++ (event j t ∷ [])) (closed_event j t b ∙ o ∙ sym (closed_event j t a)) same_after
    (rw (clock_event j t b, clock_event j t a) (omega arith)))
  where
    same_after : (k : ℕ) → times k (a ++ (event j t ∷ [])) ≡ times k (b ++ (event j t ∷ []))
    same_after k = times_append k a (event j t ∷ []) ∙ rw (same k) (sym (times_append k b (event j t ∷ [])))

-- ---- a continuation of events of one kind

abbrev pub events : ℕ → List ℕ → List Step
events k ts = map (event k) ts

pub continues_events : (k : ℕ) → k < stream_count → (ts : List ℕ) (steps : List Step) → closed steps ≡ false → Rising (times k steps ++ ts)
    → Each (λ t. clock steps ≤ t) ts
    → Continues steps (events k ts)
continues_events k kind [] steps o r late = stop
continues_events k kind (t ∷ ts) steps o r late =
    more k t o kind (late 0 (omega arith), λ i h. rising_across (times k steps) (t ∷ ts) r i h 0 (omega arith))
    (continues_events k kind ts (steps ++ (event k t ∷ [])) (closed_event k t steps ∙ o)
    (rw (times_own k t steps, append_assoc (times k steps) (t ∷ []) ts) r)
    (rw (clock_event k t steps) (λ i h. omega (arith, (rising_right (times k steps) (t ∷ ts) r).0 i h))))

pub times_events : (k : ℕ) (ts : List ℕ) → times k (events k ts) ≡ ts
unfolding times
times_events k [] = refl
times_events k (t ∷ ts) = rw (eq-eqb k k refl, times_events k ts)

pub times_no_events : (j k : ℕ) → ¬ (k ≡ j) → (ts : List ℕ) → times j (events k ts) ≡ []
unfolding times
times_no_events j k h [] = refl
times_no_events j k h (t ∷ ts) = rw (ne_eqb k j h) (times_no_events j k h ts)

-- ---- broken is for ever

module _ (c : Constraint) (steps : List Step) where
  -- an event that came might have been the first of a continuation
  open_before_event : (k t : ℕ) → closed steps ≡ false → k < stream_count → EventInOrder steps k t → Open c (steps ++ (event k t ∷ [])) → Open c steps
  open_before_event k t o kind order (further, follows, meets) =
      (event k t ∷ further, more k t o kind order follows, subst (Meets c) (append_assoc steps (event k t ∷ []) further) meets)

  -- nothing is recorded by a tick or a close, and neither moves the clock back
  meets_before : (s : Step) → own (streams c) (steps ++ (s ∷ [])) ≡ own (streams c) steps → clock steps ≤ clock (steps ++ (s ∷ []))
      → (further : List Step)
      → Meets c (steps ++ (s ∷ []) ++ further) → Meets c (steps ++ further)
  meets_before s same later further m =
      meets_same c (steps ++ (s ∷ []) ++ further) (steps ++ further)
      (own_append (streams c) (steps ++ (s ∷ [])) further ∙ rw same (sym (own_append (streams c) steps further)))
      (rw (clock_append 0 (steps ++ (s ∷ [])) further, clock_append 0 steps further)
      (clock_later (clock steps) (clock (steps ++ (s ∷ []))) further later)) m

  open_before_tick : (t : ℕ) → clock steps ≤ t → Open c (steps ++ (tick t ∷ [])) → Open c steps
  open_before_tick t later (further, follows, meets) = (
    further,
    continues_earlier follows steps (sym (closed_tick t steps)) (λ k. times_tick k t steps) (rw (clock_tick t steps) later),
    meets_before (tick t) (own_tick (streams c) t steps) (rw (clock_tick t steps) later) further meets,
  )

  open_before_close : Open c (steps ++ (close ∷ [])) → Open c steps
  open_before_close (further, follows, meets) = (
    [],
    stop,
    meets_before close (own_close (streams c) steps) (rw (clock_close steps) (omega arith)) []
        (subst (λ (f : List Step). Meets c (steps ++ (close ∷ []) ++ f)) (continues_closed (closed_close steps) follows) meets),
  )

  -- a row that is open after a step was open before it
  pub open_before : (s : Step) → Accepts steps s → Open c (steps ++ (s ∷ [])) → Open c steps
  open_before (event k t) a o = open_before_event k t a.not_closed a.stream_small a.in_order o
  open_before (tick t) a o = open_before_tick t (omega (arith, a.later)) o
  open_before close a o = open_before_close o

  -- a row that is open after an event would be open after a tick to its time
  pub open_at_tick : (k t : ℕ) → closed steps ≡ false → k < stream_count → EventInOrder steps k t → Open c (steps ++ (event k t ∷ []))
      → Open c (steps ++ (tick t ∷ []))
  unfolding clock_from
  open_at_tick k t o kind order (further, follows, meets) = (
    event k t ∷ further,
    more k t (closed_tick t steps ∙ o) kind (rw (clock_tick t steps) (omega arith), rw (times_tick k t steps) order.1)
        (continues_earlier follows (steps ++ (tick t ∷ []) ++ (event k t ∷ [])) closed_same same
        (rw (clock_event k t steps, clock_event k t (steps ++ (tick t ∷ []))) (omega arith))),
    meets_same c (steps ++ (event k t ∷ []) ++ further) (steps ++ (tick t ∷ []) ++ (event k t ∷ further)) own_same clock_same meets,
  )
    where
      same : (j : ℕ) → times j (steps ++ (event k t ∷ [])) ≡ times j (steps ++ (tick t ∷ []) ++ (event k t ∷ []))
      same j = times_append j steps (event k t ∷ []) ∙ rw (← times_tick j t steps) (sym (times_append j (steps ++ (tick t ∷ [])) (event k t ∷ [])))

      closed_same : closed (steps ++ (tick t ∷ []) ++ (event k t ∷ [])) ≡ closed (steps ++ (event k t ∷ []))
      closed_same = closed_event k t (steps ++ (tick t ∷ [])) ∙ closed_tick t steps ∙ sym (closed_event k t steps)

      events_same : own (streams c) (steps ++ (event k t ∷ [])) ≡ own (streams c) (steps ++ (tick t ∷ []) ++ (event k t ∷ []))
      events_same =
          own_append (streams c) steps (event k t ∷ [])
          ∙ rw (← own_tick (streams c) t steps) (sym (own_append (streams c) (steps ++ (tick t ∷ [])) (event k t ∷ [])))

      own_same : own (streams c) (steps ++ (event k t ∷ []) ++ further) ≡ own (streams c) (steps ++ (tick t ∷ []) ++ (event k t ∷ further))
      own_same =
          own_append (streams c) (steps ++ (event k t ∷ [])) further
          ∙ rw events_same (sym (own_append (streams c) (steps ++ (tick t ∷ []) ++ (event k t ∷ [])) further))
          ∙ ap (own (streams c)) (append_assoc (steps ++ (tick t ∷ [])) (event k t ∷ []) further)

      clock_same : clock (steps ++ (tick t ∷ []) ++ (event k t ∷ further)) ≤ clock (steps ++ (event k t ∷ []) ++ further)
      clock_same =
          rw (
            clock_append 0 (steps ++ (tick t ∷ [])) (event k t ∷ further),
            clock_append 0 (steps ++ (event k t ∷ [])) further,
            clock_event k t steps,
          ) (omega arith)
