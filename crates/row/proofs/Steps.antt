-- A row of any type keeps what it has to: going on, it is open and holds what waits; broken, it has the first step after which no
-- continuation was left. By cases on what the machine does at a step, from what each type proves.
use Rattle.row.proofs.Names.{Accepts, Bool, BrokenAt, Change, Constraint, List, Meets, StepInput, Open, Past, Reads, Row, RowStep}
use Rattle.row.proofs.Names.{Parameters, State, Step, Valid, Verdict, [], ◌&&◌, ◌++◌, ◌+◌, ◌<◌, ◌∙◌, ◌∷◌, ◌≡◌, ◌≤◌, ◌⊎◌, among, ap, append-nil}
use Rattle.row.proofs.Names.{applied, arith, both, broken_later, broken_now, broken_shut, broken_by_event, broken_row, changed, changed_row, clock}
use Rattle.row.proofs.Names.{clock_close, clock_event, clock_tick, clock_from, close, close_at, closed, closed_close}
use Rattle.row.proofs.Names.{closed_event, closed_tick, cond}
use Rattle.row.proofs.Names.{continues_closed, crowding, decide, edited, eqb, eqb-false, eqb-true, event, event_at, false, inl, inr, items}
use Rattle.row.proofs.Names.{items_edited, items_of, last_time, le-ltb, length, lt-ltb, ltb, ltb-false, ltb-true, mark, meets_same, no_event}
use Rattle.row.proofs.Names.{open_at_tick, open_of_meets, own, own_close, own_other, own_tick, past_of, reads_broken, reads_kept, reads_open}
use Rattle.row.proofs.Names.{refl, ring, ring_length, ring_take, ring_of, row_from, row_of, row_step, row_verdict, parameters_of, split, stays}
use Rattle.row.proofs.Names.{stream_count, streams, subst, sym, tick, tick_at, times_edited, true, valid_more, waiting, waiting_limit, waits_in}
use Rattle.row.proofs.Names.{words_few, ℕ, ⊎_elim}
use Rattle.row.proofs.Names.{constants_of, length-append, length-replicate, length-take-le, replicate, start_ring, start_word_count, start_words}
use Rattle.row.proofs.Exact.{ByOutcome, Exact, GoesOn, Sound, Waits}
use Rattle.row.proofs.OwnKinds.{among_own, concerns_none, concerns_own, concerns_stream}
use Rattle.row.proofs.Names.{cause_by, kind_of, kinds, moment_by}
use Rattle.constraint.proofs.{History.past_tick, Library.append_assoc, Library.by_cases}
use Rattle.constraint.proofs.Library.{dec_lt}
use Rattle.row_type.specs.Words.{broken_for}
use Rattle.row.specs.Cause.{Cause, StepAt, at_close, by_event, overdue}

-- ---- what holds between the steps and a row

module _ (c : Constraint) (exact : Exact c) where
  -- a row that goes on
  pub record Going (steps : List Step) (words : List ℕ) (s : State) : Type 0 where
    pub unbroken : s.broken ≡ 0
    pub live : exact.Live steps s.registers (ring words s.head s.len)
    pub due_is : s.due ≡ exact.due s.registers (ring words s.head s.len)
    pub kept_is : s.kept ≡ mark (exact.kept s.registers (ring words s.head s.len))
    pub in_time : clock steps ≤ s.due
    pub room : s.len ≤ waiting_limit
    pub met : closed steps ≡ true → Meets c steps

  -- a broken row
  pub record Broken (steps : List Step) (now : State) : Type 0 where
    pub counted : 0 < now.broken
    pub first : BrokenAt c steps now.broken
    pub why : Cause c steps now.broken now.head now.kept

  pub record Fits (steps : List Step) (r : Row) : Type 0 where
    pub parameters_is : r.parameters ≡ parameters_of c
    pub whole : length r.times ≡ 64
    pub state : Going steps r.times r.now ⊎ Broken steps r.now

-- what a step makes of a row: crowded, it would be open with more than 64 waiting; else it fits the steps with the step
abbrev pub After : (c : Constraint) → Exact c → List Step → Bool → Row → Type 0
After c exact steps true r = Open c steps × (waiting_limit < waiting c steps)
After c exact steps false r = Fits c exact steps r

-- what holds of each row of the constraint's rule holds of a row that has that rule
with_parameters : (c : Constraint) (P : Row → Type 0) (r : Row) → r.parameters ≡ parameters_of c → P (row_from (parameters_of c) r.times r.now)
    → P r
with_parameters c P r e p = subst (λ (parameters : Parameters). P (row_from parameters r.times r.now)) (sym e) p

-- what a row sees of a step over the steps before it
abbrev pub seen : List Step → Step → StepInput
seen steps (event k t) = event_at k t
seen steps (tick t) = tick_at t
seen steps close = close_at (clock steps)

-- ---- Waiting

-- of at most 64 times at most 64 wait, and of more than 64 each does
waits_few : (b : Bool) {waiting n : ℕ} → n ≤ waiting_limit → Waits b waiting n → waiting ≤ waiting_limit
waits_few true few w = omega arith
waits_few false few w = omega (arith, w.0)

waits_many : (b : Bool) {waiting n : ℕ} → waiting_limit < n → Waits b waiting n → waiting_limit < waiting
waits_many true many w = omega arith
waits_many false many w = absurd (omega (arith, w.1))

-- ---- Start

pub fits_start : (c : Constraint) (exact : Exact c) → Fits c exact [] (row_of c)
unfolding row_of clock_from closed
fits_start c exact =
    record {
      parameters_is = refl;
      whole = whole;
      state = inl (record {
        unbroken = refl;
        live = rw from_start exact.start.live;
        due_is = rw from_start exact.start.due_is;
        kept_is = rw from_start (ap mark exact.start.kept_is);
        in_time = omega arith;
        room = words_few (parameters_of c);
        met = λ e. both (sym e);
      });
    }
  where
    whole : length (start_ring c) ≡ 64
    whole =
        length-take-le 64 (constants_of c ++ replicate 64 0)
        (omega (arith, length-append (constants_of c) (replicate 64 0), length-replicate {A = ℕ} 64 0))

    from_start : ring (start_ring c) 0 (start_word_count (parameters_of c)) ≡ start_words c
    from_start = let few = words_few (parameters_of c) in ring_take (start_ring c) (start_word_count (parameters_of c)) few (omega (
      arith,
      few,
      whole,
    ))

-- a step keeps its number and what is before it
at_later : {steps : List Step} (s : Step) (n : ℕ) (before : List Step) (x : Step) → StepAt steps n before x → StepAt (steps ++ (s ∷ [])) n before x
at_later s n before x at =
    record {
      rest = at.rest ++ (s ∷ []);
      splits = ap (λ (l : List Step). l ++ (s ∷ [])) at.splits ∙ append_assoc before (x ∷ at.rest) (s ∷ []);
      numbered = at.numbered;
    }

module _ (c : Constraint) (exact : Exact c) (steps : List Step) (valid : Valid steps) where
  past : Past steps
  past = past_of valid

  past_with : (s : Step) → Accepts steps s → Past (steps ++ (s ∷ []))
  past_with s a = past_of (valid_more s valid a)

  -- by whether a row goes on or is broken
  by_state : (P : Row → Type 0) (r : Row) → Fits c exact steps r
      → ((words : List ℕ) (s : State) → length words ≡ 64 → ltb 0 s.broken ≡ false → Going c exact steps words s
      → P (row_from (parameters_of c) words s))
      → (ltb 0 r.now.broken ≡ true → Broken c exact steps r.now → P r) → P r
  by_state P r f going broken =
      ⊎_elim
      (λ (g : Going c exact steps r.times r.now).
      with_parameters c P r f.parameters_is (going r.times r.now f.whole (le-ltb 0 r.now.broken (omega (arith, g.unbroken))) g))
      (λ b. broken (lt-ltb 0 r.now.broken b.counted) b) f.state

  -- the clock is not past its due time
  by_due : (words : List ℕ) (s : State) → (g : Going c exact steps words s) → clock steps ≤ exact.due s.registers (ring words s.head s.len)
  by_due words s g = subst (λ (n : ℕ). clock steps ≤ n) g.due_is g.in_time

  -- ---- Open and Waiting

  going_open : (words : List ℕ) (s : State) → closed steps ≡ false → Going c exact steps words s → Open c steps
  going_open words s o g = exact.is_open past o g.live (by_due words s g)

  -- §6.5, §8.12: a row that is open has at most 64 waiting
  pub fits_room : (r : Row) → Fits c exact steps r → Open c steps → waiting c steps ≤ waiting_limit
  fits_room r f o =
      ⊎_elim
      (λ (g : Going c exact steps r.times r.now).
      waits_few (waits_in (parameters_of c).tag) (omega (arith, ring_length r.times r.now.head r.now.len, g.room))
      (exact.waits past g.live))
      (λ b. absurd (broken_shut c r.now.broken valid b.first o)) f.state

  -- ---- Steps that break a row

  -- a tick to a time past the due time
  tick_late : (words : List ℕ) (was : State) (t : ℕ) → Going c exact steps words was → was.due < t → t ≤ last_time → ¬ Open c (steps ++ (tick t ∷ []))
  tick_late words was t g later small = exact.late past g.live (subst (λ (n : ℕ). n < t) g.due_is later) small

  -- the row that the machine makes of one that breaks
  broken_fits_for : (s : Step) (words : List ℕ) (cause moment : ℕ) → length words ≡ 64 → Open c steps → ¬ Open c (steps ++ (s ∷ []))
      → Cause c (steps ++ (s ∷ [])) (length steps + 1) cause moment
      → Fits c exact (steps ++ (s ∷ [])) (row_from (parameters_of c) words (broken_for cause moment (length steps + 1)))
  broken_fits_for s words cause moment whole o shut why =
      record {
        parameters_is = refl;
        whole = whole;
        state = inr (record { counted = omega arith; first = broken_now c steps s valid o shut; why = why });
      }

  broken_fits : (s : Step) (words : List ℕ) (was : State) (t : ℕ) (closes : Bool) → length words ≡ 64 → Open c steps → ¬ Open c (steps ++ (s ∷ []))
      → Cause c (steps ++ (s ∷ [])) (length steps + 1) (cause_by was.due t closes) (moment_by was.due t)
      → Fits c exact (steps ++ (s ∷ [])) (broken_row (row_from (parameters_of c) words was) t closes (length steps + 1))
  unfolding broken_row
  broken_fits s words was t closes whole o shut why =
      broken_fits_for s words (cause_by was.due t closes) (moment_by was.due t) whole o shut why

  -- this step is the last
  here : (s : Step) → StepAt (steps ++ (s ∷ [])) (length steps + 1) steps s
  here s = record { rest = []; splits = refl; numbered = refl }

  -- a row that goes on is open after a tick exactly until its due time
  open_tick : (words : List ℕ) (was : State) → Going c exact steps words was → closed steps ≡ false → (t : ℕ) → clock steps < t → t ≤ last_time
      → t ≤ was.due → Open c (steps ++ (tick t ∷ []))
  open_tick words was g o t later small soon =
      exact.is_open (past_tick t steps past small later) (closed_tick t steps ∙ o) (exact.same (sym (own_tick (streams c) t steps)) g.live)
      (rw (clock_tick t steps) (subst (λ (n : ℕ). t ≤ n) g.due_is soon))

  -- the row is overdue at a step that moves the clock past its due time
  late_why : (s : Step) (words : List ℕ) (was : State) (t : ℕ) (closes : Bool) → Going c exact steps words was → closed steps ≡ false → t ≤ last_time
      → clock (steps ++ (s ∷ [])) ≡ t → was.due < t
      → Cause c (steps ++ (s ∷ [])) (length steps + 1) (cause_by was.due t closes) (moment_by was.due t)
  late_why s words was t closes g o small is later =
      rw (lt-ltb was.due t later)
      (overdue steps s was.due (here s) g.in_time (subst (λ (n : ℕ). was.due < n) (sym is) later) (λ time after small_too. (
        λ is_open.
            by_cases (dec_lt was.due time) (λ passed. absurd (tick_late words was time g passed small_too is_open)) (λ soon. omega (arith, soon)),
        open_tick words was g o time after small_too,
      )))

  -- a later step does not change why
  why_later : (s : Step) (n cause moment : ℕ) → Cause c steps n cause moment → Cause c (steps ++ (s ∷ [])) n cause moment
  why_later s n cause moment (overdue before x d at lower upper each) = overdue before x d (at_later s n before x at) lower upper each
  why_later s n cause moment (by_event before k t at own is) = by_event before k t (at_later s n before (event k t) at) own is
  why_later s n cause moment (at_close before at) = at_close before (at_later s n before close at)

  -- one that is broken stays so
  broken_stays : (s : Step) (r : Row) → r.parameters ≡ parameters_of c → length r.times ≡ 64 → Broken c exact steps r.now
      → Fits c exact (steps ++ (s ∷ [])) r
  broken_stays s r parameters whole b =
      record {
        parameters_is = parameters;
        whole = whole;
        state = inr (record {
          counted = b.counted;
          first = broken_later c steps s r.now.broken b.first;
          why = why_later s r.now.broken r.now.head r.now.kept b.why;
        });
      }

  -- a step that records nothing of the row's streams, at a clock that is not past the due time
  going_on : (s : Step) (words : List ℕ) (was : State) → length words ≡ 64 → Going c exact steps words was
      → own (streams c) (steps ++ (s ∷ [])) ≡ own (streams c) steps → clock (steps ++ (s ∷ [])) ≤ was.due
      → (closed (steps ++ (s ∷ [])) ≡ true → Meets c (steps ++ (s ∷ [])))
      → Fits c exact (steps ++ (s ∷ [])) (row_from (parameters_of c) words was)
  going_on s words was whole g same in_time met =
      record {
        parameters_is = refl;
        whole = whole;
        state = inl (record {
          unbroken = g.unbroken;
          live = exact.same (sym same) g.live;
          due_is = g.due_is;
          kept_is = g.kept_is;
          in_time = in_time;
          room = g.room;
          met = met;
        });
      }

  -- ---- Events

  module _ (k t : ℕ) (accepts : Accepts steps (event k t)) where
    abbrev Holds : RowStep → Type 0
    Holds s = After c exact (steps ++ (event k t ∷ [])) s.crowded s.row

    module _ (words : List ℕ) (was : State) (whole : length words ≡ 64) (g : Going c exact steps words was) where
      abbrev row_was : Row
      row_was = row_from (parameters_of c) words was

      -- at a time past the due time no continuation was left already
      event_late : was.due < t → Fits c exact (steps ++ (event k t ∷ [])) (broken_row row_was t false (length steps + 1))
      event_late later =
          broken_fits (event k t) words was t false whole (going_open words was accepts.not_closed g)
          (λ o. tick_late words was t g later accepts.time_small
          (open_at_tick c steps k t accepts.not_closed accepts.stream_small accepts.in_order o))
          (late_why (event k t) words was t false g accepts.not_closed accepts.time_small (clock_event k t steps) later)

      -- an event of the row's own that comes in time breaks it by itself
      event_why : among (kind_of k) (kinds c) ≡ true → t ≤ was.due
          → Cause c (steps ++ (event k t ∷ [])) (length steps + 1) 2 t
      event_why own soon =
          by_event steps k t (here (event k t)) own (λ later. open_tick words was g accepts.not_closed t later accepts.time_small soon)

      -- an event of no stream of the row's
      event_other : t ≤ was.due → among k (streams c) ≡ false → Fits c exact (steps ++ (event k t ∷ [])) row_was
      event_other in_time other =
          going_on (event k t) words was whole g (own_other (streams c) k t steps other) (rw (clock_event k t steps) in_time)
          (λ shut. both (sym shut ∙ closed_event k t steps ∙ accepts.not_closed))

      -- a change that the row goes on with
      abbrev Goes : Change → Type 0
      Goes = GoesOn (exact.Live (steps ++ (event k t ∷ []))) exact.due exact.kept (items_of row_was) t

      module _ (change : Change) (goes : Goes change) where
        abbrev kept_times : List ℕ
        kept_times = changed change.edit (items_of row_was)

        open_after : Open c (steps ++ (event k t ∷ []))
        open_after =
            exact.is_open (past_with (event k t) accepts) (closed_event k t steps ∙ accepts.not_closed) goes.live
            (rw (clock_event k t steps) (subst (λ (n : ℕ). t ≤ n) goes.due_is goes.in_time))

        -- §6.5, §8.12
        crowded_after : waiting_limit < length kept_times → Open c (steps ++ (event k t ∷ []))
            × (waiting_limit < waiting c (steps ++ (event k t ∷ [])))
        crowded_after many = (
          open_after,
          waits_many (waits_in (parameters_of c).tag) many (exact.waits (past_with (event k t) accepts) goes.live),
        )

        applied_fits : length kept_times ≤ waiting_limit → Fits c exact (steps ++ (event k t ∷ [])) (applied row_was change)
        unfolding applied
        applied_fits few =
            let old = ring_of words was.head was.len in
            let new = edited change.edit old in
            let holds : items new ≡ kept_times = items_edited old whole g.room change.edit few in
            record {
              parameters_is = refl;
              whole = times_edited old change.edit ∙ whole;
              state = inl (record {
                unbroken = refl;
                live = rw holds goes.live;
                due_is = rw holds goes.due_is;
                kept_is = rw holds (ap mark goes.kept_is);
                in_time = rw (clock_event k t steps) goes.in_time;
                room = omega (arith, ap length holds, ring_length new.times new.head new.len, few);
                met = λ shut. both (sym shut ∙ closed_event k t steps ∙ accepts.not_closed);
              });
            }

        goes_after : Holds (cond (ltb waiting_limit (length kept_times)) (crowding row_was) (stays (applied row_was change)))
        goes_after =
            split (ltb waiting_limit (length kept_times)) (λ x. Holds (cond x (crowding row_was) (stays (applied row_was change))))
            (λ e. crowded_after (ltb-true waiting_limit (length kept_times) e))
            (λ e. applied_fits (ltb-false waiting_limit (length kept_times) e))

      -- any change
      changed_after : (change : Change) → among (kind_of k) (kinds c) ≡ true → t ≤ was.due
          → ByOutcome (¬ Open c (steps ++ (event k t ∷ []))) Goes change → Holds (changed_row row_was change t (length steps + 1))
      unfolding changed_row
      changed_after change own soon by =
          rw (le-ltb waiting_limit was.len g.room)
          (split change.breaks
          (λ x. cond x (¬ Open c (steps ++ (event k t ∷ []))) (Goes change)
          → Holds (cond x (stays (broken_by_event row_was t (length steps + 1)))
          (cond (ltb waiting_limit (length (changed change.edit (items_of row_was)))) (crowding row_was) (stays (applied row_was change)))))
          (λ e shut. broken_fits_for (event k t) words 2 t whole (going_open words was accepts.not_closed g) shut (event_why own soon))
          (λ e goes. goes_after change goes) by)

      -- the event is of one of the row's kinds
      own_kind : Sound c → among k (streams c) ≡ true → among (kind_of k) (kinds c) ≡ true
      own_kind sound f =
          sym (concerns_stream c sound.known k accepts.stream_small) ∙ concerns_own c sound k accepts.stream_small ∙ f

      event_going : Sound c → ltb 0 was.broken ≡ false → Holds (row_step row_was (event_at k t) (length steps + 1))
      unfolding row_step
      event_going sound unbroken =
          rw (concerns_own c sound k accepts.stream_small)
          (subst (λ (b : Bool). Holds (cond b (stays row_was) open_row)) (sym unbroken)
          (split (ltb was.due t) (λ x. Holds (cond x (stays (broken_row row_was t false number)) in_time_row))
          (λ e. event_late (ltb-true was.due t e))
          (λ e. split (among k (streams c)) (λ y. Holds (cond y (changed_row row_was change t number) (stays row_was)))
          (λ f. let soon : t ≤ exact.due was.registers (items_of row_was) = subst (λ (n : ℕ). t ≤ n) g.due_is (ltb-false was.due t e) in
          changed_after change (own_kind sound f) (ltb-false was.due t e) (exact.does past g.live (among_own c k f) accepts soon))
          (λ f. event_other (ltb-false was.due t e) f))))
        where
          number : ℕ
          number = length steps + 1

          change : Change
          change = decide (parameters_of c) was.registers (items_of row_was) k t

          in_time_row : RowStep
          in_time_row = cond (among k (streams c)) (changed_row row_was change t number) (stays row_was)

          open_row : RowStep
          open_row = cond (ltb was.due t) (stays (broken_row row_was t false number)) in_time_row

  -- ---- Ticks and the close

  -- a step without an event leaves a row as it is, or breaks it
  module _ (sound : Sound c) where
    -- what is left of the machine's tests where no event is of one of the row's streams
    abbrev other_row : Row → ℕ → Bool → ℕ → RowStep
    other_row r t closes number =
        cond (ltb r.now.due t) (stays (broken_row r t closes number))
        (cond (closes && eqb r.now.kept 0) (stays (broken_row r t closes number)) (stays r))

    no_event_lem : (words : List ℕ) (was : State) (t : ℕ) (closes : Bool) (number : ℕ) → ltb 0 was.broken ≡ false
        → row_step (row_from (parameters_of c) words was) (record { kind = no_event; stream = stream_count; time = t; closes = closes }) number
        ≡ other_row (row_from (parameters_of c) words was) t closes number
    unfolding row_step
    no_event_lem words was t closes number unbroken = rw (unbroken, concerns_none c sound)

    tick_going : (t : ℕ) (accepts : Accepts steps (tick t)) (words : List ℕ) (was : State) → length words ≡ 64 → Going c exact steps words was
        → After c exact (steps ++ (tick t ∷ [])) (other_row (row_from (parameters_of c) words was) t false (length steps + 1)).crowded
        (other_row (row_from (parameters_of c) words was) t false (length steps + 1)).row
    tick_going t accepts words was whole g =
        split (ltb was.due t) (λ x. Holds (cond x (stays (broken_row row_was t false (length steps + 1))) (stays row_was)))
        (λ e. broken_fits (tick t) words was t false whole (going_open words was accepts.not_closed g)
        (tick_late words was t g (ltb-true was.due t e) accepts.time_small)
        (late_why (tick t) words was t false g accepts.not_closed accepts.time_small (clock_tick t steps) (ltb-true was.due t e)))
        (λ e. going_on (tick t) words was whole g (own_tick (streams c) t steps) (rw (clock_tick t steps) (ltb-false was.due t e))
        (λ shut. both (sym shut ∙ closed_tick t steps ∙ accepts.not_closed)))
      where
        row_was : Row
        row_was = row_from (parameters_of c) words was

        Holds : RowStep → Type 0
        Holds s = After c exact (steps ++ (tick t ∷ [])) s.crowded s.row

    close_shut : ¬ Meets c steps → ¬ Open c (steps ++ (close ∷ []))
    close_shut missed (further, follows, meets) =
        missed (meets_same c (steps ++ (close ∷ [])) steps (own_close (streams c) steps) (rw (clock_close steps) (omega arith))
        (subst (Meets c) (append-nil (steps ++ (close ∷ [])))
        (subst (λ (f : List Step). Meets c (steps ++ (close ∷ []) ++ f)) (continues_closed (closed_close steps) follows) meets)))

    close_going : closed steps ≡ false → (words : List ℕ) (was : State) → length words ≡ 64 → Going c exact steps words was
        → After c exact (steps ++ (close ∷ [])) (other_row (row_from (parameters_of c) words was) (clock steps) true (length steps + 1)).crowded
        (other_row (row_from (parameters_of c) words was) (clock steps) true (length steps + 1)).row
    close_going not_closed words was whole g =
        subst (λ (b : Bool). Holds (cond b (stays (broken_row row_was (clock steps) true (length steps + 1))) closing_row))
        (sym (le-ltb was.due (clock steps) g.in_time))
        (split (eqb was.kept 0) (λ x. Holds (cond x (stays (broken_row row_was (clock steps) true (length steps + 1))) (stays row_was)))
        (λ e. broken_fits close words was (clock steps) true whole (going_open words was not_closed g)
        (close_shut (exact.not_kept past g.live (unmarked (eqb-true was.kept 0 e))))
        (rw (le-ltb was.due (clock steps) g.in_time) (at_close steps (here close))))
        (λ e. going_on close words was whole g (own_close (streams c) steps) (rw (clock_close steps) g.in_time)
        (λ shut. meets_same c steps (steps ++ (close ∷ [])) (sym (own_close (streams c) steps)) (rw (clock_close steps) (omega arith))
        (exact.is_kept past g.live (by_due words was g) (marked (eqb-false was.kept 0 e))))))
      where
        row_was : Row
        row_was = row_from (parameters_of c) words was

        Holds : RowStep → Type 0
        Holds s = After c exact (steps ++ (close ∷ [])) s.crowded s.row

        closing_row : RowStep
        closing_row = cond (eqb was.kept 0) (stays (broken_row row_was (clock steps) true (length steps + 1))) (stays row_was)

        kept_now : Bool
        kept_now = exact.kept was.registers (ring words was.head was.len)

        mark_0 : (b : Bool) → mark b ≡ 0 → b ≡ false
        mark_0 true e = absurd (omega arith)
        mark_0 false e = refl

        mark_1 : (b : Bool) → ¬ (mark b ≡ 0) → b ≡ true
        mark_1 true e = refl
        mark_1 false e = absurd (e refl)

        unmarked : was.kept ≡ 0 → kept_now ≡ false
        unmarked e = mark_0 kept_now (sym g.kept_is ∙ e)

        marked : ¬ (was.kept ≡ 0) → kept_now ≡ true
        marked e = mark_1 kept_now (λ z. e (g.kept_is ∙ z))

    -- ---- any step

    pub fits_step : (s : Step) → Accepts steps s → (r : Row) → Fits c exact steps r
        → After c exact (steps ++ (s ∷ [])) (row_step r (seen steps s) (length steps + 1)).crowded (row_step r (seen steps s) (length steps + 1)).row
    unfolding row_step
    fits_step s accepts r f =
        by_state (λ r. Holds (row_step r (seen steps s) (length steps + 1))) r f (by_step s accepts)
        (λ e b. rw e (broken_stays s r f.parameters_is f.whole b))
      where
        Holds : RowStep → Type 0
        Holds x = After c exact (steps ++ (s ∷ [])) x.crowded x.row

        by_step : (s : Step) → Accepts steps s → (words : List ℕ) (was : State) → length words ≡ 64 → ltb 0 was.broken ≡ false
            → Going c exact steps words was
            → After c exact (steps ++ (s ∷ [])) (row_step (row_from (parameters_of c) words was) (seen steps s) (length steps + 1)).crowded
            (row_step (row_from (parameters_of c) words was) (seen steps s) (length steps + 1)).row
        by_step (event k t) a words was whole unbroken g = event_going k t a words was whole g sound unbroken
        by_step (tick t) a words was whole unbroken g =
            rw (no_event_lem words was t false (length steps + 1) unbroken) (tick_going t a words was whole g)
        by_step close a words was whole unbroken g =
            rw (no_event_lem words was (clock steps) true (length steps + 1) unbroken) (close_going a.not_closed words was whole g)

    -- the close crowds no row
    pub close_calm : (r : Row) → Fits c exact steps r → (number : ℕ) → (row_step r (close_at (clock steps)) number).crowded ≡ false
    unfolding row_step
    close_calm r f number = with_parameters c (λ r. (row_step r (close_at (clock steps)) number).crowded ≡ false) r f.parameters_is
        (calm r.times r.now)
      where
        one_of : (b : Bool) (x y : RowStep) → x.crowded ≡ false → y.crowded ≡ false → (cond b x y).crowded ≡ false
        one_of true x y p q = p
        one_of false x y p q = q

        calm : (words : List ℕ) (was : State) → (row_step (row_from (parameters_of c) words was) (close_at (clock steps)) number).crowded ≡ false
        calm words was =
            rw (concerns_none c sound)
            (one_of (ltb 0 was.broken) _ _ refl
            (one_of (ltb was.due (clock steps)) _ _ refl
            (one_of (eqb was.kept 0) _ _ refl refl)))

  -- ---- Verdict

  pub fits_reads : (r : Row) → Fits c exact steps r → Reads c steps (row_verdict r (closed steps))
  unfolding row_verdict
  fits_reads r f =
      by_state (λ r. Reads c steps (row_verdict r (closed steps))) r f going_reads (λ e b. rw e (reads_broken r.now.broken b.first))
    where
      going_reads : (words : List ℕ) (was : State) → length words ≡ 64 → ltb 0 was.broken ≡ false → Going c exact steps words was
          → Reads c steps (row_verdict (row_from (parameters_of c) words was) (closed steps))
      going_reads words was whole unbroken g =
          subst (λ (b : Bool). Reads c steps (cond b (Verdict.Broken was.broken) (cond (closed steps) Verdict.Kept Verdict.Open))) (sym unbroken)
          (split (closed steps) (λ x. Reads c steps (cond x Verdict.Kept Verdict.Open))
          (λ e. reads_kept e (open_of_meets c steps (g.met e)))
          (λ e. reads_open e (going_open words was e g)))
