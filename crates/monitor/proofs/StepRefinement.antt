-- The monitor follows the accepted steps: its clock, count, free times and rows are read off them after every call, and each call is answered as its
-- questions say. By cases on the machine's tests, each of which is one question's.
use Rattle.monitor.proofs.Names.{Accepts, Answer, Bool, Call, Constraint, EventInOrder, Exact, Judged, List, Monitor, Question, Refused, Room}
use Rattle.monitor.proofs.Names.{Sound, Step, Stepped, Taken, Valid, [], ◌++◌, ◌+◌, ◌<◌, ◌∙◌, ◌∷◌, ◌≡◌, ◌≤◌, any_first, ap, arith, both}
use Rattle.monitor.proofs.Names.{by_cases, clock, clock_close, clock_event, clock_tick, close, close_at, closed, closed_close, closed_event}
use Rattle.monitor.proofs.Names.{closed_tick, closed_after, cond, counted_of, crowds, dec_lt, event, event_questions, false, first_coloured}
use Rattle.monitor.proofs.Names.{free_after, get_or, get_or-set_other, get_or-set_same, inl, inr, last_colour, last_count, last_kind, last_time, leb}
use Rattle.monitor.proofs.Names.{leb-false, leb-true, length, length-append, length-set, ltb, ltb-false, ltb-true, next_above, next_least}
use Rattle.monitor.proofs.Names.{next_snoc, next_for, next_free, next_step, step_input_of, own_refusal, place_for, plus, questions, refl, refusal_for}
use Rattle.monitor.proofs.Names.{refuses, row_limit, row_step, seen, set, set_out, split, step_for, step_of, stepped_by, stream, stream_below}
use Rattle.monitor.proofs.Names.{stream_place, stream_count, subst, sym, taken_call, takes, tick, time_refusal, times, times_close, times_other}
use Rattle.monitor.proofs.Names.{times_own, times_tick, true, valid_more, ℕ, ℕ_discrete}
use Rattle.monitor.proofs.FittingRows.{FitRows, fit_calm, fit_crowded, fit_room, fit_step}

-- the steps once a call has its answer: one more where it is taken, the same where it is refused
abbrev pub recorded : List Step → Call → Answer → List Step
recorded steps c Taken = steps ++ (step_for c ∷ [])
recorded steps c (Refused n) = steps

module _ (every_type_exact : (c : Constraint) → Sound c → Exact c) where
  pub record Follows (rows : List Constraint) (steps : List Step) (m : Monitor) : Type 0 where
    pub valid : Valid steps
    pub clock_is : m.clock ≡ clock steps
    pub count_is : m.count ≡ length steps
    pub closed_is : ltb 0 m.closed ≡ closed steps
    pub next_whole : length m.next ≡ stream_count
    pub next_is : (k : ℕ) → k < stream_count → get_or m.next k 0 ≡ next_free (times k steps)
    pub len_is : m.len ≡ length rows
    pub few : length rows ≤ row_limit
    pub fit : FitRows every_type_exact steps rows m.rows

  module _ (rows : List Constraint) (steps : List Step) (m : Monitor) (f : Follows rows steps m) where
    -- where there is room, the number of the next step is the count of the steps with it
    pub step_is : length steps < last_count → next_step m ≡ length steps + 1
    step_is counted = omega (arith, f.count_is)

    count_after : (s : Step) → length steps < last_count → next_step m ≡ length (steps ++ (s ∷ []))
    count_after s counted = omega (arith, step_is counted, length-append steps (s ∷ []))

    -- what a call gives: the answer that its questions give, and a monitor that follows the steps with it, if it is taken
    abbrev pub Answered : Call → Stepped → Type 0
    Answered call result = Judged (questions rows steps call) result.answer × Follows rows (recorded steps call result.answer) result.monitor

    -- ---- question 8

    not_closed : ltb 0 m.closed ≡ false → closed steps ≡ false
    not_closed e = sym f.closed_is ∙ e

    is_closed : ltb 0 m.closed ≡ true → ¬ (closed steps ≡ false)
    is_closed e o = both (sym (sym f.closed_is ∙ e) ∙ o)

    -- ---- question 24

    not_full : leb last_count m.count ≡ false → length steps < last_count
    not_full e = omega (arith, leb-false last_count m.count e, f.count_is)

    is_full : leb last_count m.count ≡ true → ¬ (length steps < last_count)
    is_full e h = omega (arith, leb-true last_count m.count e, f.count_is)

    -- ---- question 11

    in_order : (k t : ℕ) → k < stream_count → ltb t m.clock ≡ false → ltb t (get_or m.next k 0) ≡ false → EventInOrder steps k t
    in_order k t kind late taken =
        let free : next_free (times k steps) ≤ t = rw (← f.next_is k kind) (ltb-false t (get_or m.next k 0) taken) in
        (rw (← f.clock_is) (ltb-false t m.clock late), λ i h. omega (arith, next_above (times k steps) i h))

    before_clock : (k t : ℕ) → ltb t m.clock ≡ true → ¬ EventInOrder steps k t
    before_clock k t e order = omega (arith, ltb-true t m.clock e, f.clock_is, order.0)

    not_free : (k t : ℕ) → k < stream_count → ltb t (get_or m.next k 0) ≡ true → ¬ EventInOrder steps k t
    not_free k t kind e order = omega (arith, ltb-true t (get_or m.next k 0) e, f.next_is k kind, next_least (times k steps) t order.1)

    -- ---- what a taken call leaves

    pub seen_is : (call : Call) → step_input_of m call ≡ seen steps (step_for call)
    seen_is (Call.Event k t) = refl
    seen_is (Call.ColouredEvent k colour t) = refl
    seen_is (Call.Tick t) = refl
    seen_is Call.Close = ap close_at f.clock_is

    clock_after : (call : Call) → (step_input_of m call).time ≡ clock (steps ++ (step_for call ∷ []))
    clock_after (Call.Event k t) = sym (clock_event k t steps)
    clock_after (Call.ColouredEvent k colour t) = sym (clock_event (stream k colour) t steps)
    clock_after (Call.Tick t) = sym (clock_tick t steps)
    clock_after Call.Close = f.clock_is ∙ sym (clock_close steps)

    closed_after_lem : (call : Call) → ltb 0 (closed_after call m.closed) ≡ closed (steps ++ (step_for call ∷ []))
    closed_after_lem (Call.Event k t) = f.closed_is ∙ sym (closed_event k t steps)
    closed_after_lem (Call.ColouredEvent k colour t) = f.closed_is ∙ sym (closed_event (stream k colour) t steps)
    closed_after_lem (Call.Tick t) = f.closed_is ∙ sym (closed_tick t steps)
    closed_after_lem Call.Close = sym (closed_close steps)

    -- a place that is stored as it was
    next_same : (at j : ℕ) → get_or (set m.next at (get_or m.next at 0)) j 0 ≡ get_or m.next j 0
    next_same at j =
        by_cases (ℕ_discrete j at)
        (λ e. by_cases (dec_lt at stream_count)
        (λ h. subst (λ i. get_or (set m.next at (get_or m.next at 0)) i 0 ≡ get_or m.next i 0) (sym e)
        (get_or-set_same m.next at (get_or m.next at 0) 0 (omega (arith, f.next_whole))))
        (λ h. ap (λ (l : List ℕ). get_or l j 0) (set_out m.next at (get_or m.next at 0) (omega (arith, f.next_whole)))))
        (λ e. get_or-set_other m.next at j (get_or m.next at 0) 0 e)

    next_event : (k t place : ℕ) → place ≡ k → Accepts steps (event k t) → (j : ℕ) → j < stream_count
        → get_or (set m.next place (plus t 1)) j 0 ≡ next_free (times j (steps ++ (event k t ∷ [])))
    next_event k t place is accepts j kind =
        rw is
        (by_cases (ℕ_discrete j k)
        (λ e. subst (λ i. get_or (set m.next k (plus t 1)) i 0 ≡ next_free (times i (steps ++ (event k t ∷ [])))) (sym e)
        (get_or-set_same m.next k (plus t 1) 0 (omega (arith, f.next_whole, accepts.stream_small)) ∙ omega (arith, accepts.time_small)
        ∙ sym (ap next_free (times_own k t steps) ∙ next_snoc (times k steps) t accepts.in_order.1)))
        (λ e. get_or-set_other m.next k j (plus t 1) 0 e ∙ f.next_is j kind ∙ sym (ap next_free (times_other j k t steps (λ same. e (sym same))))))

    next_after : (call : Call) → Accepts steps (step_for call) → (j : ℕ) → j < stream_count
        → get_or (set m.next (place_for call) (free_after call (next_for m call))) j 0 ≡ next_free (times j (steps ++ (step_for call ∷ [])))
    next_after (Call.Event k t) accepts j kind = next_event k t _ (stream_place (Call.Event k t) accepts.stream_small) accepts j kind
    next_after (Call.ColouredEvent k colour t) accepts j kind =
        next_event (stream k colour) t _ (stream_place (Call.ColouredEvent k colour t) accepts.stream_small) accepts j kind
    next_after (Call.Tick t) accepts j kind = next_same 0 j ∙ f.next_is j kind ∙ sym (ap next_free (times_tick j t steps))
    next_after Call.Close accepts j kind = next_same 0 j ∙ f.next_is j kind ∙ sym (ap next_free (times_close j steps))

    module _ (call : Call) (accepts : Accepts steps (step_for call)) where
      counted : length steps < last_count
      counted = counted_of (step_for call) steps accepts

      -- what the rows see is what the definitions' step is
      crowds_is : crowds m call ≡ any_first (length rows) (λ r. (row_step r (seen steps (step_for call)) (next_step m)).crowded) m.rows
      crowds_is = rw (f.len_is, seen_is call)

      followed : crowds m call ≡ false → Follows rows (steps ++ (step_for call ∷ [])) (taken_call m call)
      unfolding taken_call
      followed free =
          record {
            valid = valid_more (step_for call) f.valid accepts;
            clock_is = clock_after call;
            count_is = count_after (step_for call) counted;
            closed_is = closed_after_lem call;
            next_whole = length-set m.next (place_for call) (free_after call (next_for m call)) ∙ f.next_whole;
            next_is = next_after call accepts;
            len_is = f.len_is;
            few = f.few;
            fit = rw (f.len_is, seen_is call)
                (fit_step every_type_exact steps f.valid (step_for call) (next_step m) (step_is counted) accepts rows m.rows f.fit
                (sym crowds_is ∙ free));
          }

      room_left : crowds m call ≡ false → Room rows (steps ++ (step_for call ∷ []))
      room_left free =
          let after = followed free in
          fit_room every_type_exact (steps ++ (step_for call ∷ [])) after.valid rows (taken_call m call).rows after.fit

      no_room : crowds m call ≡ true → ¬ Room rows (steps ++ (step_for call ∷ []))
      unfolding Room
      no_room crowded room =
          let full = fit_crowded every_type_exact steps f.valid (step_for call) (next_step m) (step_is counted) accepts rows m.rows f.fit
          (sym crowds_is ∙ crowded) in
          omega (arith, room full.0 full.1 full.2 full.3, full.4)

    -- ---- the answers

    abbrev Left : Call → ℕ → Type 0
    Left call number = Answered call (stepped_by m call number)

    -- question 12, the others being answered "yes"
    last_asked : (call : Call) → Accepts steps (step_for call)
        → ((a : Answer) → Judged ((12, Room rows (steps ++ (step_for call ∷ []))) ∷ []) a → Judged (questions rows steps call) a) → Left call 0
    unfolding Judged
    last_asked call accepts others =
        split (crowds m call) (λ x. Answered call (cond x (refuses 12 m) (takes (taken_call m call))))
        (λ e. (others (Refused 12) (inr (no_room call accepts e, refl)), f))
        (λ e. (others Taken (inl (room_left call accepts e, refl)), followed call accepts e))

    -- 10, 11 and 12 of an event, those before them being answered "yes"
    module _ (call : Call) (s t : ℕ) (is : event s t ≡ step_for call) (place : place_for call ≡ s) (small : s < stream_count)
        (open_still : closed steps ≡ false) (counted : length steps < last_count)
        (others : (a : Answer) → Judged (event_questions rows steps s t) a → Judged (questions rows steps call) a) where
      time_answered : Left call (time_refusal t m.clock (next_for m call))
      unfolding Judged
      time_answered =
          let free = next_for m call in
          let there : free ≡ get_or m.next s 0 = ap (λ (i : ℕ). get_or m.next i 0) place in
          split (ltb last_time t) (λ x. Left call (cond x 10 (cond (ltb t m.clock) 11 (cond (ltb t free) 11 0))))
          (λ e. (others _ (inr (λ h. omega (arith, ltb-true last_time t e), refl)), f)) (λ e10.
          let fits = ltb-false last_time t e10 in
          split (ltb t m.clock) (λ x. Left call (cond x 11 (cond (ltb t free) 11 0)))
          (λ e. (others _ (inl (fits, inr (before_clock s t e, refl))), f)) (λ late.
          split (ltb t free) (λ x. Left call (cond x 11 0))
          (λ e. (others _ (inl (fits, inr (not_free s t small (sym (ap (ltb t) there) ∙ e), refl))), f)) (λ taken.
          let order = in_order s t small late (sym (ap (ltb t) there) ∙ taken) in
          let accepts : Accepts steps (event s t) = record {
            not_closed = open_still;
            counted = counted;
            stream_small = small;
            time_small = fits;
            in_order = order;
          } in
          last_asked call (subst (Accepts steps) is accepts) (λ a j. others a (inl (
            fits,
            inl (
              order,
              subst (λ (x : Step). Judged ((12, Room rows (steps ++ (x ∷ []))) ∷ []) a) (sym is) j,
            ),
          ))))))

    -- §8.24: 8 and 24, and then the call's own
    first_asked : (call : Call) (later : List Question)
        → ((a : Answer) → Judged ((8, closed steps ≡ false) ∷ (24, length steps < last_count) ∷ later) a → Judged (questions rows steps call) a)
        → (closed steps ≡ false → length steps < last_count → ((a : Answer) → Judged later a → Judged (questions rows steps call) a)
        → Left call (own_refusal call m.clock (next_for m call)))
        → Left call (refusal_for m call)
    unfolding Judged
    first_asked call later others own =
        let last = own_refusal call m.clock (next_for m call) in
        split (ltb 0 m.closed) (λ x. Left call (cond x 8 (cond (leb last_count m.count) 24 last)))
        (λ e. (others _ (inr (is_closed e, refl)), f)) (λ e8.
        split (leb last_count m.count) (λ x. Left call (cond x 24 last))
        (λ e. (others _ (inl (not_closed e8, inr (is_full e, refl))), f)) (λ e24.
        own (not_closed e8) (not_full e24) (λ a j. others a (inl (not_closed e8, inl (not_full e24, j))))))

    abbrev Asked : Call → Type 0
    Asked call = Left call (refusal_for m call)

    -- §1.3, §8.9, §8.19
    event_answered : (k t : ℕ) → Asked (Call.Event k t)
    unfolding Judged questions
    event_answered k t =
        let c = Call.Event k t in
        let last = time_refusal t m.clock (next_for m c) in
        first_asked c ((9, k ≤ last_kind) ∷ (19, k < first_coloured) ∷ event_questions rows steps k t) (λ a j. j) (λ open_still counted others.
        split (ltb last_kind k) (λ x. Left c (cond x 9 (cond (leb first_coloured k) 19 last)))
        (λ e. (others _ (inr (λ h. omega (arith, ltb-true last_kind k e), refl)), f)) (λ e9.
        let kind = ltb-false last_kind k e9 in
        split (leb first_coloured k) (λ x. Left c (cond x 19 last))
        (λ e. (others _ (inl (kind, inr (λ h. omega (arith, leb-true first_coloured k e), refl))), f)) (λ e19.
        let plain : k < first_coloured = leb-false first_coloured k e19 in
        time_answered c k t refl (stream_place c (omega arith)) (omega arith) open_still counted (λ a j. others a (inl (kind, inl (plain, j)))))))

    -- §1.3, §8.19
    coloured_answered : (k colour t : ℕ) → Asked (Call.ColouredEvent k colour t)
    unfolding Judged questions
    coloured_answered k colour t =
        let c = Call.ColouredEvent k colour t in
        let last = time_refusal t m.clock (next_for m c) in
        first_asked c ((9, k ≤ last_kind) ∷ (19, (first_coloured ≤ k) × (colour ≤ last_colour)) ∷ event_questions rows steps (stream k colour) t)
        (λ a j. j)
        (λ open_still counted others.
        split (ltb last_kind k) (λ x. Left c (cond x 9 (cond (ltb k first_coloured) 19 (cond (ltb last_colour colour) 19 last))))
        (λ e. (others _ (inr (λ h. omega (arith, ltb-true last_kind k e), refl)), f)) (λ e9.
        let kind = ltb-false last_kind k e9 in
        split (ltb k first_coloured) (λ x. Left c (cond x 19 (cond (ltb last_colour colour) 19 last)))
        (λ e. (others _ (inl (kind, inr (λ h. omega (arith, ltb-true k first_coloured e, h.0), refl))), f)) (λ e19.
        let coloured = ltb-false k first_coloured e19 in
        split (ltb last_colour colour) (λ x. Left c (cond x 19 last))
        (λ e. (others _ (inl (kind, inr (λ h. omega (arith, ltb-true last_colour colour e, h.1), refl))), f)) (λ few.
        let small = stream_below k colour kind (ltb-false last_colour colour few) in
        time_answered c (stream k colour) t refl (stream_place c small) small open_still counted
        (λ a j. others a (inl (kind, inl ((coloured, ltb-false last_colour colour few), j))))))))

    -- §1.4
    tick_answered : (t : ℕ) → Asked (Call.Tick t)
    unfolding Judged questions
    tick_answered t =
        let c = Call.Tick t in
        first_asked c ((10, t ≤ last_time) ∷ (11, clock steps < t) ∷ (12, Room rows (steps ++ (tick t ∷ []))) ∷ []) (λ a j. j)
        (λ open_still counted others.
        split (ltb last_time t) (λ x. Left c (cond x 10 (cond (leb t m.clock) 11 0)))
        (λ e. (others _ (inr (λ h. omega (arith, ltb-true last_time t e), refl)), f)) (λ e10.
        let fits = ltb-false last_time t e10 in
        split (leb t m.clock) (λ x. Left c (cond x 11 0))
        (λ e. (others _ (inl (fits, inr (λ h. omega (arith, leb-true t m.clock e, f.clock_is), refl))), f)) (λ e11.
        let later : clock steps < t = omega (arith, leb-false t m.clock e11, f.clock_is) in
        last_asked c (record { not_closed = open_still; counted = counted; time_small = fits; later = later })
        (λ a j. others a (inl (fits, inl (later, j)))))))

    -- §1.5: the close has only questions 8 and 24: it crowds no row
    close_answered : Asked Call.Close
    unfolding Judged questions
    close_answered =
        first_asked Call.Close [] (λ a j. j) (λ open_still counted others.
        let accepts : Accepts steps close = record { not_closed = open_still; counted = counted } in
        let calm = crowds_is Call.Close accepts ∙ fit_calm every_type_exact steps f.valid (next_step m) rows m.rows f.fit in
        subst (λ (b : Bool). Answered Call.Close (cond b (refuses 12 m) (takes (taken_call m Call.Close)))) (sym calm)
        (others Taken refl, followed Call.Close accepts calm))

    -- §8.8, §8.10, §8.11, §9.5
    pub step_answered : (call : Call) → Answered call (step_of m call)
    unfolding step_of
    step_answered (Call.Event k t) = event_answered k t
    step_answered (Call.ColouredEvent k colour t) = coloured_answered k colour t
    step_answered (Call.Tick t) = tick_answered t
    step_answered Call.Close = close_answered
