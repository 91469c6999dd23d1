-- Why a row reads the same after two lists of steps that stand beside each other: step by step both make the same record of
-- it, and what it reads is read off its record. The other rows of a table have no part in this but to have taken the steps.
use Rattle.monitor.proofs.Names.{Accepts, After, Beside, Call, Constraint, EachBeside, Exact, Fits, Judged, Left, List, OtherAt, Reads, Room}
use Rattle.monitor.proofs.Names.{Row, RowStep, Run, Sound, Step, Taken, TakesAll, Valid, Verdict, [], ◌++◌, ◌+◌, ◌∙◌, ◌∷◌, ◌≡◌, accepts_taken}
use Rattle.monitor.proofs.Names.{all_taken, ap, append_assoc, append-nil, ap₂, arith, asks, clock, clock_close, clock_event, clock_tick, close}
use Rattle.monitor.proofs.Names.{close_calm, close_at, closed, closed_close, closed_event, closed_tick, closes, done, every_type_exact, event}
use Rattle.monitor.proofs.Names.{event_as_tick, false, fits_reads, fits_start, fits_step, get_elem?, judged_last, left_by, length, length-append}
use Rattle.monitor.proofs.Names.{map, no_more, none_left, others, place, questions, refl, request, row_of, row_step, row_verdict, parameters_of}
use Rattle.monitor.proofs.Names.{same_event, seen, some, split, step_for, subst, subst₂, suc, sym, take, tick, tick_at, valid_more, valid_none}
use Rattle.monitor.proofs.Names.{zero, ℕ}

-- ---- calls that are all taken

-- their steps are those of the calls
run_steps : (rows : List Constraint) (calls : List Call) (left end : Left) → Run rows left (map asks calls) (all_taken calls) end
    → end.steps ≡ left.steps ++ map step_for calls
run_steps rows [] left end done = sym (append-nil left.steps)
run_steps rows (s ∷ calls) left end (request _ _ judged run) =
    run_steps rows calls (left_by left (asks s) Taken) end run ∙ append_assoc left.steps (step_for s ∷ []) (map step_for calls)

takes_steps : (rows : List Constraint) (calls : List Call) (steps : List Step) → TakesAll rows calls steps → steps ≡ map step_for calls
takes_steps rows calls steps taken = run_steps rows calls none_left (record { steps = steps; may = taken.0 }) taken.1

-- so are the first n of them
run_first : (rows : List Constraint) (n : ℕ) (calls : List Call) (left end : Left) → Run rows left (map asks calls) (all_taken calls) end
    → (mid : Left) × Run rows left (map asks (take n calls)) (all_taken (take n calls)) mid × (mid.steps ≡ left.steps ++ take n (map step_for calls))
run_first rows zero calls left end run = (left, done, sym (append-nil left.steps))
run_first rows (suc n) [] left end run = (left, done, sym (append-nil left.steps))
run_first rows (suc n) (s ∷ calls) left end (request _ _ judged run) =
    let rest = run_first rows n calls (left_by left (asks s) Taken) end run in
    (rest.0, request (asks s) Taken judged rest.1, rest.2 ∙ append_assoc left.steps (step_for s ∷ []) (take n (map step_for calls)))

pub takes_first : (rows : List Constraint) (n : ℕ) (calls : List Call) (steps : List Step) → TakesAll rows calls steps
    → TakesAll rows (take n calls) (take n steps)
takes_first rows n calls steps taken =
    let first = run_first rows n calls none_left (record { steps = steps; may = taken.0 }) taken.1 in (
      first.0.may,
      subst (λ (all : List Step). Run rows none_left (map asks (take n calls)) (all_taken (take n calls)) (record { steps = all; may = first.0.may }))
          (first.2 ∙ ap (take n) (sym (takes_steps rows calls steps taken))) first.1,
    )

pub beside_first : (c : Constraint) (n : ℕ) {first second : List Step} → EachBeside c first second → EachBeside c (take n first) (take n second)
beside_first c zero beside = no_more
beside_first c (suc n) no_more = no_more
beside_first c (suc n) (place beside later) = place beside (beside_first c n later)

-- ---- one step

module _ (c : Constraint) (sound : Sound c) where
  abbrev exact : Exact c
  exact = every_type_exact c sound

  -- what a step makes of the row, which is the next after those before it
  abbrev moved : List Step → Step → Row → RowStep
  moved past s r = row_step r (seen past s) (length past + 1)

  -- a call that is taken does not crowd the row: question 12 says so, and the close crowds none
  module _
      (rows : List Constraint) (i : ℕ) (there : get_elem? rows i ≡ some c)
      (past : List Step) (valid : Valid past) (r : Row) (fit : Fits c exact past r) where
    after_step : (s : Step) → Accepts past s → After c exact (past ++ (s ∷ [])) (moved past s r).crowded (moved past s r).row
    after_step s accepts = fits_step c exact past valid sound s accepts r fit

    has_room : (s : Step) → Accepts past s → Room rows (past ++ (s ∷ [])) → (moved past s r).crowded ≡ false
    unfolding Room
    has_room s accepts room =
        split (moved past s r).crowded (λ b. After c exact (past ++ (s ∷ [])) b (moved past s r).row → b ≡ false)
        (λ e full. absurd (omega (arith, full.1, room i c there full.0))) (λ e fits. refl) (after_step s accepts)

    calm : (s : Call) → Judged (questions rows past s) Taken → (moved past (step_for s) r).crowded ≡ false
    unfolding questions
    calm (Call.Event k t) judged =
        let s = Call.Event k t in has_room (event k t) (accepts_taken rows past s judged) (judged_last (questions rows past s) judged)
    calm (Call.ColouredEvent k colour t) judged =
        let s = Call.ColouredEvent k colour t in
        has_room (step_for s) (accepts_taken rows past s judged) (judged_last (questions rows past s) judged)
    calm (Call.Tick t) judged =
        let s = Call.Tick t in has_room (tick t) (accepts_taken rows past s judged) (judged_last (questions rows past s) judged)
    calm Call.Close judged = close_calm c exact past valid sound r fit (length past + 1)

    pub taken_fits : (s : Call) → Judged (questions rows past s) Taken → Fits c exact (past ++ (step_for s ∷ [])) (moved past (step_for s) r).row
    taken_fits s judged =
        subst (λ b. After c exact (past ++ (step_for s ∷ [])) b (moved past (step_for s) r).row) (calm s judged)
        (after_step (step_for s) (accepts_taken rows past s judged))

  -- a step that is none of the row's does to it what a tick does
  other_as_tick : (past : List Step) (r : Row) → r.parameters ≡ parameters_of c → (s : Step) → Accepts past s → (t number : ℕ) → OtherAt c t s
      → row_step r (seen past s) number ≡ row_step r (tick_at t) number
  other_as_tick past r parameters (event k time) accepts t number (other, same) =
      event_as_tick c sound r parameters k time number accepts.stream_small other ∙ ap (λ u. row_step r (tick_at u) number) same
  other_as_tick past r parameters (tick time) accepts t number same = ap (λ u. row_step r (tick_at u) number) same
  other_as_tick past r parameters close accepts t number never = absurd never

  -- it leaves the clock at its time, and the recording open if it was
  clock_other : (past : List Step) (s : Step) (t : ℕ) → OtherAt c t s → clock (past ++ (s ∷ [])) ≡ t
  clock_other past (event k time) t (other, same) = clock_event k time past ∙ same
  clock_other past (tick time) t same = clock_tick time past ∙ same
  clock_other past close t never = absurd never

  closed_other : (past : List Step) (s : Step) (t : ℕ) → OtherAt c t s → closed (past ++ (s ∷ [])) ≡ closed past
  closed_other past (event k time) t other = closed_event k time past
  closed_other past (tick time) t other = closed_tick time past
  closed_other past close t never = absurd never

  -- ---- two lists

  -- a record of the row that fits two lists of steps
  record FitsBoth (past past' : List Step) (r : Row) : Type 0 where
    valid : Valid past
    valid' : Valid past'
    fits : Fits c exact past r
    fits' : Fits c exact past' r
    clock_same : clock past ≡ clock past'
    closed_same : closed past ≡ closed past'
    count_same : length past ≡ length past'

  module _ (past past' : List Step) (r : Row) (both : FitsBoth past past' r) where
    moved_same : (a b : Step) → Accepts past a → Accepts past' b → Beside c a b → moved past a r ≡ moved past' b r
    moved_same a b accepts accepts' (same_event k t own) = ap (λ n. row_step r (seen past a) (n + 1)) both.count_same
    moved_same a b accepts accepts' (others t p q) =
        other_as_tick past r both.fits.parameters_is a accepts t (length past + 1) p
        ∙ ap (λ n. row_step r (tick_at t) (n + 1)) both.count_same
        ∙ sym (other_as_tick past' r both.fits.parameters_is b accepts' t (length past' + 1) q)
    moved_same a b accepts accepts' closes = ap₂ (λ (now n : ℕ). row_step r (close_at now) (n + 1)) both.clock_same both.count_same

    clock_after : (a b : Step) → Beside c a b → clock (past ++ (a ∷ [])) ≡ clock (past' ++ (b ∷ []))
    clock_after a b (same_event k t own) = clock_event k t past ∙ sym (clock_event k t past')
    clock_after a b (others t p q) = clock_other past a t p ∙ sym (clock_other past' b t q)
    clock_after a b closes = clock_close past ∙ both.clock_same ∙ sym (clock_close past')

    closed_after : (a b : Step) → Beside c a b → closed (past ++ (a ∷ [])) ≡ closed (past' ++ (b ∷ []))
    closed_after a b (same_event k t own) = closed_event k t past ∙ both.closed_same ∙ sym (closed_event k t past')
    closed_after a b (others t p q) = closed_other past a t p ∙ both.closed_same ∙ sym (closed_other past' b t q)
    closed_after a b closes = closed_close past ∙ sym (closed_close past')

  -- over two tables that share the row
  module _ (rows rows' : List Constraint) (i j : ℕ) (there : get_elem? rows i ≡ some c) (there' : get_elem? rows' j ≡ some c) where
    fits_next : (past past' : List Step) (r : Row) → FitsBoth past past' r → (s s' : Call)
        → Judged (questions rows past s) Taken → Judged (questions rows' past' s') Taken → Beside c (step_for s) (step_for s')
        → FitsBoth (past ++ (step_for s ∷ [])) (past' ++ (step_for s' ∷ [])) (moved past (step_for s) r).row
    fits_next past past' r both s s' judged judged' beside =
        let accepts = accepts_taken rows past s judged in
        let accepts' = accepts_taken rows' past' s' judged' in
        let same = moved_same past past' r both (step_for s) (step_for s') accepts accepts' beside in
        record {
          valid = valid_more (step_for s) both.valid accepts;
          valid' = valid_more (step_for s') both.valid' accepts';
          fits = taken_fits rows i there past both.valid r both.fits s judged;
          fits' = subst (λ (x : RowStep). Fits c exact (past' ++ (step_for s' ∷ [])) x.row) (sym same)
              (taken_fits rows' j there' past' both.valid' r both.fits' s' judged');
          clock_same = clock_after past past' r both (step_for s) (step_for s') beside;
          closed_same = closed_after past past' r both (step_for s) (step_for s') beside;
          count_same = omega (arith, length-append past (step_for s ∷ []), length-append past' (step_for s' ∷ []), both.count_same);
        }

    fits_runs : (left left' : Left) (r : Row) → FitsBoth left.steps left'.steps r → (calls calls' : List Call) (end end' : Left)
        → Run rows left (map asks calls) (all_taken calls) end → Run rows' left' (map asks calls') (all_taken calls') end'
        → EachBeside c (map step_for calls) (map step_for calls') → (last : Row) × FitsBoth end.steps end'.steps last
    fits_runs left left' r both [] [] end end' done done no_more = (r, both)
    fits_runs left left' r both [] (s' ∷ calls') end end' _ _ apart = elim apart [ ]
    fits_runs left left' r both (s ∷ calls) [] end end' _ _ apart = elim apart [ ]
    fits_runs left left' r both (s ∷ calls) (s' ∷ calls') end end' (request _ _ judged run) (request _ _ judged' run') (place beside later) =
        fits_runs (left_by left (asks s) Taken) (left_by left' (asks s') Taken) (moved left.steps (step_for s) r).row
        (fits_next left.steps left'.steps r both s s' judged judged' beside) calls calls' end end' run run' later

    -- what the row reads after both
    pub read_both : (calls calls' : List Call) (steps steps' : List Step) → TakesAll rows calls steps → TakesAll rows' calls' steps'
        → EachBeside c steps steps' → (v : Verdict) × Reads c steps v × Reads c steps' v
    read_both calls calls' steps steps' taken taken' beside =
        let last = fits_runs none_left none_left (row_of c) start calls calls' (record { steps = steps; may = taken.0 })
        (record { steps = steps'; may = taken'.0 }) taken.1 taken'.1 of_calls in
        let both = last.1 in (
          row_verdict last.0 (closed steps),
          fits_reads c exact steps both.valid last.0 both.fits,
          subst (λ shut. Reads c steps' (row_verdict last.0 shut)) (sym both.closed_same)
              (fits_reads c exact steps' both.valid' last.0 both.fits'),
        )
      where
        start : FitsBoth [] [] (row_of c)
        start =
            record {
              valid = valid_none;
              valid' = valid_none;
              fits = fits_start c exact;
              fits' = fits_start c exact;
              clock_same = refl;
              closed_same = refl;
              count_same = refl;
            }

        of_calls : EachBeside c (map step_for calls) (map step_for calls')
        of_calls = subst₂ (EachBeside c) (takes_steps rows calls steps taken) (takes_steps rows' calls' steps' taken') beside
