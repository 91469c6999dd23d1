-- A run over one row, from a start on, goes on while the row is open. Where it breaks the row, every longer stretch from there breaks it,
-- as nothing more is refused; where it meets 12 or the end, none does.
use Rattle.constraint.proofs.History.{Accepts, Valid, closed_event, closed_tick}
use Rattle.constraint.proofs.Library.{List, [], ◌++◌, ◌+◌, ◌-◌, ◌<◌, ◌∙◌, ◌∷◌, ◌≡◌, ◌≤◌, ap, arith, by_cases, cond, dec_lt, drop, eqb, false, get_or}
use Rattle.constraint.proofs.Library.{get_or-drop, get_or-take, le-leb, length, length-drop, length-take, length-take-le, lt-leb, refl, subst, suc}
use Rattle.constraint.proofs.Library.{sym}
use Rattle.constraint.proofs.Library.{take, take-take, true, zero, ℕ, ⊎_elim}
use Rattle.constraint.proofs.{Judged.never, LastQuestion.judged_last, Lists.split, Runs.accepts_taken, Verdicts.broken_shut, Verdicts.open_prefix}
use Rattle.constraint.specs.Continuation.{Open, Reads, reads_broken, reads_kept, reads_open}
use Rattle.constraint.specs.Steps.{Step, close, closed, event, tick}
use Rattle.constraint.specs.{Limits.stream_count, Limits.waiting_limit, Questions.Judged, Records.Decides, Run.Room, Run.questions, Run.step_for}
use Rattle.constraint.specs.{Stretches.Breaks, Stretches.TakesEach, Stretches.takes_none, Waiting.waiting, Answer.Taken}
use Rattle.constraint.specs.{declared.Call.Call, Constraint.Constraint, declared.Verdict.Verdict}
use Rattle.row.proofs.Steps.{After, Fits, Going, fits_reads, fits_room, fits_start, fits_step, seen}
use Rattle.row.proofs.{EveryType.every_type_exact, Exact.Sound}
use Rattle.row.specs.Machine.{event_at, row_of, row_step, row_verdict, tick_at}
use Rattle.row.specs.{declared.StepInput.StepInput, declared.Row.Row, RowStep.RowStep}
use Rattle.stretch.proofs.Taking.{CallAt, next, next_is, next_judged, part_next, takes_at, takes_next, takes_valid}
use Rattle.stretch.specs.Machine.{Kept, Needs, no_kept, seen_as, seen_at, step_as, step_at}
use Rattle.stretch.specs.declared.KeptRecord.{KeptRecord}

-- ---- a record as two numbers

pub seen_as_lem : (past : List Step) (s t : ℕ) → seen past (step_as s t) ≡ seen_as s t
seen_as_lem past s t =
    split (eqb s stream_count) (λ x. seen past (cond x (tick t) (event s t)) ≡ cond x (tick_at t) (event_at s t)) (λ e. refl) (λ e. refl)

closed_as : (past : List Step) (s t : ℕ) → closed (past ++ (step_as s t ∷ [])) ≡ closed past
closed_as past s t =
    split (eqb s stream_count) (λ x. closed (past ++ (cond x (tick t) (event s t) ∷ [])) ≡ closed past)
    (λ e. closed_tick t past) (λ e. closed_event s t past)

not_close : (s t : ℕ) → step_as s t ≡ close → ⊥
not_close s t =
    split (eqb s stream_count) (λ x. cond x (tick t) (event s t) ≡ close → ⊥)
    (λ e f. let z : ◌≡◌ {A = ℕ} 0 1 = cc in omega arith) (λ e f. let z : ◌≡◌ {A = ℕ} 0 1 = cc in omega arith)

-- 12 was answered "yes" for a call that is not the close
judged_room : (rows : List Constraint) (part : List Step) (call : Call) → (step_for call ≡ close → ⊥) → Judged (questions rows part call) Taken
    → Room rows (part ++ (step_for call ∷ []))
unfolding questions
judged_room rows part (Call.Event k t) other judged = judged_last _ judged
judged_room rows part (Call.ColouredEvent k colour t) other judged = judged_last _ judged
judged_room rows part (Call.Tick t) other judged = judged_last _ judged
judged_room rows part Call.Close other judged = absurd (other refl)

-- ---- one row

module _ (c : Constraint) (sound : Sound c) where
  abbrev pub alone : List Constraint
  alone = c ∷ []

  -- the row has room where it fits, and where it is shut
  room_one : (part : List Step) → (Open c part → waiting c part ≤ waiting_limit) → Room alone part
  unfolding Room
  room_one part room zero d e o =
      let same : c ≡ d = cc in
      subst (λ (x : Constraint). waiting x part ≤ waiting_limit) same (room (subst (λ (x : Constraint). Open x part) (sym same) o))
  room_one part room (suc i) d e o = never (cc)

  of_room : (part : List Step) → Room alone part → Open c part → waiting c part ≤ waiting_limit
  unfolding Room
  of_room part room o = room 0 c refl o

  open_of : (part : List Step) (v : Verdict) → Reads c part v → v ≡ Verdict.Open → Open c part
  open_of part v (reads_open e o) is = o
  open_of part v (reads_kept e o) is = never (cc)
  open_of part v (reads_broken n b) is = never (cc)

  -- a row that fits is open while it is not broken, and shut when it is
  fits_open : (part : List Step) → Valid part → closed part ≡ false → (r : Row) → Fits c (every_type_exact c sound) part r → r.now.broken ≡ 0
      → Open c part
  unfolding row_verdict
  fits_open part valid not_closed r fits unbroken = open_of part _ (fits_reads c (every_type_exact c sound) part valid r fits)
      (rw (unbroken, not_closed))

  fits_shut : (part : List Step) → Valid part → (r : Row) → Fits c (every_type_exact c sound) part r → 0 < r.now.broken → ¬ Open c part
  fits_shut part valid r fits broken =
      ⊎_elim
      (λ (g : Going c (every_type_exact c sound) part r.times r.now). absurd (omega (arith, g.unbroken, broken)))
      (λ b. broken_shut c r.now.broken valid b.first) fits.state

  module _ (steps : List Step) (taken : TakesEach [] steps) (records : List KeptRecord) (kept : Kept steps records) (few : length steps ≤ 256)
      (start : ℕ) where
    abbrev pub rest : List Step
    rest = drop start steps

    abbrev pub part : ℕ → List Step
    part size = take size rest

    step_there : (i : ℕ) → i < length steps → get_or steps i close ≡ step_at records i
    step_there i h = kept i h (omega arith)

    part_size : (size : ℕ) → start + size ≤ length steps → length (part size) ≡ size
    part_size size h = length-take-le size rest (omega (arith, h, length-drop start steps))

    not_closed : (size : ℕ) → start + size ≤ length steps → closed (part size) ≡ false
    unfolding closed
    not_closed zero h = refl
    not_closed (suc size) h =
        let there : start + size < length steps = omega (arith, h) in
        ap closed (part_next steps taken start size there)
        ∙ ap (λ (s : Step). closed (part size ++ (s ∷ []))) (sym (next_is steps taken start size there) ∙ step_there (start + size) there)
        ∙ closed_as (part size) (get_or records (start + size) no_kept).stream (get_or records (start + size) no_kept).time
        ∙ not_closed size (omega (arith, h))

    -- the part is in order
    takes_over_none : (size : ℕ) → start + size ≤ length steps → TakesEach [] (part size)
    unfolding Room
    takes_over_none zero h = takes_none
    takes_over_none (suc size) h =
        takes_next steps taken start size (omega (arith, h)) [] (takes_over_none size (omega (arith, h))) (λ i d e o. never (cc))

    part_valid : (size : ℕ) → start + size ≤ length steps → Valid (part size)
    part_valid size h = takes_valid (takes_over_none size h)

    -- ---- the run

    pub record Running (size : ℕ) (r : Row) : Type 0 where
      pub within : start + size ≤ length steps
      pub takes : TakesEach alone (part size)
      pub fits : Fits c (every_type_exact c sound) (part size) r
      pub unbroken : r.now.broken ≡ 0

    pub run_start : start ≤ length steps → Running 0 (row_of c)
    unfolding row_of
    run_start h = record { within = omega (arith, h); takes = takes_none; fits = fits_start c (every_type_exact c sound); unbroken = refl }

    module _ (size : ℕ) (r : Row) (run : Running size r) where
      is_open : Open c (part size)
      is_open = fits_open (part size) (takes_valid run.takes) (not_closed size run.within) r run.fits run.unbroken

      -- nothing up to here breaks the row
      unbroken_yet : (m : ℕ) → m ≤ size → ¬ Breaks c (part m)
      unbroken_yet m h breaks = breaks.1 (subst (Open c) (take-take m size rest h) (open_prefix c (takes_valid run.takes) is_open m))

      -- §14.2: the end comes first
      pub run_end : length steps ≤ start + size → Needs c rest 257
      run_end end m more short =
          subst (Decides (Breaks c (part m))) (sym (lt-leb 257 m (omega (arith, short, length-drop start steps, few))))
          (unbroken_yet m (omega (arith, short, length-drop start steps, end)))

      module _ (there : start + size < length steps) where
        abbrev o : StepInput
        o = seen_at records (start + size)

        abbrev step : Step
        step = step_for (next steps taken start size there)

        seen_is : seen (part size) step ≡ o
        seen_is =
            ap (seen (part size)) (sym (next_is steps taken start size there) ∙ step_there (start + size) there)
            ∙ seen_as_lem (part size) (get_or records (start + size) no_kept).stream (get_or records (start + size) no_kept).time

        accepts : Accepts (part size) step
        unfolding Room
        accepts =
            accepts_taken [] (part size) (next steps taken start size there) (next_judged steps taken start size there [] (λ i d e o. never (cc)))

        -- what the step makes of the row
        abbrev Holds : List Step → RowStep → Type 0
        Holds steps moved = After c (every_type_exact c sound) steps moved.crowded moved.row

        abbrev pub moved : RowStep
        moved = row_step r o (size + 1)

        after : Holds (part (suc size)) moved
        after =
            subst (λ (l : List Step). Holds l moved) (sym (part_next steps taken start size there))
            (subst (λ (s : StepInput). Holds (part size ++ (step ∷ [])) (row_step r s (size + 1))) seen_is
            (subst (λ (n : ℕ). Holds (part size ++ (step ∷ [])) (row_step r (seen (part size) step) (n + 1))) (part_size size run.within)
            (fits_step c (every_type_exact c sound) (part size) (takes_valid run.takes) sound step accepts r run.fits)))

        -- §14.2: 12 comes first
        pub run_crowded : moved.crowded ≡ true → Needs c rest 257
        run_crowded crowded m more short =
            let full = subst (λ b. After c (every_type_exact c sound) (part (suc size)) b moved.row) crowded after in
            subst (Decides (Breaks c (part m))) (sym (lt-leb 257 m (omega (arith, short, length-drop start steps, few))))
            (by_cases (dec_lt size m)
            (λ longer breaks. omega (arith, full.1, of_room (part (suc size)) (room_then m longer short breaks.0) full.0))
            (λ shorter. unbroken_yet m (omega (arith, shorter))))
          where
            room_then : (m : ℕ) → size < m → m ≤ length rest → TakesEach alone (part m) → Room alone (part (suc size))
            room_then m longer short takes =
                let at_size : CallAt alone (part m) size = takes_at takes size (omega (arith, longer, short, length-take m rest)) in
                let same : get_or (part m) size close ≡ step =
                get_or-take m rest size close longer ∙ get_or-drop start steps size close ∙ next_is steps taken start size there in
                subst (Room alone) (sym (part_next steps taken start size there))
                (subst (λ (s : Step). Room alone (part size ++ (s ∷ []))) (sym at_size.is ∙ same)
                (subst (λ (l : List Step). Room alone (l ++ (step_for at_size.s ∷ []))) (take-take size m rest (omega (arith, longer)))
                (judged_room alone (take size (part m)) at_size.s
                (λ e. not_close (get_or records (start + size) no_kept).stream (get_or records (start + size) no_kept).time
                (sym (step_there (start + size) there) ∙ next_is steps taken start size there ∙ sym same ∙ at_size.is ∙ e))
                at_size.judged)))

        module _ (calm : moved.crowded ≡ false) where
          now_fits : Fits c (every_type_exact c sound) (part (suc size)) moved.row
          now_fits = subst (λ b. After c (every_type_exact c sound) (part (suc size)) b moved.row) calm after

          now_takes : TakesEach alone (part (suc size))
          now_takes =
              takes_next steps taken start size there alone run.takes
              (room_one (part (suc size))
              (fits_room c (every_type_exact c sound) (part (suc size)) (part_valid (suc size) (omega (arith, there))) moved.row now_fits))

          pub run_on : moved.row.now.broken ≡ 0 → Running (suc size) moved.row
          run_on unbroken = record { within = omega (arith, there); takes = now_takes; fits = now_fits; unbroken = unbroken }

          module _ (broken : 0 < moved.row.now.broken) where
            -- what is shut stays shut
            shut : (m : ℕ) → size < m → start + m ≤ length steps → ¬ Open c (part m)
            shut m longer h o =
                fits_shut (part (suc size)) (part_valid (suc size) (omega (arith, there))) moved.row now_fits broken
                (subst (Open c) (take-take (suc size) m rest longer) (open_prefix c (part_valid m h) o (suc size)))

            -- and takes whatever comes
            takes_on : (d m : ℕ) → m ≡ suc size + d → start + m ≤ length steps → TakesEach alone (part m)
            takes_on zero m is h = let last : suc size ≡ m = omega (arith, is) in subst (λ (n : ℕ). TakesEach alone (part n)) last now_takes
            takes_on (suc d) m is h =
                let last : suc (suc size + d) ≡ m = omega (arith, is) in
                subst (λ (n : ℕ). TakesEach alone (part n)) last
                (takes_next steps taken start (suc size + d) (omega (arith, h, last)) alone (takes_on d (suc size + d) refl (omega (arith, h, last)))
                (room_one (part (suc (suc size + d))) (λ o. absurd (shut (suc (suc size + d)) (omega arith) (omega (arith, h, last)) o))))

            -- §14.2
            pub run_broken : Needs c rest (size + 1)
            run_broken m more short =
                let h : start + m ≤ length steps = omega (arith, more, short, length-drop start steps) in
                by_cases (dec_lt size m)
                (λ longer. subst (Decides (Breaks c (part m))) (sym (le-leb (size + 1) m (omega (arith, longer))))
                (takes_on (m - suc size) m (omega (arith, longer)) h, shut m longer h))
                (λ shorter. subst (Decides (Breaks c (part m))) (sym (lt-leb (size + 1) m (omega (arith, shorter))))
                (unbroken_yet m (omega (arith, shorter))))
