-- ExecutionTime: the row keeps just what decides which further events end all right, the phase, how long the execution begun has run and the last
-- time, and while some time is left to run the shortest way out is a stop, after a resume where it is preempted.
use Rattle.constraint.proofs.Library.{Bool, List, [], ◌&&◌, ◌++◌, ◌+◌, ◌-◌, ◌<◌, ◌↔◌, ◌∙◌, ◌∷◌, ◌≡◌, ◌≤◌, ap, append_assoc, append-nil, arith, cond}
use Rattle.constraint.proofs.Library.{eqb, eqb-false, eqb-true, false, inl, inr, leb, length, ltb, ltb-false, ltb-true, max, ne_eqb, refl, subst, sym}
use Rattle.constraint.proofs.Library.{true, ℕ}
use Rattle.constraint.proofs.{History.Accepts, History.clock_tick, History.own_append, History.own_tick, Lists.both, Lists.split, Streams.among_at}
use Rattle.constraint.specs.Steps.{Step, among, at, clock, closed, event, own}
use Rattle.constraint.specs.{Accepted.InRange, Accepted.LowerFirst, Continuation.Open, Limits.last_time, Limits.no_limit, Limits.stream_count}
use Rattle.constraint.specs.{Meets.Meets, Waiting.waiting, Constraint.Constraint, Constraint.ExecutionTime}
use Rattle.row_type.proofs.Exact.{ByOutcome, Exact, GoesOn, Sound, outcome_map}
use Rattle.row_type.proofs.FitsRow.{FitsRow, Steady, fits_steady, keeping_first_three, steady_breaking, steady_by, steady_drop}
use Rattle.row_type.proofs.SeveralKinds.{by_place, kinds_apart, kinds_stream}
use Rattle.row_type.proofs.Tests.{Tells, fails, holds, tells_and, tells_leb, tells_same}
use Rattle.row_type.specs.Parts.{breaking, continues_with, registers_of, plus}
use Rattle.row_type.specs.{Parameters.parameters_of, Words.first_three_saved, declared.Change.Change, declared.Registers.Registers}
use Rattle.row_type.specs.{declared.Parameters.Parameters}
use Rattle.execution.proofs.Laws.Continued.{FirstFrom, OfKinds, own_continues, own_event, own_late, own_steps, steps_for}
use Rattle.execution.proofs.Laws.Executions.{Phase, RisesFrom, idle, ran_by, runs, waits}
use Rattle.execution.specs.ExecutionTime.{decide_execution_time, idle_from, in_phase, machine_execution_time, phase_of, preempted_from, ran_of}
use Rattle.execution.specs.ExecutionTime.{ran_to}
use Rattle.execution.specs.ExecutionTime.{running_from, while_idle, while_preempted, while_running}
use Rattle.ring.specs.declared.Edit.TheVariants.{Drop}
use Rattle.execution.proofs.Laws.Executions as E

tells_equal : (a b : ℕ) → Tells (a ≡ b) (eqb a b)
tells_equal a b = split (eqb a b) (Tells (a ≡ b)) (λ e. holds (eqb-true a b e)) (λ e. fails (eqb-false a b e))

tells_below : (a b : ℕ) → Tells (a < b) (ltb a b)
tells_below a b = split (ltb a b) (Tells (a < b)) (λ e. holds (ltb-true a b e)) (λ e. fails (omega (arith, ltb-false a b e)))

-- the phase that the marks say, by the two tests for it
abbrev phase_by : Bool → Bool → ℕ → Phase
phase_by is-idle is-running ran = cond is-idle idle (cond is-running (runs ran) (waits ran))

abbrev phase_in : ℕ → ℕ → Phase
phase_in phase ran = phase_by (eqb phase 0) (eqb phase 1) ran

by_phase : (first : ℕ) (P : Bool → Bool → Type 0) → P true false → P false true → P false false → P (eqb first 0) (eqb first 1)
by_phase first P is-idle is-running is-preempted =
    split (eqb first 0) (λ x. P x (eqb first 1))
    (λ e. subst (P true) (sym (ne_eqb first 1 (λ one. omega (arith, eqb-true first 0 e)))) is-idle)
    (λ e. split (eqb first 1) (P false) (λ one. is-running) (λ other. is-preempted))

module _ (start stop preempt resume lower upper : ℕ) (sound : Sound (ExecutionTime start stop preempt resume lower upper)) where
  abbrev c : Constraint
  c = ExecutionTime start stop preempt resume lower upper

  abbrev parameters : Parameters
  parameters = parameters_of c

  abbrev ks : List ℕ
  ks = start ∷ stop ∷ preempt ∷ resume ∷ []

  abbrev Ends : Phase → ℕ → List (ℕ × ℕ) → Type 0
  Ends = E.Ends start stop preempt resume lower upper

  abbrev Room : Phase → Type 0
  Room = E.Room start stop preempt resume lower upper

  ends_room : (phase : Phase) (free : ℕ) (es : List (ℕ × ℕ)) → Ends phase free es → Room phase
  ends_room = E.ends_room start stop preempt resume lower upper

  ends_rise : (phase : Phase) (free : ℕ) (es : List (ℕ × ℕ)) → Ends phase free es → RisesFrom free es
  ends_rise = E.ends_rise start stop preempt resume lower upper

  small : upper ≤ last_time
  unfolding InRange
  small = sound.in_range.1.1.1.1.1.0

  ordered : lower ≤ upper
  unfolding LowerFirst
  ordered = sound.lower_first.1.1.1.1.1.0

  stop_apart : ¬ (stop ≡ preempt)
  stop_apart = kinds_apart ks sound.kinds_fit 1 2 (omega arith) (omega arith) (λ e. omega arith)

  -- ---- what is kept of the events

  -- after these events of the row just those further ones end all right that do so from the phase on
  abbrev Stands : List (ℕ × ℕ) → Phase → ℕ → Type 0
  Stands past phase free = (further : List (ℕ × ℕ)) → Ends idle 0 (past ++ further) ↔ Ends phase free further

  -- none does
  abbrev Lost : List (ℕ × ℕ) → Type 0
  Lost past = (further : List (ℕ × ℕ)) → ¬ Ends idle 0 (past ++ further)

  record Keeps (past : List (ℕ × ℕ)) (registers : Registers) (times : List ℕ) : Type 0 where
    no_times : times ≡ []
    stands : Stands past (phase_in (phase_of registers) (ran_of registers)) registers.last
    room : Room (phase_in (phase_of registers) (ran_of registers))

  -- only a running execution has a due time
  abbrev due_by : Bool → Registers → ℕ
  due_by is-running registers = cond is-running (plus registers.last (upper - (ran_of registers + 1))) no_limit

  abbrev due : Registers → List ℕ → ℕ
  due registers times = due_by (eqb (phase_of registers) 1) registers

  abbrev kept : Registers → List ℕ → Bool
  kept registers times = eqb (phase_of registers) 0

  -- ---- Events

  -- what an event makes of the row
  abbrev ByTurn : List (ℕ × ℕ) → List ℕ → ℕ → ℕ → Change → Type 0
  ByTurn past times k t = ByOutcome (Lost (past ++ ((k, t) ∷ []))) (GoesOn (Keeps (past ++ ((k, t) ∷ []))) due kept times t)

  module _ (past : List (ℕ × ℕ)) (registers : Registers) (times : List ℕ) (k t : ℕ) (recordable : t ≤ last_time) (none : times ≡ []) where
    stands_more : (phase next : Phase) (free : ℕ) → Stands past phase free
        → ((further : List (ℕ × ℕ)) → Ends phase free ((k, t) ∷ further) ↔ Ends next (t + 1) further) → Stands (past ++ ((k, t) ∷ [])) next (t + 1)
    stands_more phase next free stands goes further =
        rw (append_assoc past ((k, t) ∷ []) further)
        (λ h. (goes further).0 ((stands ((k, t) ∷ further)).0 h), λ h. (stands ((k, t) ∷ further)).1 ((goes further).1 h))

    lost_now : (phase : Phase) (free : ℕ) → Stands past phase free → ((further : List (ℕ × ℕ)) → ¬ Ends phase free ((k, t) ∷ further))
        → Lost (past ++ ((k, t) ∷ []))
    lost_now phase free stands wrong further = rw (append_assoc past ((k, t) ∷ []) further) (λ h. wrong further ((stands ((k, t) ∷ further)).0 h))

    -- the marks of the next phase
    keeps_next : (first ran : ℕ) → Stands (past ++ ((k, t) ∷ [])) (phase_in first ran) (t + 1) → Room (phase_in first ran)
        → Keeps (past ++ ((k, t) ∷ [])) (in_phase registers first t ran) times
    keeps_next first ran stands room =
        let last_is : (in_phase registers first t ran).last ≡ t + 1 = omega arith in
        record {
          no_times = none;
          stands = subst (Stands (past ++ ((k, t) ∷ [])) (phase_in first ran)) (sym last_is) stands;
          room = room;
        }

    idle_next : Stands (past ++ ((k, t) ∷ [])) idle (t + 1) → ByTurn past times k t (idle_from registers t)
    idle_next stands = record { live = keeps_next 0 0 stands tt; due_is = refl; kept_is = refl; in_time = omega arith }

    running_next : (ran : ℕ) → ran + 1 ≤ upper → Stands (past ++ ((k, t) ∷ [])) (runs ran) (t + 1)
        → ByTurn past times k t (running_from parameters registers t ran)
    running_next ran room stands =
        record { live = keeps_next 1 ran stands room; due_is = omega (arith, small); kept_is = refl; in_time = omega (arith, small) }

    preempted_next : (ran : ℕ) → ran + 1 ≤ upper → Stands (past ++ ((k, t) ∷ [])) (waits ran) (t + 1)
        → ByTurn past times k t (preempted_from registers t ran)
    preempted_next ran room stands = record { live = keeps_next 2 ran stands room; due_is = refl; kept_is = refl; in_time = omega arith }

    -- only a start may come between two executions, and none where there is no time to run
    idle_turns : registers.last ≤ t → Stands past idle registers.last → ByTurn past times k t (while_idle parameters registers k t)
    unfolding while_idle
    idle_turns from stands = turn (tells_and (tells_equal k start) (tells_below 0 upper))
      where
        turn : {test : Bool} → Tells ((k ≡ start) × (0 < upper)) test
            → ByTurn past times k t (cond test (running_from parameters registers t 0) breaking)
        turn (holds (is, some)) =
            running_next 0 (omega arith) (stands_more idle (runs 0) registers.last stands (λ further. (λ h. h.2, λ h. (from, is, h))))
        turn (fails wrong) = lost_now idle registers.last stands
            (λ further h. wrong (h.1, omega (arith, ends_room (runs 0) (t + 1) further h.2)))

    -- a stop or a preempt may come in a running execution; the due time has seen to upper
    module _ (from : registers.last ≤ t) (room : ran_of registers + 1 ≤ upper) (soon : t ≤ plus registers.last (upper - (ran_of registers + 1)))
        (stands : Stands past (runs (ran_of registers)) registers.last) where
      ran_is : ran_to registers t ≡ ran_by (ran_of registers) registers.last t
      ran_is = omega (arith, small)

      stop_next : k ≡ stop → lower ≤ ran_to registers t → (further : List (ℕ × ℕ))
          → Ends (runs (ran_of registers)) registers.last ((k, t) ∷ further) ↔ Ends idle (t + 1) further
      stop_next is long further = (to_idle, λ h. (from, inl (is, omega (arith, ran_is), omega (arith, small), h)))
        where
          to_idle : Ends (runs (ran_of registers)) registers.last ((k, t) ∷ further) → Ends idle (t + 1) further
          to_idle (late, inl (same, enough, short, later)) = later
          to_idle (late, inr (other, later)) = absurd (stop_apart (sym is ∙ other))

      preempt_next : k ≡ preempt → (further : List (ℕ × ℕ))
          → Ends (runs (ran_of registers)) registers.last ((k, t) ∷ further) ↔ Ends (waits (ran_to registers t)) (t + 1) further
      preempt_next is further = rw ran_is (to_waits, λ h. (from, inr (is, h)))
        where
          to_waits : Ends (runs (ran_of registers)) registers.last ((k, t) ∷ further)
              → Ends (waits (ran_by (ran_of registers) registers.last t)) (t + 1) further
          to_waits (late, inl (other, enough, short, later)) = absurd (stop_apart (sym other ∙ is))
          to_waits (late, inr (same, later)) = later

      running_turns : ByTurn past times k t (while_running parameters registers k t)
      unfolding while_running
      running_turns =
          turn (tells_and (tells_equal k stop) (tells_leb lower (ran_to registers t)))
          (tells_and (tells_equal k preempt) (tells_same (tells_leb _ upper) (λ h. omega arith) (λ h. omega arith)))
        where
          wrong : ¬ ((k ≡ stop) × (lower ≤ ran_to registers t)) → ¬ ((k ≡ preempt) × (ran_to registers t < upper)) → (further : List (ℕ × ℕ))
              → ¬ Ends (runs (ran_of registers)) registers.last ((k, t) ∷ further)
          wrong no_stop no-preempt further (late, inl (is, enough, short, later)) = no_stop (is, omega (arith, ran_is))
          wrong no_stop no-preempt further (late, inr (is, later)) =
              no-preempt (is, omega (arith, ran_is, ends_room (waits (ran_by (ran_of registers) registers.last t)) (t + 1) further later))

          turn : {stops preempts : Bool} → Tells ((k ≡ stop) × (lower ≤ ran_to registers t)) stops
              → Tells ((k ≡ preempt) × (ran_to registers t < upper)) preempts
              → ByTurn past times k t (cond stops (idle_from registers t) (cond preempts (preempted_from registers t (ran_to registers t)) breaking))
          turn (holds (is, long)) preempts = idle_next (stands_more (runs (ran_of registers)) idle registers.last stands (stop_next is long))
          turn (fails no_stop) (holds (is, less)) =
              preempted_next (ran_to registers t) (omega arith)
              (stands_more (runs (ran_of registers)) (waits (ran_to registers t)) registers.last stands (preempt_next is))
          turn (fails no_stop) (fails no-preempt) = lost_now (runs (ran_of registers)) registers.last stands (wrong no_stop no-preempt)

    -- only a resume may come in a preempted one
    preempted_turns : registers.last ≤ t → ran_of registers + 1 ≤ upper → Stands past (waits (ran_of registers)) registers.last
        → ByTurn past times k t (while_preempted parameters registers k t)
    unfolding while_preempted
    preempted_turns from room stands = turn (tells_equal k resume)
      where
        turn : {test : Bool} → Tells (k ≡ resume) test
            → ByTurn past times k t (cond test (running_from parameters registers t (ran_of registers)) breaking)
        turn (holds is) =
            running_next (ran_of registers) room
            (stands_more (waits (ran_of registers)) (runs (ran_of registers)) registers.last stands (λ further. (λ h. h.2, λ h. (from, is, h))))
        turn (fails wrong) = lost_now (waits (ran_of registers)) registers.last stands (λ further h. wrong h.1)

    event_turns : Stands past (phase_in (phase_of registers) (ran_of registers)) registers.last
        → Room (phase_in (phase_of registers) (ran_of registers))
        → t ≤ due registers times
        → ByTurn past times k t (decide_execution_time parameters registers times k t)
    unfolding decide_execution_time
    event_turns stands room soon = turn (tells_below t registers.last)
      where
        -- the marks' last time has passed
        in_phase_lem : registers.last ≤ t
            → ByTurn past times k t
            (cond (eqb (phase_of registers) 0) (while_idle parameters registers k t)
            (cond (eqb (phase_of registers) 1) (while_running parameters registers k t) (while_preempted parameters registers k t)))
        in_phase_lem from =
            by_phase (phase_of registers)
            (λ x y. Stands past (phase_by x y (ran_of registers)) registers.last
            → Room (phase_by x y (ran_of registers)) → t ≤ due_by y registers
            → ByTurn past times k t (cond x (while_idle parameters registers k t)
            (cond y (while_running parameters registers k t) (while_preempted parameters registers k t))))
            (λ st ro so. idle_turns from st) (λ st ro so. running_turns from ro so st) (λ st ro so. preempted_turns from ro st) stands room soon

        turn : {test : Bool} → Tells (t < registers.last) test
            → ByTurn past times k t
            (cond test breaking
            (cond (eqb (phase_of registers) 0) (while_idle parameters registers k t)
            (cond (eqb (phase_of registers) 1) (while_running parameters registers k t) (while_preempted parameters registers k t))))
        turn (holds early) =
            let phase : Phase = phase_in (phase_of registers) (ran_of registers) in
            lost_now phase registers.last stands (λ further h. omega (arith, (ends_rise phase registers.last ((k, t) ∷ further) h).0))
        turn (fails late) = in_phase_lem (omega arith)

  -- ---- the row's own events among the steps

  abbrev Live : List Step → Registers → List ℕ → Type 0
  Live steps = Keeps (own ks steps)

  -- what the definition says of steps it says of their own events
  meets_of : (steps : List Step) → Ends idle 0 (own ks steps) → Meets c steps
  unfolding Meets
  meets_of steps h = E.ends_meets start stop preempt resume lower upper (own ks steps) h

  of_meets : (steps : List Step) → Meets c steps → Ends idle 0 (own ks steps)
  unfolding Meets
  of_meets steps m = E.meets_ends start stop preempt resume lower upper (own ks steps) m

  -- where none of the further events ends all right, no continuation is left
  shut : (steps : List Step) → ((further : List (ℕ × ℕ)) → FirstFrom (clock steps) further → ¬ Ends idle 0 (own ks steps ++ further)) → ¬ Open c steps
  shut steps lost (further, follows, meets) =
      lost (own ks further) (own_late ks follows) (rw (own_append ks steps further) at (of_meets (steps ++ further) meets))

  event_does : {steps : List Step} {registers : Registers} {times : List ℕ} {k t : ℕ} → Live steps registers times → among k ks ≡ true
      → Accepts steps (event k t) → t ≤ due registers times
      → ByOutcome (¬ Open c (steps ++ (event k t ∷ []))) (GoesOn (Live (steps ++ (event k t ∷ []))) due kept times t)
      (decide_execution_time parameters registers times k t)
  event_does {steps} {registers} {times} {k} {t} live is a soon =
      outcome_map (decide_execution_time parameters registers times k t).breaks
      (λ lost. shut (steps ++ (event k t ∷ [])) (rw (own_event ks k t steps is) (λ further first. lost further)))
      (subst (λ (past : List (ℕ × ℕ)). GoesOn (Keeps past) due kept times t (decide_execution_time parameters registers times k t))
      (sym (own_event ks k t steps is)))
      (event_turns (own ks steps) registers times k t a.time_small live.no_times live.stands live.room soon)

  -- ---- Ticks

  keeps_same : (a b : List (ℕ × ℕ)) (registers : Registers) (times : List ℕ) → a ≡ b → Keeps a registers times → Keeps b registers times
  keeps_same a b registers times same keeps = subst (λ (past : List (ℕ × ℕ)). Keeps past registers times) same keeps

  -- the next event of a running execution comes too late
  too_late : (past : List (ℕ × ℕ)) (registers : Registers) (times : List ℕ) (t : ℕ) → Keeps past registers times → due registers times < t
      → t ≤ last_time
      → (further : List (ℕ × ℕ)) → FirstFrom t further → ¬ Ends idle 0 (past ++ further)
  too_late past registers times t keeps passed recordable further first ends =
      by_phase (phase_of registers)
      (λ x y. due_by y registers < t → Room (phase_by x y (ran_of registers))
      → Ends (phase_by x y (ran_of registers)) registers.last further → ⊥)
      (λ over room h. omega arith) (λ over room h. runs_out over room further first h) (λ over room h. omega arith)
      passed keeps.room ((keeps.stands further).0 ends)
    where
      runs_out : plus registers.last (upper - (ran_of registers + 1)) < t → ran_of registers + 1 ≤ upper → (es : List (ℕ × ℕ)) → FirstFrom t es
          → ¬ Ends (runs (ran_of registers)) registers.last es
      runs_out over room [] first h = h
      runs_out over room (e ∷ es) first
          h = omega (arith, h.0, E.ends_soon start stop preempt resume lower upper (ran_of registers) registers.last e es h)

  -- ---- Open

  -- the shortest way out from a clock that is not past the due time
  abbrev WayOut : ℕ → Phase → ℕ → Type 0
  WayOut now phase free = (es : List (ℕ × ℕ)) × OfKinds ks es × FirstFrom now es × Ends phase free es

  way_out : (now : ℕ) (past : List (ℕ × ℕ)) (registers : Registers) (times : List ℕ) → Keeps past registers times → now ≤ due registers times
      → WayOut now (phase_in (phase_of registers) (ran_of registers)) registers.last
  way_out now past registers times keeps soon =
      by_phase (phase_of registers)
      (λ x y. Room (phase_by x y (ran_of registers)) → now ≤ due_by y registers
      → WayOut now (phase_by x y (ran_of registers)) registers.last)
      (λ room in_time. ([], tt, tt, tt)) running_out preempted_out keeps.room soon
    where
      of_place : (i : ℕ) → i < 4 → (at ks i < stream_count) × (among (at ks i) ks ≡ true)
      of_place i h = (kinds_stream ks sound.kinds_fit i h, among_at ks i h)

      running_out : ran_of registers + 1 ≤ upper → now ≤ plus registers.last (upper - (ran_of registers + 1))
          → WayOut now (runs (ran_of registers)) registers.last
      running_out room in_time = (
        (stop, max now (registers.last + (lower - (ran_of registers + 1)))) ∷ [],
        (of_place 1 (omega arith), tt),
        omega arith,
        (omega arith, inl (refl, omega arith, omega (arith, ordered), tt)),
      )

      preempted_out : ran_of registers + 1 ≤ upper → now ≤ no_limit → WayOut now (waits (ran_of registers)) registers.last
      preempted_out room in_time = (
        (resume, max now registers.last) ∷ (stop, max now registers.last + max 1 (lower - ran_of registers)) ∷ [],
        (of_place 3 (omega arith), (of_place 1 (omega arith), tt)),
        omega arith,
        (omega arith, refl, (omega arith, inl (refl, omega arith, omega (arith, ordered), tt))),
      )

  is_open : (steps : List Step) (registers : Registers) (times : List ℕ) → closed steps ≡ false → Live steps registers times
      → clock steps ≤ due registers times
      → Open c steps
  is_open steps registers times o live soon =
      let (es, of, first, ends) = way_out (clock steps) (own ks steps) registers times live soon in
      let all : Ends idle 0 (own ks steps ++ es) = (live.stands es).1 ends in (
        steps_for es,
        own_continues ks es steps o of (ends_rise idle 0 (own ks steps ++ es) all) first,
        meets_of (steps ++ steps_for es) (rw (own_append ks steps (steps_for es), own_steps ks es of) all),
      )

  -- ---- Close

  at_close : (past : List (ℕ × ℕ)) (registers : Registers) (times : List ℕ) → Keeps past registers times
      → Tells (Ends idle 0 past) (kept registers times)
  at_close past registers times keeps =
      by_phase (phase_of registers)
      (λ x y. (Ends idle 0 (past ++ []) ↔ Ends (phase_by x y (ran_of registers)) registers.last [])
      → Tells (Ends idle 0 past) x)
      (λ stands. holds (rw (append-nil past) at (stands.1 tt)))
      (λ stands. fails (λ h. stands.0 (rw (append-nil past) h)))
      (λ stands. fails (λ h. stands.0 (rw (append-nil past) h))) (keeps.stands [])

  tells_true : {P : Type 0} {b : Bool} → Tells P b → b ≡ true → P
  tells_true (holds p) e = p
  tells_true (fails n) e = both (sym e)

  tells_false : {P : Type 0} {b : Bool} → Tells P b → b ≡ false → ¬ P
  tells_false (holds p) e = both e
  tells_false (fails n) e = n

  -- ---- Exact

  -- §5.8
  pub exact_execution_time : Exact c (decide_execution_time parameters)
  unfolding own waiting
  exact_execution_time =
      record {
        Live = Live;
        due = due;
        kept = kept;
        start = record {
          live = record { no_times = refl; stands = λ further. (λ h. h, λ h. h); room = tt };
          due_is = refl;
          kept_is = refl;
        };
        does = λ p live of_stream a soon. event_does live (by_place c ks refl (λ k. among k ks ≡ true) (among_at ks) of_stream) a soon;
        same = keeps_same _ _ _ _;
        late = λ p live passed recordable. shut _
            (rw (clock_tick _ _, own_tick ks _ _) (λ further first. too_late _ _ _ _ live passed recordable further first));
        is_open = λ p o live soon. is_open _ _ _ o live soon;
        waits = λ p live. (refl, omega (arith, ap length live.no_times));
        is_kept = λ p live soon e. meets_of _ (tells_true (at_close _ _ _ live) e);
        not_kept = λ p live e m. tells_false (at_close _ _ _ live) e (of_meets _ m);
      }

-- ---- In a row

-- no times are kept, and an event that the row goes on with changes three marks
steady_execution_time : (parameters : Parameters) (m : Registers) (times : List ℕ) (kind t : ℕ)
    → Steady first_three_saved m times (decide_execution_time parameters m times kind t)
unfolding decide_execution_time while_idle while_running while_preempted
steady_execution_time parameters m times kind t =
    steady_by (ltb t m.last) breaks
    (steady_by (eqb (phase_of m) 0) (steady_by (eqb kind parameters.first && ltb 0 parameters.upper) (enters 1 0) breaks)
    (steady_by (eqb (phase_of m) 1)
    (steady_by (eqb kind parameters.second && leb parameters.lower (ran_to m t)) (enters 0 0)
    (steady_by (eqb kind parameters.third && ltb (ran_to m t) parameters.upper) (enters 2 (ran_to m t)) breaks))
    (steady_by (eqb kind parameters.fourth) (enters 1 (ran_of m)) breaks)))
  where
    breaks : Steady first_three_saved m times breaking
    breaks = steady_breaking keeping_first_three

    enters : (phase ran : ℕ) {due : ℕ} {kept : Bool} → Steady first_three_saved m times (continues_with (Drop 0) (in_phase m phase t ran) due kept)
    enters phase ran = steady_drop 0 (ap (registers_of (plus t 1) phase ran))

pub fits_execution_time : FitsRow machine_execution_time
fits_execution_time = fits_steady keeping_first_three steady_execution_time
