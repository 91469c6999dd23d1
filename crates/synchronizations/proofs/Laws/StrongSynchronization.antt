-- StrongSynchronization: the first times of the groups begun and not complete, and each kind's count of them, are enough, since an event goes
-- to the first group that lacks its kind and the oldest group is due first.
use Rattle.constraint.proofs.Library.{List, [], ◌++◌, ◌<◌, ◌∙◌, ◌∷◌, ◌≡◌, ◌≤◌, ap, arith, cond, false, false≢true, length, ltb, refl, subst, sym}
use Rattle.constraint.proofs.Library.{true, ℕ}
use Rattle.constraint.proofs.{Continuations.SameTimes, Continuations.same_times, History.Accepts, History.Past, Lists.split, Streams.streams}
use Rattle.constraint.specs.Steps.{Step, at, clock, closed, event, own, tick}
use Rattle.constraint.specs.Constraint.{Constraint, StrongSynchronization}
use Rattle.constraint.specs.{Accepted.kinds, Continuation.Open, Limits.last_time, Limits.waiting_limit, Meets.Meets, Meets.MeetsStrongSynchronization}
use Rattle.constraint.specs.{Waiting.begun_incomplete, Waiting.waiting}
use Rattle.synchronizations.proofs.Laws.Columns.{behind_same, completes, groups_late, groups_left_over, groups_meet, groups_same, groups_wait}
use Rattle.synchronizations.proofs.Laws.Counts.{Names, OfKinds, of_kinds}
use Rattle.synchronizations.proofs.Laws.LiveGroups.{LiveGroups, due, event_does, kept, live_none}
use Rattle.synchronizations.specs.Kinds.{register_of, with_four}
use Rattle.synchronizations.specs.StrongSynchronization.{complete, counted, decide_strong_synchronization}
use Rattle.synchronizations.specs.StrongSynchronization.{overflows_strong_synchronization}
use Rattle.synchronizations.specs.StrongSynchronization.{machine_strong_synchronization, without_oldest}
use Rattle.row_type.proofs.Exact.{ByOutcome, Exact, GoesOn, OfStream, Sound, Starts}
use Rattle.row_type.proofs.FitsRow.{FitsRow, Unkept, calm_by, kind_overflows, dropped, free_first, keeping_counts, neither, places_each, pushed}
use Rattle.row_type.proofs.FitsRow.{unkept_by}
use Rattle.row_type.proofs.{FieldNumbers.kinds_listed, Oldest.due_passed, Oldest.due_within, SeveralKinds.by_place}
use Rattle.row_type.specs.{Parts.due_oldest, Parts.none_left, Parts.waits, Parameters.parameters_of, Parameters.start_words, Words.counts_saved}
use Rattle.row_type.specs.{declared.Change.Change, declared.Registers.Registers, declared.Parameters.Parameters}
use Rattle.ring.specs.declared.Edit.TheVariants.{Drop, Push}

-- a row of a list of kinds
abbrev Synchronized : Constraint → Type 1
Synchronized = OfKinds MeetsStrongSynchronization begun_incomplete true

module _ (c : Constraint) (s : Synchronized c) where
  abbrev tolerance : ℕ
  tolerance = (parameters_of c).upper

  abbrev Live : List Step → Registers → List ℕ → Type 0
  Live = LiveGroups (kinds c) tolerance

  -- ---- Start

  live_start : Starts (Live []) (due tolerance) kept (start_words c)
  live_start = rw s.no_words (record { live = live_none s.names tolerance; due_is = refl; kept_is = refl })

  -- ---- Events

  live_does : {steps : List Step} {registers : Registers} {firsts : List ℕ} {k t : ℕ} → Past steps → Live steps registers firsts → OfStream c k
      → Accepts steps (event k t) → t ≤ due_oldest tolerance firsts
      → ByOutcome (¬ Open c (steps ++ (event k t ∷ []))) (GoesOn (Live (steps ++ (event k t ∷ []))) (due tolerance) kept firsts t)
      (decide_strong_synchronization (parameters_of c) registers firsts k t)
  live_does {steps} {registers} {firsts} {k} {t} past live =
      by_place c (kinds c) s.streams_are (λ j. Accepts steps (event j t) → t ≤ due_oldest tolerance firsts
      → ByOutcome (¬ Open c (steps ++ (event j t ∷ []))) (GoesOn (Live (steps ++ (event j t ∷ []))) (due tolerance) kept firsts t)
      (decide_strong_synchronization (parameters_of c) registers firsts j t))
      (λ i h accepts in_time. event_does s.names tolerance steps registers firsts i t past live h accepts in_time
      (¬ Open c (steps ++ (event (at (kinds c) i) t ∷ []))) refl)

  -- ---- Ticks

  live_same : (a b : List Step) (registers : Registers) (firsts : List ℕ) → own (streams c) a ≡ own (streams c) b → Live a registers firsts
      → Live b registers firsts
  live_same a b registers firsts equal live =
      let same : SameTimes (kinds c) a b = rw s.streams_are at (same_times (streams c) a b equal) in
      record {
        done = live.done;
        groups = groups_same (kinds c) tolerance a b same live.groups;
        behind = behind_same (kinds c) tolerance a b same live.behind;
        counts = λ j h. rw (← same j h) (live.counts j h);
      }

  live_late : (steps : List Step) (registers : Registers) (firsts : List ℕ) (t : ℕ) → Live steps registers firsts → due_oldest tolerance firsts < t
      → t ≤ last_time → ¬ Open c (steps ++ (tick t ∷ []))
  live_late steps registers firsts t live passed small (further, follows, meets) =
      let (begun, late) = due_passed tolerance t firsts small passed in
      groups_late (kinds c) tolerance t steps further live.groups live.behind begun late follows
      (rw (s.meets (steps ++ (tick t ∷ []) ++ further)) at meets)

  -- ---- Open

  live_open : (steps : List Step) (registers : Registers) (firsts : List ℕ) → Past steps → closed steps ≡ false → Live steps registers firsts
      → clock steps ≤ due_oldest tolerance firsts → Open c steps
  live_open steps registers firsts past goes_on live in_time =
      let (further, follows, meets) = completes (kinds c) s.names.fit tolerance firsts live.done steps (record {
        goes_on = goes_on;
        ordered = λ k. (past.rising k, past.past k);
        groups = live.groups;
        in_time = due_within tolerance (clock steps) firsts in_time;
      }) in
      (further, follows, rw (s.meets (steps ++ further)) meets)

  -- ---- Close

  live_kept : (steps : List Step) (registers : Registers) (firsts : List ℕ) → Live steps registers firsts → none_left firsts ≡ true → Meets c steps
  live_kept steps registers [] live e = rw (s.meets steps) (groups_meet (kinds c) tolerance steps live.groups)
  live_kept steps registers (f ∷ fs) live e = absurd (false≢true e)

  live_not_kept : (steps : List Step) (registers : Registers) (firsts : List ℕ) → Live steps registers firsts → none_left firsts ≡ false
      → ¬ Meets c steps
  live_not_kept steps registers [] live e = absurd (false≢true (sym e))
  live_not_kept steps registers (f ∷ fs) live e =
      λ meets. groups_left_over (kinds c) tolerance steps live.groups live.behind (omega arith) (rw (s.meets steps) at meets)

  -- ---- Exact

  exact_synchronized : Exact c (decide_strong_synchronization (parameters_of c))
  exact_synchronized =
      record {
        Live = Live;
        due = due tolerance;
        kept = kept;
        start = live_start;
        does = live_does;
        same = live_same _ _ _ _;
        late = λ past live. live_late _ _ _ _ live;
        is_open = live_open _ _ _;
        waits = λ past live. rw s.tag_waits (s.waits _ ∙ groups_wait (kinds c) tolerance _ live.groups live.behind);
        is_kept = λ past live in_time. live_kept _ _ _ live;
        not_kept = λ past live. live_not_kept _ _ _ live;
      }

strong_of_kinds : (ks : List ℕ) (x : ℕ) → Sound (StrongSynchronization ks x) → Synchronized (StrongSynchronization ks x)
unfolding Meets waiting
strong_of_kinds ks x sound =
    of_kinds (StrongSynchronization ks x) sound ks x refl (sound.known.1.n_known refl) refl (λ steps. refl) refl (λ steps. refl)

-- §5.7
pub exact_strong_synchronization : (ks : List ℕ) (x : ℕ) → Sound (StrongSynchronization ks x)
    → Exact (StrongSynchronization ks x) (decide_strong_synchronization (parameters_of (StrongSynchronization ks x)))
exact_strong_synchronization ks x sound = exact_synchronized (StrongSynchronization ks x) (strong_of_kinds ks x sound)

-- §6.3: the times that it keeps are the first of the groups begun and not complete
pub strong_synchronization_keeps : (ks : List ℕ) (x : ℕ) (sound : Sound (StrongSynchronization ks x)) (steps : List Step) (registers : Registers)
    (held : List ℕ) → (exact_strong_synchronization ks x sound).Live steps registers held
    → Names (parameters_of (StrongSynchronization ks x)) ks × LiveGroups ks (parameters_of (StrongSynchronization ks x)).upper steps registers held
unfolding exact_strong_synchronization exact_synchronized
strong_synchronization_keeps ks x sound steps registers held live =
    let c = StrongSynchronization ks x in
    subst (λ (l : List ℕ). Names (parameters_of c) l × LiveGroups l (parameters_of c).upper steps registers held) (kinds_listed x ks)
    ((strong_of_kinds ks x sound).names, live)

-- ---- In a row

-- an event changes the counts alone
unkept_strong_synchronization : (parameters : Parameters) (m : Registers) (times : List ℕ) (kind t : ℕ) → Unkept counts_saved m
    → Unkept counts_saved (decide_strong_synchronization parameters m times kind t).registers
unfolding decide_strong_synchronization
unkept_strong_synchronization parameters m times kind t e =
    let now : Registers = counted parameters m kind in
    unkept_by counts_saved (ltb (register_of parameters m kind) (length times)) _ (waits parameters.upper times (Push 0 t) now)
    (unkept_by counts_saved (complete parameters now) (waits parameters.upper times (Drop 1) (without_oldest now))
    (waits parameters.upper times (Drop 0) now)
    (ap (with_four _ _ _ _) e) (ap (with_four _ _ _ _) e))
    (ap (with_four _ _ _ _) e)

crowding_strong_synchronization : (parameters : Parameters) (registers : Registers) (times : List ℕ) (kind t : ℕ) → 63 ≤ length times
    → length times ≤ 64
    → overflows_strong_synchronization parameters registers (length times) kind t ≡ kind_overflows
    (decide_strong_synchronization parameters registers times kind t) times
unfolding overflows_strong_synchronization decide_strong_synchronization
crowding_strong_synchronization parameters registers times kind t many few =
    let now : Registers = counted parameters registers kind in
    let full : Change = waits parameters.upper times (Drop 1) (without_oldest now) in
    let part : Change = waits parameters.upper times (Drop 0) now in
    split (ltb (register_of parameters registers kind) (length times))
    (λ b. cond (ltb (length times) waiting_limit) false (cond b false true)
    ≡ kind_overflows (cond b (cond (complete parameters now) full part) (waits parameters.upper times (Push 0 t) now)) times)
    (λ _. neither (ltb (length times) waiting_limit)
    ∙ sym (calm_by times (complete parameters now) full part (dropped times 1 few) (dropped times 0 few)))
    (λ _. sym (pushed times t))

pub fits_strong_synchronization : FitsRow machine_strong_synchronization
unfolding overflows_strong_synchronization
fits_strong_synchronization =
    record {
      keeping = keeping_counts;
      unkept = unkept_strong_synchronization;
      crowding = crowding_strong_synchronization;
      room = λ parameters registers n s t many free. free_first n free (cond (ltb (register_of parameters registers s) n) false true);
      places = places_each;
    }
