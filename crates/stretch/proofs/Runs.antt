-- What the loop over the records from a start on keeps: its row is that of a run, whichever constraint has the words that it began with.
use Rattle.constraint.proofs.Library.{List, [], ◌+◌, ◌<◌, ◌∙◌, ◌∷◌, ◌≡◌, ◌≤◌, ap, arith, by_cases, false, get_or, get_or-set_other}
use Rattle.constraint.proofs.Library.{get_or-set_same, length, length-set, set, subst, suc, sym, true, ℕ, ℕ_discrete, ⊎_elim}
use Rattle.constraint.specs.{Accepted.Accepted, Steps.Step, Steps.at, Constraint.Constraint}
use Rattle.row_type.specs.Words.{number_words, parameters_at, row_as_words}
use Rattle.monitor.proofs.Demand.{accepted_sound}
use Rattle.row.proofs.{Overflow.crowded_known, Overflow.step_by, Overflow.step_crowds, EveryType.every_type_exact, Exact.Sound, Steps.Fits}
use Rattle.row.proofs.{Steps.Going}
use Rattle.row.specs.Machine.{row_from, row_of, row_step}
use Rattle.row.specs.{StepParts.crowded_by, StepParts.stepped_row, Stored.state_at, Stored.words_of_row, Undo.no_row_undo}
use Rattle.row.specs.{declared.RowUndo.RowUndo}
use Rattle.row.specs.{declared.StepInput.StepInput, declared.Row.Row, RowStep.RowStep}
use Rattle.stretch.proofs.Starts.{Running, run_broken, run_crowded, run_end, run_on, run_start}
use Rattle.stretch.specs.Machine.{NeedsFrom, RunOf, seen_at}
use Rattle.stretch.specs.declared.KeptRecord.{KeptRecord}

pub sound_of : (c : Constraint) → Accepted (c ∷ []) → Sound c
sound_of c accepted = (accepted_sound (c ∷ []) accepted).0

pub few_of : (steps : List Step) (records : List KeptRecord) (count : ℕ) → RunOf steps records count → count ≤ 256 → length steps ≤ 256
few_of steps records count run small = omega (arith, run.counted, small)

-- the words are those of a constraint's row before any step
abbrev pub BeginAs : List (List ℕ) → Constraint → Type 0
BeginAs words c = words ≡ words_of_row (row_of c) no_row_undo

-- words are those of one row
same_row : (words : List (List ℕ)) (c d : Constraint) → BeginAs words c → BeginAs words d → row_of c ≡ row_of d
unfolding words_of_row row_as_words number_words row_of
same_row words c d one two =
    ap (λ (w : List (List ℕ)). row_from (parameters_at (get_or w 1 [])) (get_or w 0 []) (state_at (get_or w 1 []))) (sym one ∙ two)

module _ (records : List KeptRecord) (count start : ℕ) (small : count ≤ 256) where
  -- the row is that of a run over the constraint
  abbrev pub RunningOver : Constraint → Row → ℕ → Type 0
  RunningOver c r size =
      (steps : List Step) (run : RunOf steps records count) (accepted : Accepted (c ∷ [])) → start < count
      → Running c (sound_of c accepted) steps run.taken records run.kept (few_of steps records count run small) start size r

  -- so for each constraint of the words with which the run began
  pub record RunningTo (entry : List (List ℕ)) (r : Row) (size place : ℕ) : Type 0 where
    pub placed : place ≡ start + size
    pub running : (c : Constraint) → BeginAs entry c → RunningOver c r size

  -- such a row lies in the words
  pub record Lies (entry words : List (List ℕ)) (size place : ℕ) : Type 0 where
    pub row : Row
    pub before : RowUndo
    pub lies : words ≡ words_of_row row before
    pub to : RunningTo entry row size place

  pub to_start : (c : Constraint) (words : List (List ℕ)) → BeginAs words c → Lies words words 0 start
  to_start c words is =
      record {
        row = row_of c;
        before = no_row_undo;
        lies = is;
        to = record {
          placed = omega arith;
          running = λ d e steps run accepted h.
              subst (λ (r : Row). Running d (sound_of d accepted) steps run.taken records run.kept
              (few_of steps records count run small) start 0 r)
              (sym (same_row words c d is e))
              (run_start d (sound_of d accepted) steps run.taken records run.kept (few_of steps records count run small) start
              (omega (arith, run.counted, h)));
        };
      }

  module _ (entry : List (List ℕ)) (r : Row) (size place : ℕ) (to : RunningTo entry r size place) where
    pub to_end : count ≤ place → (c : Constraint) → BeginAs entry c → NeedsFrom c records count start 257
    to_end end c e steps run accepted h =
        run_end c (sound_of c accepted) steps run.taken records run.kept (few_of steps records count run small) start size r
        (to.running c e steps run accepted h) (omega (arith, end, to.placed, run.counted))

    -- a step of the row
    module _ (more : place < count) where
      abbrev o : StepInput
      o = seen_at records place

      there : (steps : List Step) → RunOf steps records count → start + size < length steps
      there steps run = omega (arith, more, to.placed, run.counted)

      here : row_step r (seen_at records (start + size)) (size + 1) ≡ row_step r o (size + 1)
      here = ap (λ (i : ℕ). row_step r (seen_at records i) (size + 1)) (sym to.placed)

      -- at most 64 wait in a row of a run, so the question for 64 is answered as its step would
      crowd_is : (c : Constraint) (sound : Sound c) (steps : List Step) → Fits c (every_type_exact c sound) steps r → r.now.broken ≡ 0
          → (row_step r (seen_at records (start + size)) (size + 1)).crowded ≡ crowded_by r.parameters r.now o
      crowd_is c sound steps f unbroken =
          ap (λ (s : RowStep). s.crowded) here ∙ step_crowds r o (size + 1)
          ∙ sym (crowded_known r o (⊎_elim (λ (g : Going c (every_type_exact c sound) steps r.times r.now). g.room)
          (λ b. absurd (omega (arith, b.counted, unbroken))) f.state))

      pub to_crowded : crowded_by r.parameters r.now o ≡ true → (c : Constraint) → BeginAs entry c
          → NeedsFrom c records count start 257
      to_crowded crowded c e steps run accepted h =
          let running = to.running c e steps run accepted h in
          run_crowded c (sound_of c accepted) steps run.taken records run.kept (few_of steps records count run small) start size r
          running (there steps run) (crowd_is c (sound_of c accepted) _ running.fits running.unbroken ∙ crowded)

      module _ (calm : crowded_by r.parameters r.now o ≡ false) where
        stepped_is : (row_step r (seen_at records (start + size)) (size + 1)).crowded ≡ false
            → (row_step r (seen_at records (start + size)) (size + 1)).row ≡ stepped_row o (size + 1) r
        stepped_is e = ap (λ (s : RowStep). s.row) (here ∙ step_by r o (size + 1) false (ap (λ (s : RowStep). s.crowded) (sym here) ∙ e))

        pub to_broken : 0 < (stepped_row o (size + 1) r).now.broken → (c : Constraint) → BeginAs entry c
            → NeedsFrom c records count start (size + 1)
        to_broken broken c e steps run accepted h =
            let running = to.running c e steps run accepted h in
            let quiet = crowd_is c (sound_of c accepted) _ running.fits running.unbroken ∙ calm in
            run_broken c (sound_of c accepted) steps run.taken records run.kept (few_of steps records count run small) start size r
            running (there steps run) quiet (subst (λ (x : Row). 0 < x.now.broken) (sym (stepped_is quiet)) broken)

        pub to_next : (stepped_row o (size + 1) r).now.broken ≤ 0 → RunningTo entry (stepped_row o (size + 1) r) (size + 1) (place + 1)
        to_next unbroken =
            record {
              placed = omega (arith, to.placed);
              running = λ c e steps run accepted h.
                  let running = to.running c e steps run accepted h in
                  let quiet = crowd_is c (sound_of c accepted) _ running.fits running.unbroken ∙ calm in
                  let one_more : suc size ≡ size + 1 = omega arith in
                  subst (λ (n : ℕ). Running c (sound_of c accepted) steps run.taken records run.kept
                  (few_of steps records count run small) start n (stepped_row o (size + 1) r)) one_more
                  (subst (λ (x : Row). Running c (sound_of c accepted) steps run.taken records run.kept
                  (few_of steps records count run small) start (suc size) x) (stepped_is quiet)
                  (run_on c (sound_of c accepted) steps run.taken records run.kept
                  (few_of steps records count run small) start size r
                  running (there steps run) quiet (subst (λ (x : Row). x.now.broken ≡ 0) (sym (stepped_is quiet)) (omega (arith, unbroken)))));
            }

-- ---- each start

module _ (c : Constraint) (records : List KeptRecord) (count : ℕ) where
  -- the numbers of the first starts
  pub record NeedsTo (need : List ℕ) (start : ℕ) : Type 0 where
    pub whole : length need ≡ 256
    pub each : (i : ℕ) → i < start → NeedsFrom c records count i (at need i)

  pub needs_start : (need : List ℕ) → length need ≡ 256 → NeedsTo need 0
  needs_start need whole = record { whole = whole; each = λ i h. absurd (omega (arith, h)) }

  pub needs_more : (need : List ℕ) (start n : ℕ) → NeedsTo need start → start < 256 → NeedsFrom c records count start n
      → NeedsTo (set need start n) (start + 1)
  needs_more need start n before small more =
      record {
        whole = length-set need start n ∙ before.whole;
        each = λ i h.
            by_cases (ℕ_discrete i start)
            (λ e. subst (λ (j : ℕ). NeedsFrom c records count j (at (set need start n) j)) (sym e)
            (subst (NeedsFrom c records count start) (sym (get_or-set_same need start n 0 (omega (arith, before.whole, small)))) more))
            (λ e. subst (NeedsFrom c records count i) (sym (get_or-set_other need start i n 0 e)) (before.each i (omega (arith, e, h))));
      }
