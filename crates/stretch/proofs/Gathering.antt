-- A recording's records go to the arrays one by one, as long as there is room, and a record's stream and time say what it is.
use Rattle.clock.proofs.Laws.{ReadUpTo, up_to_end, up_to_more, up_to_refused, up_to_start}
use Rattle.clock.specs.{Clock.After, Clock.RefusesRecord, Clock.TakesRecord, declared.Clock.Clock}
use Rattle.recording.specs.declared.CallRead.{CallRead}
use Rattle.constraint.proofs.Library.{List, List·getD-append, [], ◌++◌, ◌<◌, ◌∙◌, ◌∷◌, ◌≡◌, ◌≤◌, ap, arith, by_cases, cond, dec_lt, eqb, get_or_at}
use Rattle.constraint.proofs.Library.{get_or-set_other, get_or-set_same, length, length-append, length-set, min, ne_eqb, refl, set, subst, sym, ℕ}
use Rattle.constraint.proofs.Library.{ℕ_discrete}
use Rattle.constraint.proofs.{History.Accepts, Judged.judged_all, Lists.split, Runs.accepts_taken}
use Rattle.constraint.specs.Recording.{ReadsInOrder, VersionKnown, call_of, colour_in, record_questions, recording_of, recording_refused}
use Rattle.constraint.specs.{Bytes.number_at, Limits.stream_count, Questions.Judged, Run.questions, Run.step_for, Steps.Step, Steps.at, Steps.close}
use Rattle.constraint.specs.{Streams.stream, Table.body_at, Answer.Taken, declared.Call.Call}
use Rattle.questions.specs.Questions.{step_input_by}
use Rattle.stretch.specs.Machine.{KeepsRecord, Kept, no_kept, step_as, step_at}
use Rattle.stretch.specs.declared.KeptRecord.{KeptRecord}

-- ---- a record's numbers

call_as : (past : List Step) (s : Call) → Accepts past (step_for s) → (s ≡ Call.Close → ⊥) → step_for s
    ≡ step_as (step_input_by s 0).stream (step_input_by s 0).time
call_as past (Call.Event k t) accepts other = rw (ne_eqb k stream_count (λ e. omega (arith, e, accepts.stream_small)))
call_as past (Call.ColouredEvent k colour t) accepts other = rw (ne_eqb (stream k colour) stream_count (λ e. omega (arith, e, accepts.stream_small)))
call_as past (Call.Tick t) accepts other = refl
call_as past Call.Close accepts other = absurd (other refl)

-- no record is the close
never_close : (version : ℕ) (body : List ℕ) → call_of version body ≡ Call.Close → ⊥
never_close version body =
    split (eqb (length body) 9) (λ x. cond x (Call.Event (at body 0) (number_at 8 body 1)) (cond (eqb (length body) 10) coloured ticked) ≡ Call.Close
    → ⊥)
    (λ e f. let z : ◌≡◌ {A = ℕ} 0 1 = cc in omega arith)
    (λ e. split (eqb (length body) 10) (λ x. cond x coloured ticked ≡ Call.Close → ⊥)
    (λ e f. let z : ◌≡◌ {A = ℕ} 0 1 = cc in omega arith) (λ e f. let z : ◌≡◌ {A = ℕ} 0 1 = cc in omega arith))
  where
    coloured : Call
    coloured = Call.ColouredEvent (at body 0) (colour_in version (at body 1)) (number_at 8 body 2)

    ticked : Call
    ticked = Call.Tick (number_at 8 body 0)

-- ---- one record more

module _ (steps : List Step) (records : List KeptRecord) (count : ℕ) (counted : count ≡ min (length steps) 257) (kept : Kept steps records)
    (whole : length records ≡ 256) (s : Step) (one : KeptRecord) (is : s ≡ step_as one.stream one.time) where
  -- in its place, where there is room
  pub kept_room : count < 256 → Kept (steps ++ (s ∷ [])) (set records count one)
  kept_room room i h few =
      by_cases (ℕ_discrete i count)
      (λ e. let last : length steps ≡ i = omega (arith, counted, room, e) in
      get_or_at steps s [] close i last ∙ is
      ∙ subst (λ (j : ℕ). step_as one.stream one.time ≡ step_at (set records count one) j) (sym e)
      (same (sym (get_or-set_same records count one no_kept (omega (arith, whole, room))))))
      (λ e. let earlier : i < length steps = omega (arith, counted, room, e, h, length-append steps (s ∷ [])) in
      List·getD-append steps (s ∷ []) close i earlier ∙ kept i earlier few
      ∙ sym (same (get_or-set_other records count i one no_kept e)))
    where
      same : {a b : KeptRecord} → a ≡ b → step_as a.stream a.time ≡ step_as b.stream b.time
      same e = ap (λ (r : KeptRecord). step_as r.stream r.time) e

  -- nowhere, where there is none
  pub kept_full : 256 ≤ count → Kept (steps ++ (s ∷ [])) records
  kept_full full i h few =
      let earlier : i < length steps = omega (arith, counted, full, few) in
      List·getD-append steps (s ∷ []) close i earlier ∙ kept i earlier few

-- ---- the records before a place

pub record GatheredTo (bytes : List ℕ) (records : List KeptRecord) (o : Clock) (count place : ℕ) : Type 0 where
  pub steps : List Step
  pub read : ReadUpTo bytes place steps o
  pub counted : count ≡ min (length steps) 257
  pub kept : Kept steps records
  pub whole : length records ≡ 256

module _ (bytes : List ℕ) (records : List KeptRecord) where
  pub gather_start : VersionKnown bytes → (o : Clock) → After [] o → length records ≡ 256 → GatheredTo bytes records o 0 1
  gather_start known o start whole =
      record {
        steps = [];
        read = up_to_start bytes known o start;
        counted = omega arith;
        kept = λ i h few. absurd (omega (arith, h));
        whole = whole;
      }

  module _ (o : Clock) (count place : ℕ) (before : GatheredTo bytes records o count place) where
    module _ (there : place < length bytes) (later : Clock) where
      pub gather_refused : (number : ℕ) → RefusesRecord bytes place number o later → ReadsInOrder bytes (recording_refused number place)
      gather_refused number next =
          up_to_refused bytes place before.steps o before.read number there (next.refused before.steps before.read.after)

      module _ (r : CallRead) (next : TakesRecord bytes place r o later) where
        judged : Judged (record_questions [] before.steps bytes place) Taken × After (before.steps ++ (step_for r.call ∷ [])) later
        judged = next.taken before.steps before.read.after

        is : step_for r.call ≡ step_as (step_input_by r.call 0).stream (step_input_by r.call 0).time
        unfolding record_questions
        is =
            call_as before.steps r.call
            (accepts_taken [] before.steps r.call
            (subst (λ (x : Call). Judged (questions [] before.steps x) Taken) next.call_is (judged_all 14 _ _ judged.0).1))
            (λ close. never_close (at bytes 0) (body_at bytes place) (next.call_is ∙ close))

        pub gather_more : (records' : List KeptRecord) (count' : ℕ) → KeepsRecord records count (step_input_by r.call 0) records' count'
            → GatheredTo bytes records' later count' r.next
        gather_more records' count' keeps =
            record {
              steps = before.steps ++ (step_for r.call ∷ []);
              read = up_to_more bytes place before.steps o before.read r.call r.next later there next.call_is
                  next.next_is.0 judged.0 judged.1;
              counted = by_cases (dec_lt count 256)
                  (λ room. omega (arith, (keeps.room room).0, before.counted, length-append before.steps (step_for r.call ∷ [])))
                  (λ full. omega (
                    arith,
                    (keeps.full (omega (arith, full))).0,
                    before.counted,
                    length-append before.steps (step_for r.call ∷ []),
                  ));
              kept = by_cases (dec_lt count 256)
                  (λ room. subst (Kept (before.steps ++ (step_for r.call ∷ []))) (sym (keeps.room room).1)
                  (kept_room before.steps records count before.counted before.kept before.whole (step_for r.call) one is room))
                  (λ full. subst (Kept (before.steps ++ (step_for r.call ∷ []))) (sym (keeps.full (omega (arith, full))).1)
                  (kept_full before.steps records count before.counted before.kept before.whole (step_for r.call) one is (omega (arith, full))));
              whole = by_cases (dec_lt count 256)
                  (λ room. ap length (keeps.room room).1 ∙ length-set records count _ ∙ before.whole)
                  (λ full. ap length (keeps.full (omega (arith, full))).1 ∙ before.whole);
            }
          where
            one : KeptRecord
            one = record { stream = (step_input_by r.call 0).stream; time = (step_input_by r.call 0).time }

    pub gather_end : length bytes ≤ place → ReadsInOrder bytes (recording_of before.steps)
    gather_end end = up_to_end bytes place before.steps o before.read end
