-- A later start has an earlier clock and fewer times, so a record that was taken in its place is in order behind a later start too: only
-- 12 can refuse it there.
use Rattle.constraint.proofs.History.{Valid, clock_append, clock_later, times_append, valid_more, valid_none}
use Rattle.constraint.proofs.Library.{List, List·getD-append, [], ◌++◌, ◌+◌, ◌<◌, ◌∙◌, ◌∷◌, ◌≡◌, ◌≤◌, ap, arith, by_cases, dec_lt, drop, false}
use Rattle.constraint.proofs.Library.{get_or}
use Rattle.constraint.proofs.Library.{get_or_at, get_or-drop, length, length-append, length-drop, subst, suc, sym, take, take-add, take-append-le}
use Rattle.constraint.proofs.Library.{take_at, take-suc, ℕ}
use Rattle.constraint.proofs.{Judged.judged_all, Judged.judged_none, Judged.judged_yes, Lists.Each, Lists.each_right, Runs.accepts_taken}
use Rattle.constraint.specs.Recording.{ReadsInOrder, ReadsRecords, call_at, no_more, record_taken, record_questions, recording_of, version_taken}
use Rattle.constraint.specs.Run.{Room, event_questions, questions, step_for}
use Rattle.constraint.specs.Steps.{Step, clock, clock_from, close, closed, event, tick, times}
use Rattle.constraint.specs.{Continuation.EventInOrder, Limits.last_count, Questions.Judged, Stretches.TakesEach, Stretches.takes_more}
use Rattle.constraint.specs.{Stretches.takes_none, Answer.Taken, declared.Call.Call, Constraint.Constraint}

-- ---- records that are taken

pub takes_valid : {rows : List Constraint} {steps : List Step} → TakesEach rows steps → Valid steps
takes_valid takes_none = valid_none
takes_valid {rows = rows} (takes_more {records = records} s before judged) =
    valid_more (step_for s) (takes_valid before) (accepts_taken rows records s judged)

-- each was taken as a call over those before it
pub record CallAt (rows : List Constraint) (steps : List Step) (i : ℕ) : Type 0 where
  pub s : Call
  pub is : get_or steps i close ≡ step_for s
  pub judged : Judged (questions rows (take i steps) s) Taken

pub takes_at : {rows : List Constraint} {steps : List Step} → TakesEach rows steps → (i : ℕ) → i < length steps → CallAt rows steps i
takes_at takes_none i h = absurd (omega (arith, h))
takes_at {rows = rows} (takes_more {records = records} s before judged) i h =
    by_cases (dec_lt i (length records))
    (λ earlier. let was = takes_at before i earlier in
    record {
      s = was.s;
      is = List·getD-append records (step_for s ∷ []) close i earlier ∙ was.is;
      judged = subst (λ (l : List Step). Judged (questions rows l was.s) Taken) (sym (take-append-le i records (step_for s ∷ []) (omega arith)))
          was.judged;
    })
    (λ late. let last : length records ≡ i = omega (arith, h, length-append records (step_for s ∷ []), late) in
    record {
      s = s;
      is = get_or_at records (step_for s) [] close i last;
      judged = subst (λ (l : List Step). Judged (questions rows l s) Taken) (sym (take_at records (step_for s ∷ []) i last)) judged;
    })

-- those of a recording are taken over no rows
reads_taken : (bytes : List ℕ) (before steps : List Step) (place : ℕ) → TakesEach [] before → ReadsRecords [] bytes before place (recording_of steps)
    → TakesEach [] steps
unfolding record_questions
reads_taken bytes before steps place taken (no_more end) = taken
reads_taken bytes before steps place taken (record_taken there judged rest) =
    reads_taken bytes _ steps _ (takes_more (call_at bytes place) taken (judged_all 14 _ _ judged).1) rest

pub recording_taken : (bytes : List ℕ) (steps : List Step) → ReadsInOrder bytes (recording_of steps) → TakesEach [] steps
recording_taken bytes steps (version_taken known reads) = reads_taken bytes [] steps 1 takes_none reads

-- ---- a call behind a later start

module _ (front part : List Step) where
  closed_part : (front : List Step) → closed (front ++ part) ≡ false → closed part ≡ false
  unfolding closed
  closed_part [] e = e
  closed_part (event k t ∷ front) e = closed_part front e
  closed_part (tick t ∷ front) e = closed_part front e
  closed_part (close ∷ front) e = absurd (let z : ◌≡◌ {A = ℕ} 0 1 = cc in omega arith)

  count_part : length (front ++ part) < last_count → length part < last_count
  count_part h = omega (arith, h, length-append front part)

  clock_part : clock part ≤ clock (front ++ part)
  clock_part = rw (clock_append 0 front part) (clock_later 0 (clock_from 0 front) part (omega arith))

  order_part : (k t : ℕ) → EventInOrder (front ++ part) k t → EventInOrder part k t
  order_part k t order = (
    omega (arith, clock_part, order.0),
    each_right (λ u. u < t) (times k front) (times k part) (subst (Each (λ u. u < t)) (times_append k front part) order.1),
  )

  module _ (rows : List Constraint) where
    event_judged : (k t : ℕ) → Judged (event_questions [] (front ++ part) k t) Taken → Room rows (part ++ (event k t ∷ []))
        → Judged (event_questions rows part k t) Taken
    event_judged k t judged room =
        let q10 = judged_all 10 _ _ judged in
        let q11 = judged_all 11 _ _ q10.1 in
        judged_yes 10 _ _ Taken q10.0 (judged_yes 11 _ _ Taken (order_part k t q11.0) (judged_yes 12 _ _ Taken room judged_none))

    pub part_judged : (s : Call) → Judged (questions [] (front ++ part) s) Taken → Room rows (part ++ (step_for s ∷ []))
        → Judged (questions rows part s) Taken
    unfolding questions
    part_judged (Call.Event k t) judged room =
        let q8 = judged_all 8 _ _ judged in
        let q24 = judged_all 24 _ _ q8.1 in
        let q9 = judged_all 9 _ _ q24.1 in
        let q19 = judged_all 19 _ _ q9.1 in
        judged_yes 8 _ _ Taken (closed_part front q8.0)
        (judged_yes 24 _ _ Taken (count_part q24.0) (judged_yes 9 _ _ Taken q9.0
        (judged_yes 19 _ _ Taken q19.0 (event_judged k t q19.1 room))))
    part_judged (Call.ColouredEvent k colour t) judged room =
        let q8 = judged_all 8 _ _ judged in
        let q24 = judged_all 24 _ _ q8.1 in
        let q9 = judged_all 9 _ _ q24.1 in
        let q19 = judged_all 19 _ _ q9.1 in
        judged_yes 8 _ _ Taken (closed_part front q8.0)
        (judged_yes 24 _ _ Taken (count_part q24.0) (judged_yes 9 _ _ Taken q9.0
        (judged_yes 19 _ _ Taken q19.0 (event_judged _ t q19.1 room))))
    part_judged (Call.Tick t) judged room =
        let q8 = judged_all 8 _ _ judged in
        let q24 = judged_all 24 _ _ q8.1 in
        let q10 = judged_all 10 _ _ q24.1 in
        let q11 = judged_all 11 _ _ q10.1 in
        judged_yes 8 _ _ Taken (closed_part front q8.0)
        (judged_yes 24 _ _ Taken (count_part q24.0)
        (judged_yes 10 _ _ Taken q10.0 (judged_yes 11 _ _ Taken (omega (arith, clock_part, q11.0)) (judged_yes 12 _ _ Taken room judged_none))))
    part_judged Call.Close judged room =
        let q8 = judged_all 8 _ _ judged in
        judged_yes 8 _ _ Taken (closed_part front q8.0) (judged_yes 24 _ _ Taken (count_part (judged_all 24 _ _ q8.1).0) judged_none)

-- ---- the record after `size` records from a start on

module _ (steps : List Step) (taken : TakesEach [] steps) (start size : ℕ) (there : start + size < length steps) where
  abbrev part : List Step
  part = take size (drop start steps)

  -- its call
  pub next : Call
  next = (takes_at taken (start + size) there).s

  pub next_is : get_or steps (start + size) close ≡ step_for next
  unfolding next
  next_is = (takes_at taken (start + size) there).is

  pub part_next : take (suc size) (drop start steps) ≡ part ++ (step_for next ∷ [])
  part_next =
      take-suc (drop start steps) size close (omega (arith, length-drop start steps, there))
      ∙ ap (λ (s : Step). part ++ (s ∷ [])) (get_or-drop start steps size close ∙ next_is)

  pub next_judged : (rows : List Constraint) → Room rows (part ++ (step_for next ∷ [])) → Judged (questions rows part next) Taken
  unfolding next
  next_judged rows room =
      part_judged (take start steps) part rows next
      (subst (λ (l : List Step). Judged (questions [] l next) Taken) (take-add start size steps) (takes_at taken (start + size) there).judged) room

  pub takes_next : (rows : List Constraint) → TakesEach rows part → Room rows (take (suc size) (drop start steps))
      → TakesEach rows (take (suc size) (drop start steps))
  takes_next rows before room = subst (TakesEach rows) (sym part_next) (takes_more next before (next_judged rows (subst (Room rows) part_next room)))
