-- What longer clocks leave as they found it. The rows' fields have a wider range, so a table that was accepted is. With `next_free` of a stream
-- one more than its last time, each event raises the sum of all 176 by one at least, each tick raises the clock, and the close comes once: so up
-- to the earlier last time the count fits by itself, and calls and withdrawals none of which was answered 10 have the answers that they had.
use Rattle.constraint.proofs.Names.{Accepted, Answer, Bool, Call, Constraint, EventInOrder, EachField, Field, FieldInRange, InRange, Judged}
use Rattle.constraint.proofs.Names.{KindsFit}
use Rattle.constraint.proofs.Names.{KindsSuit, Left, List, LowerFirst, Question, Refused, Request, Room, Run, Step, Taken, TypeKnown, [], ◌*◌}
use Rattle.constraint.proofs.Names.{◌++◌, ◌+◌}
use Rattle.constraint.proofs.Names.{◌-◌, ◌<◌, ◌^◌, ◌∙◌, ◌∷◌, ◌≡◌, ◌≤◌, ◌⊎◌, ap, ap₂, arith, asks, by_cases, byte, clock, clock_from, close}
use Rattle.constraint.proofs.Names.{closed, cond, count_of, done, event, false, fields_of, first_coloured, inl, inr, kinds}
use Rattle.constraint.proofs.Names.{last_colour, last_count, last_kind, last_time, left as leftTime, left_by, length, length-append, lower, no_limit}
use Rattle.constraint.proofs.Names.{none_left, offset, plain, questions, refl, request, request_questions, right, row_limit, rows_questions}
use Rattle.constraint.proofs.Names.{step_for}
use Rattle.constraint.proofs.Names.{stream, subst, suc, tick, time, times, true, type_of, upper, upper_or_none, withdraws, zero, ℕ, ℕ_discrete}
use Rattle.constraint.proofs.Names.{⊎_elim}
use Rattle.constraint.proofs.History.{Accepts, Past, Valid, clock_close, clock_event, clock_tick, closed_close, closed_event, closed_tick}
use Rattle.constraint.proofs.History.{past_of, times_close, times_other, times_own, times_tick, valid_more, valid_none}
use Rattle.constraint.proofs.Judged.{judged_all, judged_yes, put_in, widened}
use Rattle.constraint.proofs.{Counting.next_least, Counting.next_snoc, Counting.next_free, Lists.Each, Runs.accepts_taken, Runs.valid_less}
use Rattle.constraint.proofs.{Withdrawals.but_last_lem, Withdrawals.but_last}

-- §1.11: the last time before clocks were longer
abbrev pub last_time_before : ℕ
last_time_before = 2 ^ 56 - 1

earlier : (t : ℕ) → t ≤ last_time_before → t ≤ last_time
earlier t h = omega arith

-- ---- tables

-- the range of a field then
abbrev pub FieldInRangeBefore : Field → Type 0
FieldInRangeBefore (byte role x) = FieldInRange (byte role x)
FieldInRangeBefore (time (plain what) x) = x ≤ last_time_before
FieldInRangeBefore (time lower x) = x ≤ last_time_before
FieldInRangeBefore (time upper x) = x ≤ last_time_before
FieldInRangeBefore (time upper_or_none x) = (x ≤ last_time_before) ⊎ (x ≡ no_limit)
FieldInRangeBefore (time offset x) = x ≤ last_time_before
FieldInRangeBefore (time leftTime x) = x ≤ last_time_before
FieldInRangeBefore (time right x) = x ≤ last_time_before

field_still : (f : Field) → FieldInRangeBefore f → FieldInRange f
field_still (byte role x) h = h
field_still (time (plain what) x) h = omega arith
field_still (time lower x) h = omega arith
field_still (time upper x) h = omega arith
field_still (time upper_or_none x) h = ⊎_elim (λ small. inl (omega arith)) inr h
field_still (time offset x) h = omega arith
field_still (time leftTime x) h = omega arith
field_still (time right x) h = omega arith

range_still : (fields : List Field) → EachField FieldInRangeBefore fields → EachField FieldInRange fields
range_still [] h = tt
range_still (f ∷ fields) h = (field_still f h.0, range_still fields h.1)

-- the questions of a table's rows then
abbrev pub rows_questions_before : ℕ → List Constraint → List Question
rows_questions_before i [] = []
rows_questions_before i (c ∷ rows) =
    (3, i < row_limit) ∷ (4, TypeKnown 1 (type_of c) (count_of c)) ∷ (5, KindsFit (kinds c)) ∷ (18, KindsSuit c)
    ∷ (6, EachField FieldInRangeBefore (fields_of c)) ∷ (7, LowerFirst c) ∷ rows_questions_before (i + 1) rows

rows_still : (i : ℕ) (rows : List Constraint) → Judged (rows_questions_before i rows) Taken → Judged (rows_questions 1 i rows []) Taken
unfolding rows_questions InRange
rows_still i [] judged = judged
rows_still i (c ∷ rows) judged =
    let room = judged_all 3 _ _ judged in
    let known = judged_all 4 _ _ room.1 in
    let fit = judged_all 5 _ _ known.1 in
    let suit = judged_all 18 _ _ fit.1 in
    let range = judged_all 6 _ _ suit.1 in
    let first = judged_all 7 _ _ range.1 in
    judged_yes 3 _ _ Taken room.0 (judged_yes 4 _ _ Taken known.0 (judged_yes 5 _ _ Taken fit.0 (judged_yes 18 _ _ Taken suit.0
    (judged_yes 6 _ _ Taken (range_still (fields_of c) range.0) (judged_yes 7 _ _ Taken first.0 (rows_still (i + 1) rows first.1))))))

-- §1.11: a table that was accepted is accepted; its bytes (§4.3) name no last time
pub accepted_still : (rows : List Constraint) → Judged (rows_questions_before 0 rows) Taken → Accepted rows
accepted_still rows judged = (1, rows_still 0 rows judged)

-- ---- the sum over the first n streams

total : ℕ → List Step → ℕ
total zero steps = 0
total (suc n) steps = total n steps + next_free (times n steps)

total_same : (n : ℕ) (a b : List Step) → ((k : ℕ) → k < n → times k a ≡ times k b) → total n a ≡ total n b
unfolding total
total_same zero a b same = refl
total_same (suc n) a b same = ap₂ ◌+◌ (total_same n a b (λ k h. same k (omega arith))) (ap next_free (same n (omega arith)))

total_event : (n k t : ℕ) (steps : List Step) → k < n → EventInOrder steps k t → total n steps < total n (steps ++ (event k t ∷ []))
unfolding total
total_event zero k t steps h order = absurd (omega arith)
total_event (suc n) k t steps h order =
    by_cases (ℕ_discrete k n)
    (λ e. let others : total n (steps ++ (event k t ∷ [])) ≡ total n steps =
    total_same n (steps ++ (event k t ∷ [])) steps (λ j g. times_other j k t steps (λ f. omega arith)) in
    let own : next_free (times n (steps ++ (event k t ∷ []))) ≡ suc t =
    ap next_free (subst (λ (j : ℕ). times j (steps ++ (event k t ∷ [])) ≡ times j steps ++ (t ∷ [])) e (times_own k t steps))
    ∙ next_snoc (times n steps) t (subst (λ (j : ℕ). Each (λ s. s < t) (times j steps)) e order.1) in
    let before : next_free (times n steps) ≤ t = next_least (times n steps) t (subst (λ (j : ℕ). Each (λ s. s < t) (times j steps)) e order.1) in
    omega arith)
    (λ e. let other : next_free (times n (steps ++ (event k t ∷ []))) ≡ next_free (times n steps) = ap next_free (times_other n k t steps e) in
    let less : total n steps < total n (steps ++ (event k t ∷ [])) = total_event n k t steps (omega arith) order in
    omega arith)

total_small : (n : ℕ) (steps : List Step) → Past steps → clock steps ≤ last_time_before → total n steps ≤ n * 2 ^ 56
unfolding total
total_small zero steps p small = omega arith
total_small (suc n) steps p small =
    omega (arith, total_small n steps p small, next_least (times n steps) (suc (clock steps)) (λ i h. omega (arith, p.past n i h)))

-- ---- the count

-- one for a close
closings : List Step → ℕ
closings steps = cond (closed steps) 1 0

count_step : (s : Step) (steps : List Step) → Accepts steps s → length steps ≤ total 176 steps + clock steps + closings steps
    → length steps + 1 ≤ total 176 (steps ++ (s ∷ [])) + clock (steps ++ (s ∷ [])) + closings (steps ++ (s ∷ []))
unfolding closings
count_step (event k t) steps a h =
    rw (clock_event k t steps, closed_event k t steps) (omega
    (arith, total_event 176 k t steps (omega (arith, a.stream_small)) a.in_order, a.in_order.0))
count_step (tick t) steps a h =
    rw (clock_tick t steps, closed_tick t steps, total_same 176 (steps ++ (tick t ∷ [])) steps (λ k g. times_tick k t steps))
    (omega (arith, a.later))
count_step close steps a h =
    rw (clock_close steps, closed_close steps, total_same 176 (steps ++ (close ∷ [])) steps (λ k g. times_close k steps))
    (omega (arith, rw a.not_closed at h))

count_bound : {steps : List Step} → Valid steps → length steps ≤ total 176 steps + clock steps + closings steps
count_bound valid_none = omega arith
count_bound (valid_more {steps = steps} s v a) = omega (arith, length-append steps (s ∷ []), count_step s steps a (count_bound v))

cond_small : (b : Bool) → cond b 1 0 ≤ 1
cond_small true = omega arith
cond_small false = omega arith

-- up to the earlier last time the count fits by itself
pub count_before : {steps : List Step} → Valid steps → clock steps ≤ last_time_before → length steps < last_count
unfolding closings
count_before {steps} v small = omega (arith, count_bound v, total_small 176 steps (past_of v) small, cond_small (closed steps))

-- ---- calls

-- the questions of an event of a stream then, after 8, 9 and 19; and those of a call
abbrev pub event_questions_then : List Constraint → List Step → ℕ → ℕ → List Question
event_questions_then rows steps s t = (10, t ≤ last_time_before) ∷ (11, EventInOrder steps s t) ∷ (12, Room rows (steps ++ (event s t ∷ []))) ∷ []

abbrev pub questions_before : List Constraint → List Step → Call → List Question
questions_before rows steps (Call.Event k t) =
    (8, closed steps ≡ false) ∷ (9, k ≤ last_kind) ∷ (19, k < first_coloured) ∷ event_questions_then rows steps k t
questions_before rows steps (Call.ColouredEvent k c t) =
    (8, closed steps ≡ false) ∷ (9, k ≤ last_kind) ∷ (19, (first_coloured ≤ k) × (c ≤ last_colour)) ∷ event_questions_then rows steps (stream k c) t
questions_before rows steps (Call.Tick t) =
    (8, closed steps ≡ false) ∷ (10, t ≤ last_time_before) ∷ (11, clock steps < t) ∷ (12, Room rows (steps ++ (tick t ∷ []))) ∷ []
questions_before rows steps Call.Close = (8, closed steps ≡ false) ∷ []

-- and those of a request: a withdrawal was asked what it is asked now
abbrev pub request_questions_before : List Constraint → Left → Request → List Question
request_questions_before rows left (asks call) = questions_before rows left.steps call
request_questions_before rows left withdraws = request_questions rows left withdraws

-- the requests one after the other then
pub data RunBefore (rows : List Constraint) : Left → List Request → List Answer → Left → Type 0 where
  done_before : {left : Left} → RunBefore rows left [] [] left
  request_before : {left end : Left} {requests : List Request} {answers : List Answer} (r : Request) (a : Answer)
      → Judged (request_questions_before rows left r) a → RunBefore rows (left_by left r a) requests answers end
      → RunBefore rows left (r ∷ requests) (a ∷ answers) end

-- none of the answers is 10
abbrev pub NoneTooLate : List Answer → Type 0
NoneTooLate [] = Unit {0}
NoneTooLate (a ∷ answers) = ¬ (a ≡ Refused 10) × NoneTooLate answers

module _ (rows : List Constraint) (steps : List Step) where
  -- 10 asks less, and 24 is answered "yes"
  same_answer : (a : Answer) → ¬ (a ≡ Refused 10) → length steps < last_count → (s : Call) → Judged (questions_before rows steps s) a
      → Judged (questions rows steps s) a
  unfolding questions
  same_answer a other counted (Call.Event k t) judged =
      put_in ((8, closed steps ≡ false) ∷ []) _ 24 _ counted a
      (widened ((8, closed steps ≡ false) ∷ (9, k ≤ last_kind) ∷ (19, k < first_coloured) ∷ []) _ 10 _ _
      (λ (h : t ≤ last_time_before). earlier t h) a other judged)
  same_answer a other counted (Call.ColouredEvent k c t) judged =
      put_in ((8, closed steps ≡ false) ∷ []) _ 24 _ counted a
      (widened ((8, closed steps ≡ false) ∷ (9, k ≤ last_kind) ∷ (19, (first_coloured ≤ k) × (c ≤ last_colour)) ∷ []) _ 10 _ _
      (λ (h : t ≤ last_time_before). earlier t h) a other judged)
  same_answer a other counted (Call.Tick t) judged =
      put_in ((8, closed steps ≡ false) ∷ []) _ 24 _ counted a
      (widened ((8, closed steps ≡ false) ∷ []) _ 10 _ _ (λ (h : t ≤ last_time_before). earlier t h) a other judged)
  same_answer a other counted Call.Close judged = put_in ((8, closed steps ≡ false) ∷ []) [] 24 _ counted a judged

  -- a call that was taken leaves the clock in the earlier range
  event_small : (s t : ℕ) → Judged (event_questions_then rows steps s t) Taken → clock (steps ++ (event s t ∷ [])) ≤ last_time_before
  event_small s t judged = rw (clock_event s t steps) (judged_all 10 _ _ judged).0

  clock_small : (s : Call) → Judged (questions_before rows steps s) Taken → clock steps ≤ last_time_before
      → clock (steps ++ (step_for s ∷ [])) ≤ last_time_before
  clock_small (Call.Event k t) judged h = event_small k t (judged_all 19 _ _ (judged_all 9 _ _ (judged_all 8 _ _ judged).1).1).1
  clock_small (Call.ColouredEvent k c t) judged h = event_small (stream k c) t
      (judged_all 19 _ _ (judged_all 9 _ _ (judged_all 8 _ _ judged).1).1).1
  clock_small (Call.Tick t) judged h = rw (clock_tick t steps) (judged_all 10 _ _ (judged_all 8 _ _ judged).1).0
  clock_small Call.Close judged h = rw (clock_close steps) h

-- without its last step a list is no further than it was
clock_less : {steps : List Step} → Valid steps → clock (but_last steps) ≤ clock steps
unfolding clock_from
clock_less valid_none = omega arith
clock_less (valid_more {steps = steps} s v a) = rw (but_last_lem steps s) (last_later s steps a)
  where
    last_later : (s : Step) (steps : List Step) → Accepts steps s → clock steps ≤ clock (steps ++ (s ∷ []))
    last_later (event k t) steps a = omega (arith, clock_event k t steps, a.in_order.0)
    last_later (tick t) steps a = omega (arith, clock_tick t steps, a.later)
    last_later close steps a = omega (arith, clock_close steps)

-- requests none of which was answered 10 have the answers that they had, and leave the same steps, over which a row reads what it read (§2.4 to §2.6)
run_from : {rows : List Constraint} {left end : Left} {requests : List Request} {answers : List Answer} → RunBefore rows left requests answers end
    → NoneTooLate answers → Valid left.steps → clock left.steps ≤ last_time_before → Run rows left requests answers end
run_from done_before none v small = done
run_from {rows = rows} (request_before {left = left} (asks s) Taken judged rest) none v small =
    let now_taken = same_answer rows left.steps Taken none.0 (count_before v small) s judged in
    request (asks s) Taken now_taken
    (run_from rest none.1 (valid_more (step_for s) v (accepts_taken rows left.steps s now_taken))
    (clock_small rows left.steps s judged small))
run_from {rows = rows} (request_before {left = left} (asks s) (Refused n) judged rest) none v small =
    request (asks s) (Refused n) (same_answer rows left.steps (Refused n) none.0 (count_before v small) s judged)
    (run_from rest none.1 v small)
run_from (request_before withdraws Taken judged rest) none v small =
    request withdraws Taken judged (run_from rest none.1 (valid_less v) (omega (arith, clock_less v, small)))
run_from (request_before withdraws (Refused n) judged rest) none v small = request withdraws (Refused n) judged (run_from rest none.1 v small)

-- §1.11: a list of calls and withdrawals none of which was refused with 10 has the answers that it had, and leaves the same steps
pub run_still : {rows : List Constraint} {end : Left} {requests : List Request} {answers : List Answer}
    → RunBefore rows none_left requests answers end
    → NoneTooLate answers → Run rows none_left requests answers end
unfolding clock_from
run_still before none = run_from before none valid_none (omega arith)
