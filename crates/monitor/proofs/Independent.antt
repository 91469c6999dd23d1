-- Rows that are independent of each other (§3.10, §3.11), in the buyers' words: what a row reads depends only on the events of its kinds, the clock
-- and the close, so two tables that share a row may differ in all others.
use Rattle.monitor.proofs.Names.{Accepted, Answer, Beside, Call, Constraint, Delay, EachBeside, Judged, Left, List, NoneFull, OwnStream, Reads}
use Rattle.monitor.proofs.Names.{Refused, Run, Sound, Step, TakesAll, Verdict, [], ◌↔◌, ◌∙◌, ◌∷◌, ◌≡◌, after, all_taken, answers_to, ap, ap₂}
use Rattle.monitor.proofs.Names.{arith, asks, close, done, event, get_elem?, judged_but_last, judged_once, left_by, map, never, no_more}
use Rattle.monitor.proofs.Names.{none_left, others, place, questions, reads_once, refl, request, run_once, run_valid, same_event, some, subst}
use Rattle.monitor.proofs.Names.{suc, sym, take, tick, valid_none, verdict_of, zero, ℕ}
use Rattle.monitor.proofs.Beside.{beside_first, read_both, takes_first}
use Rattle.monitor.proofs.{Demand.accepted_sound, FittingRows.SoundRows, Theorem.monitor_is_exact, Theorem.row_reads}

sound_row : (rows : List Constraint) → SoundRows rows → (i : ℕ) (c : Constraint) → get_elem? rows i ≡ some c → Sound c
sound_row [] sound i c there = never (cc)
sound_row (d ∷ rows) sound zero c there = let same : d ≡ c = cc in subst Sound same sound.0
sound_row (d ∷ rows) sound (suc i) c there = sound_row rows sound.1 i c there

-- §3.10: a list of calls is an accepted one exactly when the monitor takes each call
pub takes_exactly : (rows : List Constraint) → Accepted rows → (calls : List Call)
    → (answers_to rows calls ≡ all_taken calls) ↔ ((steps : List Step) × TakesAll rows calls steps)
takes_exactly rows accepted calls =
    let played = monitor_is_exact.exact rows accepted (map asks calls) in (
      λ all. (
        played.0.steps,
        (
          played.0.may,
          subst (λ (answers : List Answer). Run rows none_left (map asks calls) answers played.0) all
              played.1,
        ),
      ),
      λ taken. (run_once rows played.1 taken.1.1).0,
    )

-- the verdict is the one that the row reads
verdict_read : (rows : List Constraint) (calls : List Call) (answers : List Answer) (left : Left) → Accepted rows
    → Run rows none_left (map asks calls) answers left
    → (i : ℕ) (c : Constraint) → get_elem? rows i ≡ some c → (v : Verdict) → Reads c left.steps v → verdict_of (after rows (map asks calls)) i
    ≡ some v
verdict_read rows calls answers left accepted run i c there v reads =
    let row = row_reads rows (map asks calls) left accepted (answers, run) i c there in
    row.1 ∙ ap some (reads_once c left.steps (run_valid run valid_none) row.0 v row.2 reads)

-- ---- two lists beside each other, over two tables that share a row

module _
    (rows rows' : List Constraint) (accepted : Accepted rows) (accepted' : Accepted rows')
    (i j : ℕ) (c : Constraint) (there : get_elem? rows i ≡ some c) (there' : get_elem? rows' j ≡ some c)
    (calls calls' : List Call) (steps steps' : List Step) (taken : TakesAll rows calls steps) (taken' : TakesAll rows' calls' steps')
    (beside : EachBeside c steps steps') (n : ℕ) where
  taken_n : TakesAll rows (take n calls) (take n steps)
  taken_n = takes_first rows n calls steps taken

  taken_n' : TakesAll rows' (take n calls') (take n steps')
  taken_n' = takes_first rows' n calls' steps' taken'

  -- what the row reads after place n of both
  both_read : (v : Verdict) × Reads c (take n steps) v × Reads c (take n steps') v
  both_read =
      read_both c (sound_row rows (accepted_sound rows accepted) i c there) rows rows' i j there there'
      (take n calls) (take n calls') (take n steps) (take n steps') taken_n taken_n' (beside_first c n beside)

  -- §3.10: after each place the row reads the same, by the definitions
  pub reads_alike : (v : Verdict) → Reads c (take n steps) v ↔ Reads c (take n steps') v
  reads_alike v = (
    λ reads. subst (Reads c (take n steps')) (once rows (take n calls) taken_n both_read.1 reads) both_read.2,
    λ reads. subst (Reads c (take n steps)) (once rows' (take n calls') taken_n' both_read.2 reads) both_read.1,
  )
    where
      once : (table : List Constraint) (first : List Call) {past : List Step} → TakesAll table first past
          → Reads c past both_read.0 → Reads c past v → both_read.0 ≡ v
      once table first {past} run = reads_once c past (run_valid run.1 valid_none) both_read.0 v

  -- §3.10: and by the monitors: the same verdict, with the same step
  pub rows_apart : verdict_of (after rows (map asks (take n calls))) i ≡ verdict_of (after rows' (map asks (take n calls'))) j
  rows_apart =
      let (v, reads, reads') = both_read in
      verdict_read rows (take n calls) (all_taken (take n calls)) (record { steps = take n steps; may = taken_n.0 }) accepted
      taken_n.1 i c there v reads
      ∙ sym (verdict_read rows' (take n calls') (all_taken (take n calls')) (record { steps = take n steps'; may = taken_n'.0 }) accepted'
      taken_n'.1 j c there' v reads')

-- ---- one list of calls, over two tables

-- but for question 12 a call's questions do not ask about rows
same_answer : (rows rows' : List Constraint) (past : List Step) (s : Call) (a a' : Answer)
    → Judged (questions rows past s) a → Judged (questions rows' past s) a' → ¬ (a ≡ Refused 12) → ¬ (a' ≡ Refused 12) → a ≡ a'
unfolding questions
same_answer rows rows' past (Call.Event k t) a a' judged judged' free free' =
    judged_but_last (questions rows past (Call.Event k t)) (questions rows' past (Call.Event k t)) refl a a' judged judged' free free'
same_answer rows rows' past (Call.ColouredEvent k colour t) a a' judged judged' free free' =
    judged_but_last (questions rows past (Call.ColouredEvent k colour t))
    (questions rows' past (Call.ColouredEvent k colour t)) refl a a' judged judged'
    free free'
same_answer rows rows' past (Call.Tick t) a a' judged judged' free free' =
    judged_but_last (questions rows past (Call.Tick t)) (questions rows' past (Call.Tick t)) refl a a' judged judged' free free'
same_answer rows rows' past Call.Close a a' judged judged' free free' = judged_once _ a a' judged judged'

same_runs : (rows rows' : List Constraint) (calls : List Call) {left end end' : Left} {answers answers' : List Answer}
    → Run rows left (map asks calls) answers end → Run rows' left (map asks calls) answers' end' → NoneFull answers → NoneFull answers'
    → (answers ≡ answers') × (end ≡ end')
same_runs rows rows' [] done done free free' = (refl, refl)
same_runs rows rows' (s ∷ calls) (request {left = left} {end = end} {answers = answers} _ a judged run)
    (request {end = end'} {answers = answers'} _ a' judged' run') (free, later) (free', later') =
    let same : a ≡ a' = same_answer rows rows' left.steps s a a' judged judged' free free' in
    let run'' : Run rows' (left_by left (asks s) a) (map asks calls) answers' end' =
    subst (λ x. Run rows' (left_by left (asks s) x) (map asks calls) answers' end') (sym same) run' in
    let rest : (answers ≡ answers') × (end ≡ end') = same_runs rows rows' calls run run'' later later' in
    (ap₂ (λ (x : Answer) (l : List Answer). x ∷ l) same rest.0, rest.1)

-- the first n calls, and the answers to them
run_front : (rows : List Constraint) (n : ℕ) (calls : List Call) {left end : Left} {answers : List Answer}
    → Run rows left (map asks calls) answers end → (mid : Left) × Run rows left (map asks (take n calls)) (take n answers) mid
run_front rows zero calls {left = left} run = (left, done)
run_front rows (suc n) [] (done {left = left}) = (left, done)
run_front rows (suc n) (s ∷ calls) (request _ a judged run) = let rest = run_front rows n calls run in (rest.0, request (asks s) a judged rest.1)

-- §3.11: a list of calls that are all taken is one of these
pub free_taken : (calls : List Call) → NoneFull (all_taken calls)
free_taken [] = tt
free_taken (s ∷ calls) = (λ e. never (cc), free_taken calls)

free_front : (n : ℕ) (answers : List Answer) → NoneFull answers → NoneFull (take n answers)
free_front zero answers free = tt
free_front (suc n) [] free = tt
free_front (suc n) (a ∷ answers) (free, later) = (free, free_front n answers later)

module _
    (rows rows' : List Constraint) (accepted : Accepted rows) (accepted' : Accepted rows') (calls : List Call)
    (free : NoneFull (answers_to rows calls)) (free' : NoneFull (answers_to rows' calls)) where
  run : (left : Left) × Run rows none_left (map asks calls) (answers_to rows calls) left
  run = let played = monitor_is_exact.exact rows accepted (map asks calls) in (played.0, played.1)

  run' : (left : Left) × Run rows' none_left (map asks calls) (answers_to rows' calls) left
  run' = let played = monitor_is_exact.exact rows' accepted' (map asks calls) in (played.0, played.1)

  -- §3.11: where neither table refuses a call for a row's 64, both answer every call alike
  pub answers_alike : answers_to rows calls ≡ answers_to rows' calls
  answers_alike = (same_runs rows rows' calls run.1 run'.1 free free').0

  -- §3.11: and then adding rows, or taking some away, changes no verdict of the others
  pub other_rows_alike : (i j : ℕ) (c : Constraint) → get_elem? rows i ≡ some c → get_elem? rows' j ≡ some c
      → (n : ℕ) → verdict_of (after rows (map asks (take n calls))) i ≡ verdict_of (after rows' (map asks (take n calls))) j
  other_rows_alike i j c there there' n =
      let front = run_front rows n calls run.1 in
      let front' = run_front rows' n calls run'.1 in
      let free_n = free_front n (answers_to rows calls) free in
      let free_n' = free_front n (answers_to rows' calls) free' in
      let same = (same_runs rows rows' (take n calls) front.1 front'.1 free_n free_n').1 in
      let row = row_reads rows (map asks (take n calls)) front.0 accepted (take n (answers_to rows calls), front.1) i c there in
      let reads = subst (λ (x : Left). Reads c x.steps row.0) same row.2 in
      row.1 ∙ sym (verdict_read rows' (take n calls) (take n (answers_to rows' calls)) front'.0 accepted' front'.1 j c there' row.0 reads)

-- ---- lists can stand beside each other, and need not

-- §3.10: for Delay 0→1, 2 to 3: 0@10 and a tick to 14, beside 0@10 and 7@14
pub beside_met : EachBeside (Delay 0 1 2 3) (event 0 10 ∷ tick 14 ∷ []) (event 0 10 ∷ event 7 14 ∷ [])
beside_met = place (same_event 0 10 (0, omega arith, refl)) (place (others 14 {b = event 7 14} refl (not_own, refl)) no_more)
  where
    not_own : ¬ OwnStream (Delay 0 1 2 3) 7
    not_own (zero, there, e) = omega arith
    not_own (suc zero, there, e) = omega arith
    not_own (suc (suc i), there, e) = omega arith

-- §3.10: ticks to two times are not beside each other, nor is a tick beside an event of the row's streams, nor the close beside a tick
pub clock_missed : (c : Constraint) (t u : ℕ) → ¬ (t ≡ u) → ¬ Beside c (tick t) (tick u)
clock_missed c t u apart (others v p q) = apart (p ∙ sym q)

-- §3.10
pub event_missed : (c : Constraint) (k t u : ℕ) → OwnStream c k → ¬ Beside c (event k t) (tick u)
event_missed c k t u own (others v p q) = p.0 own

-- §3.10
pub close_missed : (c : Constraint) (t : ℕ) → ¬ Beside c close (tick t)
close_missed c t (others u p q) = p
