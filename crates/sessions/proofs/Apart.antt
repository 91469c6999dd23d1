-- §3.10, §3.11: rows are independent of each other, by the exported calls: what two hosts call is the machine's over two tables, of which it holds.
use Rattle.sessions.proofs.Names.{Accepted, Answer, BeginsUpTo, Call, Constraint, EachBeside, HoldsMonitor, Host, Left, List, Memory, Monitor}
use Rattle.sessions.proofs.Names.{NoneFull, ReadsAlike, ReadsTableUpTo, Run, Step, Taken, TakesAll, [], ◌++◌, ◌+◌, ◌∙◌, ◌∷◌, ◌≡◌, after}
use Rattle.sessions.proofs.Names.{all_taken, answer_from, answers_alike, ap, append_assoc, append-nil, ap₂, arith, asks, at, done, follows}
use Rattle.sessions.proofs.Names.{follows_fresh, fresh_holds, get_elem?, length, map, never, none_left, none_refused, other_rows_alike, play}
use Rattle.sessions.proofs.Names.{read_accepted, refl, request, rows_apart, some, step, step_for, step_in, subst, subst₂, suc, sym, table_of}
use Rattle.sessions.proofs.Names.{take_all, verdict_of, word_of, zero, ℕ}
use Rattle.sessions.proofs.LentExact.{run_by}

-- ---- calls that are all taken

all_zero : (calls : List Call) → map answer_from (none_refused calls) ≡ all_taken calls
all_zero [] = refl
all_zero (c ∷ calls) = ap (λ (l : List Answer). Taken ∷ l) (all_zero calls)

steps_of : {rows : List Constraint} (calls : List Call) {left end : Left} → Run rows left (map asks calls) (all_taken calls) end
    → end.steps ≡ left.steps ++ map step_for calls
steps_of [] (done {left = left}) = sym (append-nil left.steps)
steps_of (c ∷ calls) (request {left = left} _ _ judged rest) =
    steps_of calls rest ∙ append_assoc left.steps (step_for c ∷ []) (map step_for calls)

taken_of : {rows : List Constraint} (calls : List Call) {left : Left} → Run rows none_left (map asks calls) (all_taken calls) left
    → TakesAll rows calls (map step_for calls)
taken_of {rows} calls {left} run = (
  left.may,
  subst (λ (l : List Step). Run rows none_left (map asks calls) (all_taken calls) (record { steps = l; may = left.may })) (steps_of calls run) run,
)

-- ---- numbers

same_number : (n k : ℕ) → answer_from n ≡ answer_from k → n ≡ k
same_number zero zero e = refl
same_number zero (suc k) e = never (cc)
same_number (suc n) zero e = never (cc)
same_number (suc n) (suc k) e = cc

same_numbers : (numbers others : List ℕ) → map answer_from numbers ≡ map answer_from others → numbers ≡ others
same_numbers [] [] e = refl
same_numbers [] (k ∷ others) e = never (cc)
same_numbers (n ∷ numbers) [] e = never (cc)
same_numbers (n ∷ numbers) (k ∷ others) e =
    let first : answer_from n ≡ answer_from k = cc in
    let rest : map answer_from numbers ≡ map answer_from others = cc in
    ap₂ (λ (x : ℕ) (l : List ℕ). x ∷ l) (same_number n k first) (same_numbers numbers others rest)

-- ---- what is read of two monitors whose verdicts are the same

alike : (a b : Memory) (m m' : Monitor) → HoldsMonitor a m → HoldsMonitor b m' → (i j : ℕ) → verdict_of m i ≡ verdict_of m' j → ReadsAlike a i b j
alike a b m m' holds holds' i j same =
    record {
      words = λ word word' w w'. (w m holds).says.equals ∙ ap word_of same ∙ sym (w' m' holds').says.equals;
      steps = λ step step' s s'. (s m holds).says.equals ∙ ap step_in same ∙ sym (s' m' holds').says.equals;
    }

-- two memories in which tables were accepted that share a row
module _ {newest newest' : ℕ} (table table' : List ℕ) (before before' : Memory) {h h' : Memory} (rows rows' : List Constraint)
    (begins : BeginsUpTo newest table before 0 h) (begins' : BeginsUpTo newest' table' before' 0 h')
    (read : ReadsTableUpTo newest table (table_of rows)) (read' : ReadsTableUpTo newest' table' (table_of rows'))
    (i j : ℕ) (c : Constraint) (there : get_elem? rows i ≡ some c) (there' : get_elem? rows' j ≡ some c) where
  accepted : Accepted rows
  accepted = (at table 0, read_accepted table rows read)

  accepted' : Accepted rows'
  accepted' = (at table' 0, read_accepted table' rows' read')

  start : HoldsMonitor h (after rows [])
  start = fresh_holds table before rows h read begins

  start' : HoldsMonitor h' (after rows' [])
  start' = fresh_holds table' before' rows' h' read' begins'

  -- §3.10: two lists of calls that are all taken, beside each other at each place. Their beginnings are such lists too, so this holds after each
  -- place
  pub lent_rows_apart : (calls calls' : List Call) {end end' : Memory} → Host h (map asks calls) (none_refused calls) end
      → Host h' (map asks calls') (none_refused calls') end' → EachBeside c (map step_for calls) (map step_for calls') → ReadsAlike end i end' j
  lent_rows_apart calls calls' {end} {end'} host host' beside =
      let run = run_by rows accepted start host in
      let run' = run_by rows' accepted' start' host' in
      let taken = taken_of calls (subst (λ (l : List Answer). Run rows none_left (map asks calls) l run.0) (all_zero calls) run.1) in
      let taken' = taken_of calls' (subst (λ (l : List Answer). Run rows' none_left (map asks calls') l run'.0) (all_zero calls') run'.1) in
      let n = length calls + length calls' in
      let same = rows_apart rows rows' accepted accepted' i j c there there' calls calls' _ _ taken taken' beside n in
      alike end end' _ _ (follows_fresh rows start host) (follows_fresh rows' start' host') i j
      (subst₂ (λ (l l' : List Call). verdict_of (after rows (map asks l)) i ≡ verdict_of (after rows' (map asks l')) j)
      (take_all n calls (omega arith)) (take_all n calls' (omega arith)) same)

  -- §3.11: one list of calls, in which no call is refused with 12 under either table
  pub lent_other_rows_alike : (calls : List Call) {numbers numbers' : List ℕ} {end end' : Memory} → Host h (map asks calls) numbers end
      → Host h' (map asks calls) numbers' end' → NoneFull (map answer_from numbers) → NoneFull (map answer_from numbers')
      → (numbers ≡ numbers') × ReadsAlike end i end' j
  unfolding after play
  lent_other_rows_alike calls {numbers} {numbers'} {end} {end'} host host' free free' =
      let said = (follows (after rows []) start host).answers_are in
      let said' = (follows (after rows' []) start' host').answers_are in
      let few = subst NoneFull said free in
      let few' = subst NoneFull said' free' in
      let n = length calls in
      let same = other_rows_alike rows rows' accepted accepted' calls few few' i j c there there' n in (
        same_numbers numbers numbers' (said ∙ answers_alike rows rows' accepted accepted' calls few few' ∙ sym said'),
        alike end end' _ _ (follows_fresh rows start host) (follows_fresh rows' start' host') i j
            (subst (λ (l : List Call). verdict_of (after rows (map asks l)) i ≡ verdict_of (after rows' (map asks l)) j)
            (take_all n calls (omega arith)) same),
      )
