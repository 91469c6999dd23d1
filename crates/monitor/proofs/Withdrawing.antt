-- §3.13 to §3.15: a call's answer and what it does to a monitor depend on everything except what may be withdrawn, and a withdrawal gives back the
-- monitor that the last step found, but for that. So after any requests the monitor is the one after the steps that are left.
use Rattle.monitor.proofs.Names.{Accepted, Answer, RowUndo, Bool, Call, Constraint, Exact, Judged, Keeps, Left, List, Monitor, StepInput}
use Rattle.monitor.proofs.Names.{Promise, Reading, ReadsRow, Refused, Remains, Request, Row, Run, SameBare, Sound, Step, Stepped, Steps, Taken}
use Rattle.monitor.proofs.Names.{TakesAll, Verdict, [], ◌++◌, ◌+◌, ◌<◌, ◌∙◌, ◌∷◌, ◌≡◌, ◌≤◌, ◌⊎◌, accepts_taken, after, all_taken, ap}
use Rattle.monitor.proofs.Names.{append-nil, ap₂, arith, asks, bare, begins_broken, both, but_last_lem, but_last, calls_keep, cond, counted_of}
use Rattle.monitor.proofs.Names.{crowds, done, eqb, eqb-false, false, free_after, get_or, inl, inr, keeps_begins, kept_without, last_count, left_by}
use Rattle.monitor.proofs.Names.{length, lt-ltb, ltb, map, map_first, monitor_of, moves_by, never, next_for, next_step, no_row_undo, none_left}
use Rattle.monitor.proofs.Names.{step_input_of, place_small, place_for, place_in, play, questions, refl, refusal_for, refuses, replicate, request}
use Rattle.monitor.proofs.Names.{request_questions, result_of, row_without_lem, row_limit, row_step, row_without, run_once, saved_by, saved_row, set}
use Rattle.monitor.proofs.Names.{set-set, some, split, step, step_for, step_of, stream_count, subst, suc, sym, taken_call, takes, true, verdict_of}
use Rattle.monitor.proofs.Names.{withdraw_of, withdrawn, withdraws, zero, zip_first, ℕ}
use Rattle.monitor.proofs.Demand.{broken_row, reads_still, start_follows, step_untouched, verdict_reads}
use Rattle.monitor.proofs.{FittingRows.FitRows, StepRefinement.Follows, StepRefinement.recorded, StepRefinement.step_answered}
use Rattle.monitor.proofs.{StepRefinement.step_is}

-- ---- what may be withdrawn does not matter to a call

-- a result by its two tests
abbrev by_tests : (b c : Bool) (n : ℕ) (m x : Monitor) → Stepped
by_tests b c n m x = cond b (refuses n m) (cond c (refuses 12 m) (takes x))

answer_by : (b c : Bool) (n : ℕ) (m x k y : Monitor) → (by_tests b c n m x).answer ≡ (by_tests b c n k y).answer
answer_by true c n m x k y = refl
answer_by false true n m x k y = refl
answer_by false false n m x k y = refl

same_by : (b c : Bool) (n : ℕ) (m x k y : Monitor) → SameBare m k → SameBare x y
    → SameBare (by_tests b c n m x).monitor (by_tests b c n k y).monitor
same_by true c n m x k y e f = e
same_by false true n m x k y e f = e
same_by false false n m x k y e f = f

module _ (m : Monitor) (s : Call) where
  bare_answer : (step_of (bare m) s).answer ≡ (step_of m s).answer
  unfolding step_of bare
  bare_answer =
      let number = refusal_for m s in
      answer_by (ltb 0 number) (crowds m s) number (bare m) (taken_call (bare m) s) m (taken_call m s)

  bare_step : SameBare (step_of (bare m) s).monitor (step_of m s).monitor
  unfolding step_of bare taken_call
  bare_step =
      let number = refusal_for m s in
      same_by (ltb 0 number) (crowds m s) number (bare m) (taken_call (bare m) s) m (taken_call m s) refl refl

pub same_answer : (a b : Monitor) (s : Call) → SameBare a b → (step_of a s).answer ≡ (step_of b s).answer
same_answer a b s e = sym (bare_answer a s) ∙ ap (λ (x : Monitor). (step_of x s).answer) e ∙ bare_answer b s

pub same_step : (a b : Monitor) (s : Call) → SameBare a b → SameBare (step_of a s).monitor (step_of b s).monitor
same_step a b s e = sym (bare_step a s) ∙ ap (λ (x : Monitor). bare (step_of x s).monitor) e ∙ bare_step b s

pub same_verdict : (a b : Monitor) (i : ℕ) → SameBare a b → verdict_of a i ≡ verdict_of b i
unfolding verdict_of bare
same_verdict a b i e = ap (λ (x : Monitor). verdict_of x i) e

-- a call that is taken
taken_by_tests : (b c : Bool) (n : ℕ) (m x : Monitor) → (by_tests b c n m x).answer ≡ Taken → (by_tests b c n m x).monitor ≡ x
taken_by_tests true c n m x e = never (cc)
taken_by_tests false true n m x e = never (cc)
taken_by_tests false false n m x e = refl

taken_monitor : (m : Monitor) (s : Call) → (step_of m s).answer ≡ Taken → (step_of m s).monitor ≡ taken_call m s
unfolding step_of
taken_monitor m s e =
    let number = refusal_for m s in taken_by_tests (ltb 0 number) (crowds m s) number m (taken_call m s) e

-- ---- each row is put back

-- the first k stamps are of steps before a number
abbrev pub Stamped : ℕ → ℕ → List RowUndo → Type 0
Stamped zero number before = Unit {0}
Stamped (suc k) number [] = ⊥
Stamped (suc k) number (b ∷ before) = (b.step < number) × Stamped k number before

stamped_none : (k n number : ℕ) → k ≤ n → 0 < number → Stamped k number (replicate n no_row_undo)
stamped_none zero n number few positive = tt
stamped_none (suc k) zero number few positive = absurd (omega arith)
stamped_none (suc k) (suc n) number few positive = (positive, stamped_none k n number (omega arith) positive)

-- what a step keeps of a row has its number, or an earlier one
saved_stamp : (o : StepInput) (number : ℕ) (r : Row) (b : RowUndo) → b.step < number → (saved_by o number r b).step < number + 1
unfolding saved_by
saved_stamp o number r b earlier =
    split (moves_by r.parameters r.now o) (λ x. (cond x (saved_row r o number) b).step < number + 1) (λ e. omega arith) (λ e. omega arith)

-- without the step it has an earlier one
kept_stamp : (o : StepInput) (number : ℕ) (r : Row) (b : RowUndo) → 0 < number → b.step < number
    → (kept_without number (saved_by o number r b)).step < number
unfolding kept_without
kept_stamp o number r b positive earlier =
    split (eqb (saved_by o number r b).step number) (λ x. (cond x no_row_undo (saved_by o number r b)).step < number) (λ e. positive)
    (λ e. omega (arith, eqb-false (saved_by o number r b).step number e, saved_stamp o number r b earlier))

module _ (every_type_exact : (c : Constraint) → Sound c → Exact c) (o : StepInput) (number : ℕ) where
  stamped_taken : (steps : List Step) (cs : List Constraint) (rows : List Row) (before : List RowUndo) → FitRows every_type_exact steps cs rows
      → Stamped (length cs) number before
      → Stamped (length cs) (number + 1) (zip_first (length cs) (saved_by o number) rows before)
  unfolding zip_first
  stamped_taken steps [] rows before fit stamped = tt
  stamped_taken steps (c ∷ cs) [] before fit stamped = absurd fit
  stamped_taken steps (c ∷ cs) (r ∷ rows) [] fit stamped = stamped
  stamped_taken steps (c ∷ cs) (r ∷ rows) (b ∷ before) fit stamped =
      (saved_stamp o number r b stamped.0, stamped_taken steps cs rows before fit.1 stamped.1)

  stamped_back : (steps : List Step) (cs : List Constraint) (rows others : List Row) (before : List RowUndo) → 0 < number
      → FitRows every_type_exact steps cs rows → length others ≡ length rows
      → Stamped (length cs) number before → Stamped (length cs) number
      (zip_first (length cs) (λ (r : Row) b. kept_without number b) others (zip_first (length cs) (saved_by o number) rows before))
  unfolding zip_first
  stamped_back steps [] rows others before positive fit same stamped = tt
  stamped_back steps (c ∷ cs) [] others before positive fit same stamped = absurd fit
  stamped_back steps (c ∷ cs) (r ∷ rows) [] before positive fit same stamped = absurd (omega arith)
  stamped_back steps (c ∷ cs) (r ∷ rows) (x ∷ others) [] positive fit same stamped = stamped
  stamped_back steps (c ∷ cs) (r ∷ rows) (x ∷ others) (b ∷ before) positive fit same stamped =
      (kept_stamp o number r b positive stamped.0, stamped_back steps cs rows others before positive fit.1 (omega arith) stamped.1)

  rows_back : (steps : List Step) (cs : List Constraint) (rows : List Row) (before : List RowUndo) → FitRows every_type_exact steps cs rows
      → Stamped (length cs) number before
      → zip_first (length cs) (λ b r. row_without number r b) (zip_first (length cs) (saved_by o number) rows before)
      (map_first (length cs) (λ r. (row_step r o number).row) rows) ≡ rows
  unfolding zip_first map_first
  rows_back steps [] rows before fit stamped = refl
  rows_back steps (c ∷ cs) [] before fit stamped = absurd fit
  rows_back steps (c ∷ cs) (r ∷ rows) [] fit stamped = absurd stamped
  rows_back steps (c ∷ cs) (r ∷ rows) (b ∷ before) fit stamped =
      ap₂ (λ (x : Row) (l : List Row). x ∷ l) (row_without_lem r b o number fit.0.1.whole (λ e. omega (arith, e, stamped.0)))
      (rows_back steps cs rows before fit.1 stamped.1)

map_length : (n : ℕ) (f : Row → Row) (rows : List Row) → length (map_first n f rows) ≡ length rows
unfolding map_first
map_length zero f rows = refl
map_length (suc n) f [] = refl
map_length (suc n) f (r ∷ rows) = ap suc (map_length n f rows)

set_own : (list : List ℕ) (i : ℕ) → set list i (get_or list i 0) ≡ list
set_own [] i = refl
set_own (x ∷ list) zero = refl
set_own (x ∷ list) (suc i) = ap (λ (l : List ℕ). x ∷ l) (set_own list i)

-- ---- lists of calls that are all taken

run_more : (rows : List Constraint) (calls : List Call) {left end : Left} (s : Call) → Run rows left (map asks calls) (all_taken calls) end
    → Judged (questions rows end.steps s) Taken → Run rows left (map asks (calls ++ (s ∷ []))) (all_taken (calls ++ (s ∷ [])))
    (left_by end (asks s) Taken)
run_more rows [] s done judged = request (asks s) Taken judged done
run_more rows (c ∷ calls) s (request _ _ j rest) judged = request (asks c) Taken j (run_more rows calls s rest judged)

play_append : (m : Monitor) (a b : List Request) → (play step m (a ++ b)).monitor ≡ (play step (play step m a).monitor b).monitor
unfolding play
play_append m [] b = refl
play_append m (r ∷ a) b = play_append (step m r).monitor a b

after_more : (rows : List Constraint) (requests : List Request) (r : Request) → (result_of (after rows requests) r).monitor
    ≡ after rows (requests ++ (r ∷ []))
unfolding after play
after_more rows requests r = sym (play_append (monitor_of rows) requests (r ∷ []))

-- one call more, which is taken, and the monitor after it
pub takes_more : (rows : List Constraint) (calls : List Call) (steps : List Step) (s : Call) → TakesAll rows calls steps
    → Judged (questions rows steps s) Taken
    → TakesAll rows (calls ++ (s ∷ [])) (steps ++ (step_for s ∷ []))
takes_more rows calls steps s taken judged = (true, run_more rows calls s taken.1 judged)

asks_more : (calls : List Call) (s : Call) → map asks calls ++ (asks s ∷ []) ≡ map asks (calls ++ (s ∷ []))
asks_more [] s = refl
asks_more (c ∷ calls) s = ap (λ (l : List Request). asks c ∷ l) (asks_more calls s)

pub after_call : (rows : List Constraint) (calls : List Call) (s : Call) → after rows (map asks calls ++ (asks s ∷ []))
    ≡ after rows (map asks (calls ++ (s ∷ [])))
after_call rows calls s = ap (after rows) (asks_more calls s)

-- ---- what holds between the steps that are left and the monitor

module _ (every_type_exact : (c : Constraint) → Sound c → Exact c) (rows : List Constraint) where
  follows_bare : (steps : List Step) (m : Monitor) → Follows every_type_exact rows steps m → Follows every_type_exact rows steps (bare m)
  unfolding bare
  follows_bare steps m f =
      record {
        valid = f.valid;
        clock_is = f.clock_is;
        count_is = f.count_is;
        closed_is = f.closed_is;
        next_whole = f.next_whole;
        next_is = f.next_is;
        len_is = f.len_is;
        few = f.few;
        fit = f.fit;
      }

  bare_follows : (steps : List Step) (m : Monitor) → Follows every_type_exact rows steps (bare m) → Follows every_type_exact rows steps m
  unfolding bare
  bare_follows steps m f =
      record {
        valid = f.valid;
        clock_is = f.clock_is;
        count_is = f.count_is;
        closed_is = f.closed_is;
        next_whole = f.next_whole;
        next_is = f.next_is;
        len_is = f.len_is;
        few = f.few;
        fit = f.fit;
      }

  pub follows_same : (steps : List Step) (a b : Monitor) → SameBare a b → Follows every_type_exact rows steps a
      → Follows every_type_exact rows steps b
  follows_same steps a b e f = bare_follows steps b (subst (Follows every_type_exact rows steps) e (follows_bare steps a f))

  -- the monitor follows the steps; what is kept of each row is of a step that it has; and it is the monitor after calls that are all taken
  pub record Part (steps : List Step) (m : Monitor) : Type 0 where
    pub follows : Follows every_type_exact rows steps m
    pub stamped : Stamped (length rows) (m.count + 1) m.before
    pub calls : List Call
    pub taken : TakesAll rows calls steps
    pub same : SameBare m (after rows (map asks calls))

  -- and what may be withdrawn is there to be withdrawn
  abbrev Ready : Left → Monitor → Type 0
  Ready left m = ((left.may ≡ false) × (m.undo.may ≡ 0)) ⊎ ((left.may ≡ true) × (m.undo.may ≡ 1) × Part (but_last left.steps) (withdrawn m))

  pub record Holds (left : Left) (m : Monitor) : Type 0 where
    pub part : Part left.steps m
    pub ready : Ready left m

  module _ (steps : List Step) (m : Monitor) (p : Part steps m) (s : Call) where
    f : Follows every_type_exact rows steps m
    f = p.follows

    -- a withdrawal gives back the monitor that the step found
    next_back : set (set m.next (place_for s) (free_after s (next_for m s))) (place_in (place_for s)) (next_for m s) ≡ m.next
    next_back =
        ap (λ (i : ℕ). set (set m.next (place_for s) (free_after s (next_for m s))) i (next_for m s))
        (ap (λ (b : Bool). cond b (place_for s) 0) (lt-ltb (place_for s) stream_count (place_small s)))
        ∙ set-set m.next (place_for s) (free_after s (next_for m s)) (next_for m s) ∙ set_own m.next (place_for s)

    module _ (e : (step_of m s).answer ≡ Taken) where
      answered : Judged (questions rows steps s) Taken × Follows every_type_exact rows (steps ++ (step_for s ∷ [])) (taken_call m s)
      answered =
          let a = step_answered every_type_exact rows steps m f s in (
            subst (Judged (questions rows steps s)) e a.0,
            subst (Follows every_type_exact rows (steps ++ (step_for s ∷ []))) (taken_monitor m s e)
                (subst (λ (x : Answer). Follows every_type_exact rows (recorded steps s x) (step_of m s).monitor) e a.1),
          )

      -- there is room for the step
      next_number : next_step m ≡ m.count + 1
      next_number =
          let counted : length steps < last_count = counted_of (step_for s) steps (accepts_taken rows steps s answered.0) in
          omega (arith, step_is every_type_exact rows steps m f counted, f.count_is)

      stamped_next : Stamped (length rows) (next_step m) m.before
      stamped_next = subst (λ (n : ℕ). Stamped (length rows) n m.before) (sym next_number) p.stamped

      withdrawn_same : SameBare (withdrawn (taken_call m s)) m
      unfolding withdrawn taken_call bare
      withdrawn_same =
          ap₂ (λ (l : List Row) (next : List ℕ).
          bare (record {
            rows = l;
            next = next;
            clock = m.clock;
            count = m.count;
            closed = m.closed;
            len = m.len;
            before = m.before;
            undo = m.undo;
          }))
          (subst (λ (k : ℕ). zip_first k (λ b r. row_without (next_step m) r b)
          (zip_first k (saved_by (step_input_of m s) (next_step m)) m.rows m.before)
          (map_first k (λ r. (row_step r (step_input_of m s) (next_step m)).row) m.rows) ≡ m.rows) (sym f.len_is)
          (rows_back every_type_exact (step_input_of m s) (next_step m) steps rows m.rows m.before f.fit stamped_next))
          next_back

      taken_part : Part (steps ++ (step_for s ∷ [])) (taken_call m s)
      unfolding taken_call
      taken_part =
          record {
            follows = answered.1;
            stamped =
                subst (λ (k : ℕ). Stamped (length rows) (next_step m + 1)
                (zip_first k (saved_by (step_input_of m s) (next_step m)) m.rows m.before)) (sym f.len_is)
                (stamped_taken every_type_exact (step_input_of m s) (next_step m) steps rows m.rows m.before f.fit stamped_next);
            calls = p.calls ++ (s ∷ []);
            taken = takes_more rows p.calls steps s p.taken answered.0;
            same = ap bare (sym (taken_monitor m s e)) ∙ same_step m (after rows (map asks p.calls)) s p.same
                ∙ ap bare (after_more rows (map asks p.calls) (asks s) ∙ after_call rows p.calls s);
          }

      stamped_less : Stamped (length rows) (next_step m) (withdrawn (taken_call m s)).before
      unfolding withdrawn taken_call
      stamped_less =
          let move : Row → Row = λ r. (row_step r (step_input_of m s) (next_step m)).row in
          subst (λ (k : ℕ). Stamped (length rows) (next_step m)
          (zip_first k (λ r b. kept_without (next_step m) b) (map_first k move m.rows)
          (zip_first k (saved_by (step_input_of m s) (next_step m)) m.rows m.before))) (sym f.len_is)
          (stamped_back every_type_exact (step_input_of m s) (next_step m) steps rows m.rows (map_first (length rows) move m.rows) m.before
          (omega (arith, next_number)) f.fit (map_length (length rows) move m.rows) stamped_next)

      back_part : Part steps (withdrawn (taken_call m s))
      unfolding withdrawn taken_call
      back_part =
          record {
            follows = follows_same steps m (withdrawn (taken_call m s)) (sym withdrawn_same) f;
            stamped = subst (λ (n : ℕ). Stamped (length rows) n (withdrawn (taken_call m s)).before) next_number stamped_less;
            calls = p.calls;
            taken = p.taken;
            same = withdrawn_same ∙ p.same;
          }

  -- ---- a request

  abbrev Answers : Left → Monitor → Request → Type 0
  Answers left m r = Judged (request_questions rows left r) (step m r).answer × Holds (left_by left r (step m r).answer) (step m r).monitor

  call_holds : (left : Left) (m : Monitor) → Holds left m → (s : Call) → Answers left m (asks s)
  unfolding taken_call
  call_holds left m h s = ((step_answered every_type_exact rows left.steps m h.part.follows s).0, by_answer (step_of m s).answer refl)
    where
      by_answer : (a : Answer) → (step_of m s).answer ≡ a → Holds (left_by left (asks s) (step_of m s).answer) (step_of m s).monitor
      by_answer Taken e =
          subst (λ (x : Answer). Holds (left_by left (asks s) x) (step_of m s).monitor) (sym e)
          (subst (Holds (left_by left (asks s) Taken)) (sym (taken_monitor m s e))
          (record {
            part = taken_part left.steps m h.part s e;
            ready = inr (
              refl,
              refl,
              subst (λ (steps : List Step). Part steps (withdrawn (taken_call m s))) (sym (but_last_lem left.steps (step_for s)))
                  (back_part left.steps m h.part s e),
            );
          }))
      by_answer (Refused n) e =
          subst (λ (x : Answer). Holds (left_by left (asks s) x) (step_of m s).monitor) (sym e)
          (subst (Holds left) (sym ((step_untouched m s).same n e)) h)

  withdrawal_holds : (left : Left) (m : Monitor) → Holds left m → Answers left m withdraws
  unfolding Judged withdraw_of withdrawn
  withdrawal_holds left m h = by_ready h.ready
    where
      Result : Stepped → Type 0
      Result x = Judged (request_questions rows left withdraws) x.answer × Holds (left_by left withdraws x.answer) x.monitor

      by_ready : Ready left m → Answers left m withdraws
      by_ready (inl (shut, none)) =
          subst Result (ap (λ (n : ℕ). cond (ltb 0 n) (takes (withdrawn m)) (refuses 21 m)) (sym none))
          (inr (λ (may : left.may ≡ true). both (sym may ∙ shut), refl), h)
      by_ready (inr (may, one, back)) =
          subst Result (ap (λ (n : ℕ). cond (ltb 0 n) (takes (withdrawn m)) (refuses 21 m)) (sym one))
          (inl (may, refl), record { part = back; ready = inl (refl, refl) })

  request_holds : (left : Left) (m : Monitor) → Holds left m → (r : Request) → Answers left m r
  request_holds left m h (asks s) = call_holds left m h s
  request_holds left m h withdraws = withdrawal_holds left m h

  -- ---- lists of requests

  requests_hold : (left : Left) (m : Monitor) → Holds left m → (requests : List Request)
      → (end : Left) × Run rows left requests (play step m requests).answers end × Holds end (play step m requests).monitor
  unfolding play
  requests_hold left m h [] = (left, done, h)
  requests_hold left m h (r ∷ requests) =
      let now = request_holds left m h r in
      let rest = requests_hold (left_by left r (step m r).answer) (step m r).monitor now.1 requests in
      (rest.0, request r (step m r).answer now.0 rest.1, rest.2)

  start_holds : Accepted rows → Holds none_left (monitor_of rows)
  unfolding monitor_of after play
  start_holds accepted =
      let f = start_follows every_type_exact rows accepted in
      record {
        part = record {
          follows = f;
          stamped = stamped_none (length rows) row_limit 1 f.few (omega arith);
          calls = [];
          taken = (false, done);
          same = refl;
        };
        ready = inl (refl, refl);
      }

  -- what holds after any requests
  pub held : Accepted rows → (requests : List Request) → (left : Left)
      × Run rows none_left requests (play step (monitor_of rows) requests).answers left
      × Holds left (play step (monitor_of rows) requests).monitor
  held accepted requests = requests_hold none_left (monitor_of rows) (start_holds accepted) requests

  -- the monitor after some requests that leave these steps
  held_at : Accepted rows → (requests : List Request) {answers : List Answer} {left : Left} → Run rows none_left requests answers left
      → Holds left (play step (monitor_of rows) requests).monitor
  held_at accepted requests run =
      let h = held accepted requests in
      subst (λ (x : Left). Holds x (play step (monitor_of rows) requests).monitor) (run_once rows h.1 run).1 h.2

  -- it follows them
  pub remains_follows : Accepted rows → (requests : List Request) {left : Left} → Remains rows requests left
      → Follows every_type_exact rows left.steps (after rows requests)
  unfolding after
  remains_follows accepted requests remains = (held_at accepted requests remains.1).part.follows

-- ---- the promise

module _ (every_type_exact : (c : Constraint) → Sound c → Exact c) where
  final : (rows : List Constraint) → Accepted rows → (requests further : List Request) {answers more : List Answer} {left end : Left}
      → Run rows none_left requests answers left → (run : Run rows left further more end) → Keeps (length left.steps) run
      → (i n : ℕ) → verdict_of (play step (monitor_of rows) requests).monitor i ≡ some (Verdict.Broken n)
      → verdict_of (play step (monitor_of rows) (requests ++ further)).monitor i ≡ some (Verdict.Broken n)
  final rows accepted requests further {left = left} {end = end} first run keeps i n broken =
      let m = (play step (monitor_of rows) requests).monitor in
      let a = held_at every_type_exact rows accepted requests first in
      let b = requests_hold every_type_exact rows left m a further in
      let last = subst (λ (x : Left). Holds every_type_exact rows x (play step m further).monitor) (run_once rows b.1 run).1 b.2 in
      let c = broken_row rows left.steps i n (subst (ReadsRow rows left.steps i) broken
      (verdict_reads every_type_exact rows left.steps m a.part.follows i)) in
      let later = begins_broken c.0 n left.steps end.steps (keeps_begins left.steps run keeps ([], sym (append-nil left.steps)))
      c.2 in
      ap (λ (x : Monitor). verdict_of x i) (play_append (monitor_of rows) requests further)
      ∙ reads_still rows end.steps i n c.0 last.part.follows.valid c.1 later (verdict_of (play step m further).monitor i)
      (verdict_reads every_type_exact rows end.steps (play step m further).monitor last.part.follows i)

  pub stays : (rows : List Constraint) → Accepted rows → (requests : List Request) (calls : List Call) (i n : ℕ)
      → verdict_of (after rows requests) i ≡ some (Verdict.Broken n)
      → verdict_of (after rows (requests ++ map asks calls)) i ≡ some (Verdict.Broken n)
  unfolding after
  stays rows accepted requests calls i n broken =
      let h = held every_type_exact rows accepted requests in
      let later = requests_hold every_type_exact rows h.0 (play step (monitor_of rows) requests).monitor h.2 (map asks calls) in
      final rows accepted requests (map asks calls) h.1 later.1 (calls_keep (length h.0.steps) calls later.1 (omega arith)) i n broken

  withdrawal_untouched : (m : Monitor) (n : ℕ) → (withdraw_of m).answer ≡ Refused n → (withdraw_of m).monitor ≡ m
  unfolding withdraw_of
  withdrawal_untouched m n = by_test (ltb 0 m.undo.may)
    where
      by_test : (b : Bool) → (cond b (takes (withdrawn m)) (refuses 21 m)).answer ≡ Refused n → (cond b (takes (withdrawn m)) (refuses 21 m)).monitor
          ≡ m
      by_test true e = never (cc)
      by_test false e = refl

  untouched : (m : Monitor) (r : Request) (n : ℕ) → (step m r).answer ≡ Refused n → (step m r).monitor ≡ m
  untouched m (asks s) n e = (step_untouched m s).same n e
  untouched m withdraws n e = withdrawal_untouched m n e

  pub promise : Promise monitor_of step verdict_of
  promise =
      record {
        exact = λ rows accepted requests.
            let h = held every_type_exact rows accepted requests in
            (h.0, h.1, verdict_reads every_type_exact rows h.0.steps (play step (monitor_of rows) requests).monitor h.2.part.follows);
        untouched = untouched;
        final = final;
      }

  -- after any requests the monitor is the one after calls that are all taken and that record what is left, but for what may be withdrawn
  pub struck : (rows : List Constraint) → Accepted rows → (requests : List Request)
      → (left : Left) × Remains rows requests left × (calls : List Call) × TakesAll rows calls left.steps
      × SameBare (after rows requests) (after rows (map asks calls))
  unfolding after
  struck rows accepted requests =
      let h = held every_type_exact rows accepted requests in
      (h.0, ((play step (monitor_of rows) requests).answers, h.1), h.2.part.calls, h.2.part.taken, h.2.part.same)

  -- ---- the contracts

  -- §3.4: the monitor after a list of requests follows the steps that they have left
  pub after_follows : (rows : List Constraint) (requests : List Request) → Accepted rows → (left : Left) × Remains rows requests left
      × Follows every_type_exact rows left.steps (after rows requests)
  unfolding after
  after_follows rows requests accepted =
      let h = held every_type_exact rows accepted requests in (h.0, ((play step (monitor_of rows) requests).answers, h.1), h.2.part.follows)

  pub steps_keep : (m : Monitor) (r : Request) → Steps m r (result_of m r)
  unfolding after
  steps_keep m r =
      record {
        equals = refl;
        means = λ rows requests accepted e.
            let h = held every_type_exact rows accepted requests in
            let judged = (request_holds every_type_exact rows h.0 (after rows requests) h.2 r).0 in (
              (
                h.0,
                ((play step (monitor_of rows) requests).answers, h.1),
                subst (λ (x : Monitor). Judged (request_questions rows h.0 r) (result_of x r).answer) (sym e) judged,
              ),
              ap (λ (x : Monitor). (result_of x r).monitor) e ∙ after_more rows requests r,
            );
      }

  pub reading_keeps : (m : Monitor) (i : ℕ) → Reading m i (verdict_of m i)
  reading_keeps m i =
      record {
        equals = refl;
        means = λ rows requests accepted e.
            let a = after_follows rows requests accepted in (
              a.0,
              a.1,
              subst (λ (x : Monitor). ReadsRow rows a.0.steps i (verdict_of x i)) (sym e)
                  (verdict_reads every_type_exact rows a.0.steps (after rows requests) a.2 i),
            );
      }
