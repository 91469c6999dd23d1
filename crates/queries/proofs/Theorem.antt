-- After any list of requests over an accepted table each number is what the definitions say of the steps that are left: a monitor follows them.
use Rattle.queries.proofs.Names.{QueryAnswer, AsksBrokenRows, AsksClock, AsksClosed, AsksCrowdedRow, AsksDeadline, AsksRowDeadline, AsksSteps}
use Rattle.queries.proofs.Names.{AsksWaiting, Bool, BrokenRows, Call, Constraint, FitRows, Fits, Follows, LeastDeadline, List, Monitor, Open}
use Rattle.queries.proofs.Names.{Row, RowDeadline, RowWaiting, Sound, Step, [], ◌&&◌, ◌<◌, ◌∙◌, ◌∷◌, ◌≡◌, ◌≤◌, after_follows, ap, arith}
use Rattle.queries.proofs.Names.{broken_mark, broken_rows_of, by_cases, cond, crowded_row_of, deadline_by, deadline_of, dec_lt}
use Rattle.queries.proofs.Names.{every_type_exact, false}
use Rattle.queries.proofs.Names.{get_or, get_elem?, has_none, has_row, le-ltb, least_of, length, lt-ltb, ltb, mark, min, never, no_row_lem, no_limit}
use Rattle.queries.proofs.Names.{no_row, none, refl, row, row_at, row_limit, some, split, subst, suc, sym, there, true, waiting_by, waiting_of}
use Rattle.queries.proofs.Names.{zero}
use Rattle.queries.proofs.Names.{ℕ}
use Rattle.queries.specs.Numbers.{cause_in, cause_of, moment_in, moment_of, oldest_at, oldest_of, oldest_stream_at, oldest_stream_of}
use Rattle.queries.specs.Oldest.{no_stream}
use Rattle.queries.proofs.Oldest.{fits_oldest}
use Rattle.queries.proofs.Rows.{fits_broken, fits_cause, fits_deadline, fits_waiting, row_deadline_once}
use Rattle.queries.proofs.{Crowded.crowded_says, RowPresent.bit_is, RowPresent.least_limit, RowPresent.marks_below}
use Rattle.queries.specs.Contract as C

-- the row of a number fits the steps
pub fit_at : (steps : List Step) (cs : List Constraint) (rows : List Row) → FitRows every_type_exact steps cs rows
    → (i : ℕ) (c : Constraint) → get_elem? cs i
    ≡ some c
    → (sound : Sound c) × Fits c (every_type_exact c sound) steps (get_or rows i no_row)
fit_at steps [] rows fit i c is = never (cc)
fit_at steps (d ∷ cs) [] fit i c is = absurd fit
fit_at steps (d ∷ cs) (r ∷ rows) fit zero c is = let same : d
    ≡ c = cc in subst (λ (x : Constraint). (sound : Sound x) × Fits x (every_type_exact x sound) steps r) same fit.0
fit_at steps (d ∷ cs) (r ∷ rows) fit (suc i) c is = fit_at steps cs rows fit.1 i c is

module _ (rows : List Constraint) (steps : List Step) (m : Monitor) (f : Follows every_type_exact rows steps m) where
  -- by whether there is a row of that number
  by_row : (i : ℕ) (P : Bool → Type 0) → ((c : Constraint) → i < row_limit → get_elem? rows i ≡ some c → (sound : Sound c)
      → Fits c (every_type_exact c sound) steps (row_at m i) → P true)
      → (get_elem? rows i ≡ none → P false) → P (there i m.len)
  by_row i P found missing =
      by_cases (dec_lt i (length rows))
      (λ h. let there_is = has_row rows i h in
      let fit = fit_at steps rows m.rows f.fit i there_is.0 there_is.1 in
      rw (f.len_is, lt-ltb i (length rows) h, lt-ltb i row_limit (omega (arith, f.few)))
      (found there_is.0 (omega (arith, f.few)) there_is.1 fit.0 fit.1))
      (λ h. rw (f.len_is, le-ltb i (length rows) (omega arith)) (missing (has_none rows i (omega arith))))

  deadline_says : (i : ℕ) → RowDeadline rows steps i (deadline_of m i)
  deadline_says i =
      by_row i (λ b. RowDeadline rows steps i (cond b (deadline_by m.closed (row_at m i).now.broken (row_at m i).now.due) no_limit))
      (λ c small is sound fit. row c is (fits_deadline c (every_type_exact c sound) steps f.valid (row_at m i) fit m.closed f.closed_is))
      no_row_lem

  waiting_says : (i : ℕ) → RowWaiting rows steps i (waiting_of m i)
  waiting_says i =
      by_row i (λ b. RowWaiting rows steps i (cond b
      (waiting_by m.closed (row_at m i).now.broken (row_at m i).parameters.tag (row_at m i).now.len) 0))
      (λ c small is sound fit. fits_waiting c (every_type_exact c sound) steps f.valid (row_at m i) fit rows i is m.closed f.closed_is)
      C.no_row_lem

  oldest_says : (i : ℕ) → C.RowOldest rows steps i (oldest_of m i) (oldest_stream_of m i)
  oldest_says i =
      by_row i (λ b. C.RowOldest rows steps i (cond b (oldest_at m i) no_limit) (cond b (oldest_stream_at m i) no_stream))
      (λ c small is sound fit. fits_oldest c sound steps f.valid (row_at m i) fit rows i is m.closed f.closed_is)
      C.no_oldest

  cause_says : (i : ℕ) → C.RowCause rows steps i (cause_of m i) (moment_of m i)
  cause_says i =
      by_row i (λ b. C.RowCause rows steps i (cond b (cause_in (row_at m i).now.broken (row_at m i).now.head) 0)
      (cond b (moment_in (row_at m i).now.broken (row_at m i).now.kept) no_limit))
      (λ c small is sound fit. fits_cause c (every_type_exact c sound) steps f.valid (row_at m i) fit rows i is)
      C.missing_row

  -- ---- the least deadline

  least_one : (n : ℕ) → (i : ℕ) × RowDeadline rows steps i (least_of m n)
  unfolding least_of
  least_one zero = (length rows, no_row_lem (has_none rows (length rows) (omega arith)))
  least_one (suc n) =
      by_cases (dec_lt (least_of m n) (deadline_of m n))
      (λ h. let one = least_one n in (one.0, subst (RowDeadline rows steps one.0) (omega arith) one.1))
      (λ h. (n, subst (RowDeadline rows steps n) (omega arith) (deadline_says n)))

  least_below : (n i : ℕ) → i < n → least_of m n ≤ deadline_of m i
  unfolding least_of
  least_below zero i h = absurd (omega arith)
  least_below (suc n) i h =
      by_cases (dec_lt i n) (λ g. omega (arith, least_below n i g))
      (λ g. let same : i ≡ n = omega arith in subst (λ (k : ℕ). min (least_of m n) (deadline_of m n) ≤ deadline_of m k) (sym same) (omega arith))

  least_says : LeastDeadline rows steps (least_of m row_limit)
  least_says =
      record {
        of_one = least_one row_limit;
        least = λ i e is.
            by_cases (dec_lt i row_limit)
            (λ h. omega (arith, least_below row_limit i h, row_deadline_once rows steps i (deadline_of m i) e (deadline_says i) is))
            (λ h. omega (
              arith,
              least_limit m row_limit,
              row_deadline_once rows steps i no_limit e
                  (no_row_lem (has_none rows i (omega (arith, f.few)))) is,
            ));
      }

  -- ---- broken rows

  -- what a mark of 1 says, and that a row that is broken has it
  marked_broken : (i : ℕ) → broken_mark m i ≡ 1 → (c : Constraint) × (get_elem? rows i ≡ some c) × (¬ Open c steps)
  marked_broken i =
      by_row i (λ b. mark (b && ltb 0 (row_at m i).now.broken) ≡ 1 → (c : Constraint) × (get_elem? rows i ≡ some c) × (¬ Open c steps))
      (λ c small is sound fit.
      split (ltb 0 (row_at m i).now.broken) (λ b. cond b (¬ Open c steps) (Open c steps) → mark b ≡ 1 → (d : Constraint)
      × (get_elem? rows i ≡ some d) × (¬ Open d steps))
      (λ _ shut one. (c, is, shut)) (λ _ is_open one. absurd (omega arith))
      (fits_broken c (every_type_exact c sound) steps f.valid (row_at m i) fit))
      (λ missing one. absurd (omega arith))

  broken_marked : (i : ℕ) (c : Constraint) → get_elem? rows i ≡ some c → ¬ Open c steps → (i < row_limit) × (broken_mark m i ≡ 1)
  broken_marked i c is shut =
      by_row i (λ b. (i < row_limit) × (mark (b && ltb 0 (row_at m i).now.broken) ≡ 1))
      (λ d small is_d sound fit. (
        small,
        split (ltb 0 (row_at m i).now.broken) (λ b. cond b (¬ Open d steps) (Open d steps) → mark b ≡ 1)
            (λ _ x. refl) (λ _ is_open. let same : d ≡ c = cc in absurd (shut (subst (λ (x : Constraint). Open x steps) same is_open)))
            (fits_broken d (every_type_exact d sound) steps f.valid (row_at m i) fit),
      ))
      (λ missing. never (cc))

  broken_says : BrokenRows rows steps (broken_rows_of m)
  broken_says =
      record {
        small = marks_below m row_limit 0;
        broken = λ i h one. marked_broken i (sym (bit_is m row_limit 0 i h ∙ ap (broken_mark m) (omega arith)) ∙ one);
        marked = λ i c is shut. let found = broken_marked i c is shut in bit_is m row_limit 0 i found.0 ∙ ap (broken_mark m) (omega arith)
            ∙ found.1;
      }

-- ---- the contracts, of what equals the numbers

asked : (m : Monitor) (number : ℕ) (Says : List Constraint → List Step → ℕ → Type 0)
    → ((rows : List Constraint) (steps : List Step) → Follows every_type_exact rows steps m → Says rows steps number) → {answer : ℕ} → answer ≡ number
    → QueryAnswer m number Says answer
asked m number Says says {answer} is =
    record {
      equals = is;
      means = λ rows requests accepted e.
          let a = after_follows every_type_exact rows requests accepted in (
            a.0,
            a.1,
            subst (Says rows a.0.steps) (sym is)
                (says rows a.0.steps (subst (Follows every_type_exact rows a.0.steps) (sym e) a.2)),
          );
    }

module _ (m : Monitor) {answer : ℕ} where
  -- §15.1
  pub clock_asked : answer ≡ m.clock → AsksClock m answer
  clock_asked = asked m _ _ (λ rows steps f. f.clock_is)

  -- §15.2
  pub steps_asked : answer ≡ m.count → AsksSteps m answer
  steps_asked = asked m _ _ (λ rows steps f. f.count_is)

  -- §15.3
  pub closed_asked : answer ≡ mark (ltb 0 m.closed) → AsksClosed m answer
  closed_asked = asked m _ _ (λ rows steps f. ap mark f.closed_is)

  -- §15.4
  pub broken_rows_asked : answer ≡ broken_rows_of m → AsksBrokenRows m answer
  broken_rows_asked = asked m _ BrokenRows (λ rows steps f. broken_says rows steps m f)

  -- §15.5
  pub waiting_asked : (i : ℕ) → answer ≡ waiting_of m i → AsksWaiting m i answer
  waiting_asked i = asked m _ (λ rows steps. RowWaiting rows steps i) (λ rows steps f. waiting_says rows steps m f i)

  -- §15.19
  pub oldest_asked : (i : ℕ) → answer ≡ oldest_of m i → C.AsksOldest m i answer
  oldest_asked i = asked m _ (λ rows steps time. C.RowOldest rows steps i time (oldest_stream_of m i)) (λ rows steps f. oldest_says rows steps m f i)

  -- §15.19
  pub oldest_stream_asked : (i : ℕ) → answer ≡ oldest_stream_of m i → C.AsksOldestStream m i answer
  oldest_stream_asked i =
      asked m _ (λ rows steps stream. C.RowOldest rows steps i (oldest_of m i) stream) (λ rows steps f. oldest_says rows steps m f i)

  -- §15.14
  pub cause_asked : (i : ℕ) → answer ≡ cause_of m i → C.AsksCause m i answer
  cause_asked i = asked m _ (λ rows steps cause. C.RowCause rows steps i cause (moment_of m i)) (λ rows steps f. cause_says rows steps m f i)

  -- §15.15
  pub moment_asked : (i : ℕ) → answer ≡ moment_of m i → C.AsksMoment m i answer
  moment_asked i = asked m _ (λ rows steps moment. C.RowCause rows steps i (cause_of m i) moment) (λ rows steps f. cause_says rows steps m f i)

  -- §15.8
  pub row_deadline_asked : (i : ℕ) → answer ≡ deadline_of m i → AsksRowDeadline m i answer
  row_deadline_asked i = asked m _ (λ rows steps. RowDeadline rows steps i) (λ rows steps f. deadline_says rows steps m f i)

  -- §15.9
  pub deadline_asked : answer ≡ least_of m row_limit → AsksDeadline m answer
  deadline_asked = asked m _ LeastDeadline (λ rows steps f. least_says rows steps m f)

  -- §15.11
  pub crowded_row_asked : (call : Call) → answer ≡ crowded_row_of m call → AsksCrowdedRow m call answer
  crowded_row_asked call = asked m _ (λ rows steps. C.CrowdedRow rows steps call) (λ rows steps f. crowded_says every_type_exact rows steps m f call)
