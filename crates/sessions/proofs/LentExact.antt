-- §11.2: a host's calls on memory in which a table was accepted, each known by its contract alone, reach what is promised: the first made the
-- monitor fresh, and each of the others is the machine's.
use Rattle.sessions.proofs.Names.{Accepted, Answer, Begins, BeginsUpTo, Constraint, HoldsMonitor, Host, Left, LentExact, LentExactUpTo, List}
use Rattle.sessions.proofs.Names.{Memory}
use Rattle.sessions.proofs.Names.{ReportsSteps, Request, Run, Step, [], ◌≡◌, after, answer_from, arith, begun, follows, fresh_lent, map}
use Rattle.sessions.proofs.Names.{monitor_is_exact, none_left, play, refl, refused, reported_as_recorded, subst, sym, untouched_all, used}
use Rattle.sessions.proofs.Names.{words_of_lent, ℕ}
use Rattle.sessions.proofs.Reached.{Reached, monitors, reached_words}
use Rattle.sessions.proofs.Recorded.{fresh_refused, left_refused, left_used}

-- the steps that a host's requests leave of the fresh monitor
pub run_by : {h end : Memory} (rows : List Constraint) {requests : List Request} {numbers : List ℕ} → Accepted rows → HoldsMonitor h (after rows [])
    → Host h requests numbers end → (left : Left) × Run rows none_left requests (map answer_from numbers) left
unfolding after play
run_by rows {requests = requests} accepted fresh host =
    let exact = monitor_is_exact.exact rows accepted requests in
    let answered = (follows (after rows []) fresh host).answers_are in
    (exact.0, subst (λ (l : List Answer). Run rows none_left requests l exact.0) (sym answered) exact.1)

exact_from : {newest : ℕ} (bytes : List ℕ) (before : Memory) {number : ℕ} {h end : Memory} {requests : List Request} {numbers : List ℕ}
    → BeginsUpTo newest bytes before number h → number ≡ 0 → (host : Host h requests numbers end) → LentExactUpTo newest bytes host
exact_from bytes before (refused n place read above below) is host = absurd (omega (arith, is, above))
exact_from bytes before {end = end} {requests = requests} {numbers = numbers} (begun rows read accepted indexes) is host =
    let fresh : HoldsMonitor (words_of_lent (fresh_lent rows)) (after rows []) =
    record { lent = fresh_lent rows; words_are = refl; indexes = indexes; monitor_is = refl } in
    let (left, run) = run_by rows accepted fresh host in
    let reached : Reached end rows left =
    record { accepted = accepted; indexes = indexes; requests = requests; numbers = numbers; answers = _; host = host; run = run } in
    let promised = monitors reached in
    record {
      rows = rows;
      read = read;
      left = left;
      run = run;
      untouched = untouched_all host;
      words = reached_words reached;
      monitors = promised;
      recorded = λ recording steps taken same buffer number written reported.
          reported_as_recorded bytes recording rows steps buffer number written read taken
          (subst (λ (l : List Step). ReportsSteps rows l buffer number written) same (promised.reads.reported buffer number written reported));
      reported = λ table recording buffer number written after on.
          record {
            reports = on.reports;
            refused = left_refused table recording on.left_by;
            used = left_used table recording on.left_by;
          };
      refused = λ table number after begun above. fresh_refused begun above;
    }

-- §11.2, §16.3: over what is given to a call that makes a monitor fresh, of whichever editions it takes
pub lent_is_exact_up_to : {newest : ℕ} (bytes : List ℕ) (before : Memory) {h end : Memory} {requests : List Request} {numbers : List ℕ}
    → BeginsUpTo newest bytes before 0 h → (host : Host h requests numbers end) → LentExactUpTo newest bytes host
lent_is_exact_up_to bytes before begins host = exact_from bytes before begins refl host

-- §3.8, §7.23, §11.2: and so over what is given to `delkuthi_fresh`
pub lent_is_exact : (bytes : List ℕ) (before : Memory) {h end : Memory} {requests : List Request} {numbers : List ℕ} → Begins bytes before 0 h
    → (host : Host h requests numbers end) → LentExact bytes host
lent_is_exact = lent_is_exact_up_to
