-- Each reader's contract speaks of every list of calls and withdrawals that has made the monitor, and a list has one outcome.
use Rattle.sessions.proofs.Names.{Accepted, Answer, QueryAnswer, Constraint, HoldsMonitor, Left, List, Memory, Pages, ReadsAs, ReadsRow}
use Rattle.sessions.proofs.Names.{ReportsSteps}
use Rattle.sessions.proofs.Names.{Request, Run, Step, after, monitor_is_exact, none_left, play, refl, run_once, subst, verdict_of, ℕ}
use Rattle.sessions.proofs.Names.{sym}
use Rattle.queries.specs.Contract.{RowCause, RowOldest}

module _ (rows : List Constraint) (requests : List Request) (answers : List Answer) (left : Left) (accepted : Accepted rows)
    (run : Run rows none_left requests answers left) where
  asked_says : {number answer : ℕ} {Says : List Constraint → List Step → ℕ → Type 0} → QueryAnswer (after rows requests) number Says answer
      → Says rows left.steps answer
  asked_says {answer = answer} {Says = Says} a =
      let means = a.means rows requests accepted refl in
      subst (λ (l : Left). Says rows l.steps answer) (run_once rows means.1.1 run).1 means.2

  verdict_says : (i : ℕ) → ReadsRow rows left.steps i (verdict_of (after rows requests) i)
  unfolding after play
  verdict_says i =
      let exact = monitor_is_exact.exact rows accepted requests in
      subst (λ (l : Left). ReadsRow rows l.steps i (verdict_of (after rows requests) i)) (run_once rows exact.1 run).1 (exact.2 i)

  pub readers : (h : Memory) → HoldsMonitor h (after rows requests) → ReadsAs h rows left.steps
  readers h holds =
      let m = after rows requests in
      record {
        verdicts = λ i.
            (verdict_of m i, verdict_says i, λ word w. (w m holds).says.equals, λ number s. (s m holds).says.equals);
        counted = λ number n. (n m holds).means rows requests accepted refl;
        row_back = λ i buffer number written b. (b m holds).means rows requests accepted refl;
        paged = λ buffer number written w.
            let page = (w m holds).means rows requests accepted refl in
            subst (λ (l : Left). Pages rows l.steps buffer number written) (run_once rows page.1.1 run).1 page.2;
        reported = λ buffer number written w.
            let report = (w m holds).means rows requests accepted refl in
            subst (λ (l : Left). ReportsSteps rows l.steps buffer number written) (run_once rows report.1.1 run).1 report.2;
        clock_is = λ time a. asked_says (a m holds);
        steps_are = λ number a. asked_says (a m holds);
        closed_is = λ number a. asked_says (a m holds);
        broken_rows = λ mask a. asked_says (a m holds);
        row_waiting = λ i number a. asked_says (a m holds);
        row_oldest = λ i time stream a b.
            subst (RowOldest rows left.steps i time) (sym (b m holds).equals) (asked_says (a m holds));
        row_deadline = λ i time a. asked_says (a m holds);
        deadline = λ time a. asked_says (a m holds);
        row_cause = λ i cause moment a b.
            subst (RowCause rows left.steps i cause) (sym (b m holds).equals) (asked_says (a m holds));
        crowded_row = λ kind time i a. asked_says (a m holds);
      }
