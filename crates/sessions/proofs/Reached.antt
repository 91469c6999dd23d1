-- Memory that a host's calls have reached from a fresh monitor keeps all that is promised of a monitor: the calls are the machine's.
use Rattle.sessions.proofs.Names.{Accepted, Answer, Call, Constraint, HoldsMonitor, Host, Indexes, Judged, Keeps, Left, List, Memory, Monitors}
use Rattle.sessions.proofs.Names.{Option, ReadOff, Request, Run, SameButUndo, StepOfVerdict, Takes, TakesAll, Verdict, [], ◌++◌, ◌<◌, ◌∙◌, ◌∷◌}
use Rattle.sessions.proofs.Names.{◌≡◌, after, answer_from, ap, arith, asked, asks, bare, done, follows_fresh, fresh_lent, leaves_all, left_by}
use Rattle.sessions.proofs.Names.{length, map, monitor_is_exact, none, none_left, none_refused, over, play, refl, request, request_questions}
use Rattle.sessions.proofs.Names.{run_once, some, step_in, struck_out, subst, subst₂, sym, words_of_lent, ℕ}
use Rattle.sessions.proofs.{Reading.readers, Words.Leaves, Words.leaves_known, Words.same_words}

-- from the words of the monitor that is fresh over the rows, by requests that leave these steps
pub record Reached (h : Memory) (rows : List Constraint) (left : Left) : Type 0 where
  pub accepted : Accepted rows
  pub indexes : Indexes (fresh_lent rows)
  pub requests : List Request
  pub numbers : List ℕ
  pub answers : List Answer
  pub host : Host (words_of_lent (fresh_lent rows)) requests numbers h
  pub run : Run rows none_left requests answers left

-- the fresh monitor itself
pub reached_fresh : (rows : List Constraint) → Accepted rows → Indexes (fresh_lent rows) → Reached (words_of_lent (fresh_lent rows)) rows none_left
reached_fresh rows accepted indexes =
    record { accepted = accepted; indexes = indexes; requests = []; numbers = []; answers = []; host = over; run = done }

-- the host's lists one behind the other
host_append : {h mid end : Memory} {first further : List Request} {numbers more : List ℕ} → Host h first numbers mid → Host mid further more end
    → Host h (first ++ further) (numbers ++ more) end
host_append over then = then
host_append (asked r number takes rest) then = asked r number takes (host_append rest then)

run_append : {rows : List Constraint} {left mid end : Left} {first further : List Request} {answers more : List Answer}
    → Run rows left first answers mid → Run rows mid further more end → Run rows left (first ++ further) (answers ++ more) end
run_append done then = then
run_append (request r a judged rest) then = request r a judged (run_append rest then)

-- a number above 0 is that of a broken row
step_broken : (o : Option Verdict) (n : ℕ) → n ≡ step_in o → 0 < n → o ≡ some (Verdict.Broken n)
step_broken none n e above = absurd (omega (arith, e, above))
step_broken (some Verdict.Open) n e above = absurd (omega (arith, e, above))
step_broken (some Verdict.Kept) n e above = absurd (omega (arith, e, above))
step_broken (some (Verdict.Broken k)) n e above = ap (λ (x : ℕ). some (Verdict.Broken x)) (sym e)

module _ {h : Memory} {rows : List Constraint} {left : Left} (r : Reached h rows left) where
  leaves_here : Leaves (fresh_lent rows) r.requests h
  leaves_here = leaves_known (fresh_lent rows) refl r.indexes r.host

  -- each word
  pub reached_words : h ≡ words_of_lent (leaves_all (fresh_lent rows) r.requests)
  reached_words = leaves_here.words_are

  monitor_here : (leaves_all (fresh_lent rows) r.requests).monitor ≡ after rows r.requests
  unfolding after play
  monitor_here = leaves_here.monitor_is

  start : HoldsMonitor (words_of_lent (fresh_lent rows)) (after rows [])
  start = record { lent = fresh_lent rows; words_are = refl; indexes = r.indexes; monitor_is = refl }

  pub reached_holds : HoldsMonitor h (after rows r.requests)
  reached_holds =
      record { lent = _; words_are = leaves_here.words_are; indexes = leaves_here.indexes; monitor_is = monitor_here }

  -- ---- one request more

  module _ (q : Request) (number : ℕ) (end : Memory) (takes : Takes h q number end) where
    pub reached_judged : Judged (request_questions rows left q) (answer_from number)
    reached_judged =
        let says = ((takes.steps _ leaves_here.words_are leaves_here.indexes).0.means rows r.requests r.accepted monitor_here).0 in
        subst (λ (l : Left). Judged (request_questions rows l q) (answer_from number)) (run_once rows says.1.1 r.run).1 says.2

    pub reached_more : Reached end rows (left_by left q (answer_from number))
    reached_more =
        record {
          accepted = r.accepted;
          indexes = r.indexes;
          requests = r.requests ++ (q ∷ []);
          numbers = r.numbers ++ (number ∷ []);
          answers = r.answers ++ (answer_from number ∷ []);
          host = host_append r.host (asked q number takes over);
          run = run_append r.run (request q (answer_from number) reached_judged done);
        }

  -- ---- what is promised

  stays : {last : Memory} {further : List Request} {numbers : List ℕ} {then : Left} → Host h further numbers last
      → (run : Run rows left further (map answer_from numbers) then) → Keeps (length left.steps) run
      → (i n k : ℕ) → 0 < n → ReadOff h (λ m. StepOfVerdict m i) n → ReadOff last (λ m. StepOfVerdict m i) k → k ≡ n
  unfolding after play
  stays {further = further} further-host run keeps i n k above said later =
      let broken = step_broken _ n (said _ reached_holds).says.equals above in
      let still = monitor_is_exact.final rows r.accepted r.requests further r.run run keeps i n broken in
      (later _ (follows_fresh rows start (host_append r.host further-host))).says.equals ∙ ap step_in still

  struck : (calls : List Call) × TakesAll rows calls left.steps
      × ((struck : Memory) → Host (words_of_lent (fresh_lent rows)) (map asks calls) (none_refused calls) struck → SameButUndo h struck)
  unfolding after play
  struck =
      let (left', remains, calls, taken, same) = struck_out rows r.accepted r.requests in (
        calls,
        subst (λ (l : Left). TakesAll rows calls l.steps) (run_once rows remains.1 r.run).1 taken,
        λ end host.
            let there = leaves_known (fresh_lent rows) refl r.indexes host in
            let here = leaves_here in
            subst₂ SameButUndo (sym here.words_are) (sym there.words_are)
            (same_words _ _ here.indexes.shaped there.indexes.shaped
            (ap bare monitor_here ∙ same ∙ ap bare (sym there.monitor_is))
            (here.lists ∙ sym there.lists)),
      )

  pub monitors : Monitors h rows left
  monitors =
      record {
        reads = readers rows r.requests r.answers left r.accepted r.run h reached_holds;
        broken_stays = stays;
        struck_out = struck;
      }
