-- A host's calls, one after the other: each is the machine's, so the list is, and in the memory lies the monitor that the machine has then.
use Rattle.delkuthi.proofs.Names.{Answer, Call, Constraint, HoldsMonitor, Host, List, Memory, Monitor, Request, Takes, Untouched, [], ◌++◌}
use Rattle.delkuthi.proofs.Names.{◌∷◌, ◌≡◌}
use Rattle.delkuthi.proofs.Names.{after, answer_from, ap₂, arith, asked, asks, map, none_refused, over, play, refl, result_of, step, zero, ℕ}
use Rattle.delkuthi.proofs.WordsRead.{call_holds}

-- what a list of requests leaves of a monitor: the machine's answers, and the monitor that lies there then
pub record Followed (m : Monitor) (requests : List Request) (numbers : List ℕ) (end : Memory) : Type 0 where
  pub answers_are : map answer_from numbers ≡ (play step m requests).answers
  pub left_there : HoldsMonitor end (play step m requests).monitor

pub follows : {h end : Memory} {requests : List Request} {numbers : List ℕ} (m : Monitor) → HoldsMonitor h m → Host h requests numbers end
    → Followed m requests numbers end
unfolding play
follows m holds over = record { answers_are = refl; left_there = holds }
follows m holds (asked r number takes rest) =
    let one = call_holds m holds takes in
    let later = follows (result_of m r).monitor one.1 rest in
    record { answers_are = ap₂ (λ (x : Answer) (l : List Answer). x ∷ l) one.0 later.answers_are; left_there = later.left_there }

-- from a fresh monitor
pub follows_fresh : {h end : Memory} {requests : List Request} {numbers : List ℕ} (rows : List Constraint) → HoldsMonitor h (after rows [])
    → Host h requests numbers end → HoldsMonitor end (after rows requests)
unfolding after play
follows_fresh rows holds host = (follows (after rows []) holds host).left_there

pub untouched_all : {h end : Memory} {requests : List Request} {numbers : List ℕ} (host : Host h requests numbers end) → Untouched host
untouched_all over = tt
untouched_all (asked r number takes rest) = (λ above. takes.untouched (λ zero. omega arith), untouched_all rest)

-- one call more, which is taken
pub host_more : {h mid end : Memory} (calls : List Call) (s : Call) → Host h (map asks calls) (none_refused calls) mid → Takes mid (asks s) 0 end
    → Host h (map asks (calls ++ (s ∷ []))) (none_refused (calls ++ (s ∷ []))) end
host_more [] s over takes = asked (asks s) 0 takes over
host_more (c ∷ calls) s (asked _ _ first rest) takes = asked (asks c) 0 first (host_more calls s rest takes)
