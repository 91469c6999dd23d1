-- §3.6 to §3.8 and §3.13 to §3.15 as one claim about a monitor's functions: over every table, every list of calls and withdrawals, and every row
-- (01, time; CR 9).
use Rattle.std.specs.Prelude.{ℕ, ◌≡◌, List, [], ◌∷◌, ◌++◌, length}
use Rattle.std.proofs.Math.Option.{Option, none, some}
use Rattle.std.proofs.Math.ListN.{get_elem?}
use Rattle.constraint.specs.Steps.{Step}
use Rattle.constraint.specs.Continuation.{Reads}
use Rattle.constraint.specs.Answer.{Answer}
use Rattle.constraint.specs.Answer.{Refused}
use Rattle.constraint.specs.Accepted.{Accepted}
use Rattle.constraint.specs.Run.{Request, Left, none_left, Run, Keeps}
use Rattle.constraint.specs.Constraint.{Constraint}
use Rattle.constraint.specs.declared.Verdict.{Verdict}

-- §3.4; 01, time: the result of a request: the answer, and the monitor after it
pub record Outcome (Monitor : Type 0) : Type 0 where
  pub answer : Answer
  pub monitor : Monitor

-- §3.4; 01, time: the result of a list of requests: the answer to each, and the monitor after the last
pub record Played (Monitor : Type 0) : Type 0 where
  pub answers : List Answer
  pub monitor : Monitor

-- §2.4 to §2.6, §8.15; 01, questions: the verdict of a row number: what the row reads, or none if no row has that number
pub data ReadsRow (rows : List Constraint) (steps : List Step) (i : ℕ) : Option Verdict → Type 0 where
  row : (c : Constraint) (v : Verdict) → get_elem? rows i ≡ some c → Reads c steps v → ReadsRow rows steps i (some v)
  no_row_lem : get_elem? rows i ≡ none → ReadsRow rows steps i none

-- §3.4, §3.13; 01, time; CR 9: runs the requests in order, each on the monitor that the previous one left
unfoldable pub play : {Monitor : Type 0} → (Monitor → Request → Outcome Monitor) → Monitor → List Request → Played Monitor
play step m [] = record { answers = []; monitor = m }
play step m (r ∷ requests) =
    let later = play step (step m r).monitor requests in
    record { answers = (step m r).answer ∷ later.answers; monitor = later.monitor }

module _ {Monitor : Type 0} (fresh : List Constraint → Monitor) (step : Monitor → Request → Outcome Monitor)
    (verdict : Monitor → ℕ → Option Verdict) where
  -- §3.6 to §3.8, §3.13 to §3.15; 01, time; CR 9: what a monitor promises
  pub record Promise : Type 0 where
    -- §3.1, §3.6, §3.13; 01, time; CR 9:
    -- over an accepted table and after any list of requests, the answers are those of the questions, and each row reads what the definitions say
    -- about the steps that are left
    pub exact : (rows : List Constraint) → Accepted rows → (requests : List Request)
        → (left : Left) × Run rows none_left requests (play step (fresh rows) requests).answers left
        × ((i : ℕ) → ReadsRow rows left.steps i (verdict (play step (fresh rows) requests).monitor i))
    -- §3.8, §3.14, §9.2; 01, questions; CR 9: a refusal leaves the monitor as it was
    pub untouched : (m : Monitor) (r : Request) (n : ℕ) → (step m r).answer ≡ Refused n → (step m r).monitor ≡ m
    -- §3.7, §3.15; 01, time; CR 9: a row that is broken after some requests is still broken at the same step after further requests, if these
    -- withdraw none of the steps that were left
    pub final : (rows : List Constraint) → Accepted rows → (requests further : List Request) {answers more : List Answer} {left end : Left}
        → Run rows none_left requests answers left → (run : Run rows left further more end) → Keeps (length left.steps) run
        → (i n : ℕ) → verdict (play step (fresh rows) requests).monitor i ≡ some (Verdict.Broken n)
        → verdict (play step (fresh rows) (requests ++ further)).monitor i ≡ some (Verdict.Broken n)
