-- Lists of calls and withdrawals: the answer to each, and the steps that are left (§3.1 to §3.3, §3.12 to §3.15, §8.21, §9.5; 01, time; CR 9).
use Rattle.std.specs.Prelude.{ℕ, ◌-◌, ◌≤◌, ◌<◌, ◌≡◌, Bool, true, false, List, [], ◌∷◌, ◌++◌, length, take}
use Rattle.std.proofs.Math.Option.{some}
use Rattle.std.proofs.Math.ListN.{get_elem?}
use Rattle.constraint.specs.Limits.{last_kind, first_coloured, last_colour, last_time, last_count, waiting_limit}
use Rattle.constraint.specs.Streams.{stream}
use Rattle.constraint.specs.Steps.{Step, event, tick, close, clock, closed}
use Rattle.constraint.specs.Continuation.{Open, EventInOrder}
use Rattle.constraint.specs.Waiting.{waiting}
use Rattle.constraint.specs.Questions.{Question, Judged}
use Rattle.constraint.specs.Answer.{Answer}
use Rattle.constraint.specs.Answer.{Taken, Refused}
use Rattle.constraint.specs.declared.Call.{Call}
use Rattle.constraint.specs.Constraint.{Constraint}

-- §3.3; 01, time; CR 6: the step that an accepted call makes
abbrev pub step_for : Call → Step
step_for (Call.Event k t) = event k t
step_for (Call.ColouredEvent k c t) = event (stream k c) t
step_for (Call.Tick t) = tick t
step_for Call.Close = close

-- §6.5, §8.12; 01, questions: every row that is open after the steps has at most 64 waiting
unfoldable pub Room : List Constraint → List Step → Type 0
Room rows steps = (i : ℕ) (c : Constraint) → get_elem? rows i ≡ some c → Open c steps → waiting c steps ≤ waiting_limit

-- §8.10 to §8.12; 01, questions: the last questions about an event of a stream
abbrev pub event_questions : List Constraint → List Step → ℕ → ℕ → List Question
event_questions rows steps s t = (10, t ≤ last_time) ∷ (11, EventInOrder steps s t) ∷ (12, Room rows (steps ++ (event s t ∷ []))) ∷ []

-- §8.9 to §8.12, §8.19; 01, questions; CR 6: the questions about one kind of call. A plain event has a plain kind. A coloured event has a coloured
-- kind and one of the colours
abbrev pub call_questions : List Constraint → List Step → Call → List Question
call_questions rows steps (Call.Event k t) = (9, k ≤ last_kind) ∷ (19, k < first_coloured) ∷ event_questions rows steps k t
call_questions rows steps (Call.ColouredEvent k c t) =
    (9, k ≤ last_kind) ∷ (19, (first_coloured ≤ k) × (c ≤ last_colour)) ∷ event_questions rows steps (stream k c) t
call_questions rows steps (Call.Tick t) = (10, t ≤ last_time) ∷ (11, clock steps < t) ∷ (12, Room rows (steps ++ (tick t ∷ []))) ∷ []
call_questions rows steps Call.Close = []

-- §1.4, §3.3, §8.8 to §8.11, §8.19, §8.24, §9.5; 01, questions; CR 12: all questions about a call, after the steps accepted before
unfoldable pub questions : List Constraint → List Step → Call → List Question
questions rows steps call = (8, closed steps ≡ false) ∷ (24, length steps < last_count) ∷ call_questions rows steps call

-- §3.12; CR 9: a request to a monitor: a call, or to withdraw the last step
pub data Request : Type 0 where
  asks : Call → Request
  withdraws : Request

-- §3.12; CR 9: the steps that are left, and whether the last of them may be withdrawn
pub record Left : Type 0 where
  pub steps : List Step
  pub may : Bool

-- §3.2; 01, time: what is left before any request: no step
abbrev pub none_left : Left
none_left = record { steps = []; may = false }

-- §8.21, §9.5 over the steps that are left, and §8.21; CR 9: the questions of a request
abbrev pub request_questions : List Constraint → Left → Request → List Question
request_questions rows left (asks call) = questions rows left.steps call
request_questions rows left withdraws = (21, left.may ≡ true) ∷ []

-- §1.7, §3.3, §3.9, §3.12; 01, time; CR 9:
-- what is left after a request and its answer. A refusal changes nothing. A step that is taken may be withdrawn. A withdrawal removes the last step,
-- and the step before it cannot be withdrawn. `take n steps` are the first n steps
abbrev pub left_by : Left → Request → Answer → Left
left_by left r (Refused n) = left
left_by left (asks call) Taken = record { steps = left.steps ++ (step_for call ∷ []); may = true }
left_by left withdraws Taken = record { steps = take (length left.steps - 1) left.steps; may = false }

-- §3.3, §3.13; 01, time; CR 9: the requests in order, from what was left before them to what is left after them
pub data Run (rows : List Constraint) : Left → List Request → List Answer → Left → Type 0 where
  done : {left : Left} → Run rows left [] [] left
  request : {left end : Left} {requests : List Request} {answers : List Answer} (r : Request) (a : Answer)
      → Judged (request_questions rows left r) a → Run rows (left_by left r a) requests answers end → Run rows left (r ∷ requests) (a ∷ answers) end

-- §3.15; CR 9: none of the first n steps is withdrawn: at least n steps are left after each request
abbrev pub Keeps : ℕ → {rows : List Constraint} {left end : Left} {requests : List Request} {answers : List Answer}
    → Run rows left requests answers end → Type 0
Keeps n done = Unit {0}
Keeps n (request {left = left} r a judged rest) = (n ≤ length (left_by left r a).steps) × Keeps n rest
