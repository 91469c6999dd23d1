-- Lists of steps that look the same to one row (§3.10, §3.11).
use Rattle.std.specs.Prelude.{ℕ, ◌<◌, ◌≡◌, Bool, List, [], ◌∷◌, map, length}
use Rattle.constraint.specs.Streams.{kind_of}
use Rattle.constraint.specs.Steps.{Step, event, tick, close, at}
use Rattle.constraint.specs.Accepted.{kinds}
use Rattle.constraint.specs.Run.{asks, none_left, Run}
use Rattle.constraint.specs.Promise.{play}
use Rattle.constraint.specs.Answer.{Answer}
use Rattle.constraint.specs.Answer.{Taken, Refused}
use Rattle.constraint.specs.declared.Call.{Call}
use Rattle.constraint.specs.Constraint.{Constraint}
use Rattle.monitor.specs.Machine.{monitor_of}
use Rattle.monitor.specs.Contract.{step}

-- §3.10; CR 7: s is a stream of one of the row's kinds
abbrev pub OwnStream : Constraint → ℕ → Type 0
OwnStream c s = (i : ℕ) × (i < length (kinds c)) × (at (kinds c) i ≡ kind_of s)

-- §3.10; CR 7: "other steps": neither an event of the row's kinds nor the close, the clock being at t after it, as an event or a tick leaves it at
-- its own time
abbrev pub OtherAt : Constraint → ℕ → Step → Type 0
OtherAt c t (event s time) = (¬ OwnStream c s) × (time ≡ t)
OtherAt c t (tick time) = time ≡ t
OtherAt c t close = ⊥

-- §3.10; CR 7: two steps beside each other for the row: one event of its kinds in both, others after which the clocks agree, or the close in both
pub data Beside (c : Constraint) : Step → Step → Type 0 where
  same_event : (s t : ℕ) → OwnStream c s → Beside c (event s t) (event s t)
  others : (t : ℕ) {a b : Step} → OtherAt c t a → OtherAt c t b → Beside c a b
  closes : Beside c close close

-- §3.10; CR 7: two lists beside each other at each place, and so of one length
pub data EachBeside (c : Constraint) : List Step → List Step → Type 0 where
  no_more : EachBeside c [] []
  place : {a b : Step} {first second : List Step} → Beside c a b → EachBeside c first second → EachBeside c (a ∷ first) (b ∷ second)

-- §3.10; CR 7: the answers to a list of calls that are all taken
abbrev pub all_taken : List Call → List Answer
all_taken calls = map (λ call. Taken) calls

-- §3.10; CR 7: an "accepted list" over a table: the questions take every call, and these are the steps
abbrev pub TakesAll : List Constraint → List Call → List Step → Type 0
TakesAll rows calls steps = (may : Bool) × Run rows none_left (map asks calls) (all_taken calls) (record { steps = steps; may = may })

-- §3.11: the answers that a monitor, fresh over the rows, gives to a list of calls
abbrev pub answers_to : List Constraint → List Call → List Answer
answers_to rows calls = (play step (monitor_of rows) (map asks calls)).answers

-- §3.11; CR 7: no call is refused for a row's 64
abbrev pub NoneFull : List Answer → Type 0
NoneFull [] = Unit {0}
NoneFull (a ∷ answers) = (¬ (a ≡ Refused 12)) × NoneFull answers
