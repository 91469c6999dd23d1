-- What the search keeps of a recording, and what its parts promise.
use Rattle.std.specs.Prelude.{Option, Some as Is, None, Result, Ok, Err}
use Rattle.std.specs.Prelude.{ℕ, ◌+◌, ◌≤◌, ◌<◌, min, ◌≡◌, cond, List, [], ◌∷◌, length, take, drop, get_or, set, eqb, leb}
use Rattle.constraint.specs.Limits.{stream_count}
use Rattle.constraint.specs.Steps.{Step, event, tick, close, at}
use Rattle.constraint.specs.Records.{Decides}
use Rattle.constraint.specs.Accepted.{Accepted}
use Rattle.constraint.specs.Recording.{ReadsInOrder, recording_of, recording_refused}
use Rattle.constraint.specs.Constraint.{Constraint}
use Rattle.row.specs.Machine.{event_at, tick_at}
use Rattle.row.specs.declared.StepInput.{StepInput}
use Rattle.constraint.specs.Stretches.{TakesEach, Breaks, stretch_of, stretches, Some, FirstAt, Breaking, Stretch, record_limit}
use Rattle.constraint.specs.Answers.{refused_number}
use Rattle.constraint.specs.declared.FoundStretch.{FoundStretch}
use Rattle.constraint.specs.declared.RefusedAt.{RefusedAt}
use Rattle.stretch.specs.declared.KeptRecord.{KeptRecord}
use Rattle.constraint.specs.Stretches.{StretchAnswer}

-- a record as two numbers, its stream and its time; the number after the last stream stands for a tick
abbrev pub step_as : ℕ → ℕ → Step
step_as s t = cond (eqb s stream_count) (tick t) (event s t)

-- what a row sees of it
abbrev pub seen_as : ℕ → ℕ → StepInput
seen_as s t = cond (eqb s stream_count) (tick_at t) (event_at s t)

-- the record of a place that has none
abbrev pub no_kept : KeptRecord
no_kept = record { stream = 0; time = 0 }

-- the step of the record at a place, and what a row sees of it
abbrev pub step_at : List KeptRecord → ℕ → Step
step_at records i = step_as (get_or records i no_kept).stream (get_or records i no_kept).time

abbrev pub seen_at : List KeptRecord → ℕ → StepInput
seen_at records i = seen_as (get_or records i no_kept).stream (get_or records i no_kept).time

-- the records are those of the first 256 steps
abbrev pub Kept : List Step → List KeptRecord → Type 0
Kept steps records = (i : ℕ) → i < length steps → i < record_limit → get_or steps i close ≡ step_at records i

-- one record more, as long as there is room; the count is 257 from then on
pub record KeepsRecord (records : List KeptRecord) (count : ℕ) (o : StepInput) (records' : List KeptRecord) (count' : ℕ) : Type 0 where
  pub room : count < record_limit → (count' ≡ count + 1) × (records' ≡ set records count (record { stream = o.stream; time = o.time }))
  pub full : record_limit ≤ count → (count' ≡ record_limit + 1) × (records' ≡ records)

-- the records of a recording: refused, or the first 256, and how many there are, 257 standing for more
abbrev pub GathersRecords : List ℕ → List KeptRecord → Result ℕ RefusedAt → Type 0
GathersRecords bytes records (Err refused) = ReadsInOrder bytes (recording_refused (refused_number refused) refused.place)
GathersRecords bytes records (Ok count) = (steps : List Step) × ReadsInOrder bytes (recording_of steps)
    × (count ≡ min (length steps) (record_limit + 1)) × Kept steps records

-- the numbers are those of all steps, which a monitor over no rows takes
pub record RunOf (steps : List Step) (records : List KeptRecord) (count : ℕ) : Type 0 where
  pub counted : length steps ≡ count
  pub kept : Kept steps records
  pub taken : TakesEach [] steps

-- the number decides for each length up to the rest whether that many records break the row: they do from that number on
abbrev pub Needs : Constraint → List Step → ℕ → Type 0
Needs c rest need = (m : ℕ) → 0 < m → m ≤ length rest → Decides (Breaks c (take m rest)) (leb need m)

-- from one start on
abbrev pub NeedsFrom : Constraint → List KeptRecord → ℕ → ℕ → ℕ → Type 0
NeedsFrom c records count start need =
    (steps : List Step) → RunOf steps records count → Accepted (c ∷ []) → start < count → Needs c (drop start steps) need

-- from each start on
abbrev pub NeedsEach : Constraint → List KeptRecord → ℕ → List ℕ → Type 0
NeedsEach c records count need = (start : ℕ) → start < count → NeedsFrom c records count start (get_or need start 0)

-- a stretch is as long as the number for its start says, or longer
abbrev pub Enough : List ℕ → Stretch → Type 0
Enough need s = at need s.first ≤ s.size

-- the first such stretch of n records with its place, or none
abbrev pub Searches : List ℕ → ℕ → Option FoundStretch → Type 0
Searches need n None = ¬ Some (Enough need) (stretches n)
Searches need n (Is found) = FirstAt (Enough need) (stretches n) (stretch_of found.first found.size) found.tried

-- what the search in one row answers: the first that breaks it, or 23
abbrev pub Tries : Constraint → List Step → StretchAnswer → Type 0
Tries c steps (StretchAnswer.Found first size tried) = FirstAt (Breaking c steps) (stretches (length steps)) (stretch_of first size) tried
Tries c steps (StretchAnswer.Refused n place) = (n ≡ 23) × (place ≡ 0) × (¬ Some (Breaking c steps) (stretches (length steps)))

abbrev pub TriesAll : Constraint → List KeptRecord → ℕ → StretchAnswer → Type 0
TriesAll c records count answer = (steps : List Step) → RunOf steps records count → Accepted (c ∷ []) → Tries c steps answer
