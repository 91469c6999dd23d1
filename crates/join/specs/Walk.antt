-- The pass over one recording, and the walk over both.
use Rattle.std.specs.Prelude.{ℕ, ◌+◌, ◌-◌, ◌≤◌, ◌<◌, ◌≡◌, Bool, true, false, cond, List, [], ◌∷◌, ◌++◌, ◌&&◌, length, leb, ltb, set, get_or}
use Rattle.std.specs.Prelude.{Option, Some, None, Result, Ok, Err}
use Rattle.std.proofs.lemmas.List.Edits.{sets}
use Rattle.constraint.specs.Bytes.{bytes_of}
use Rattle.constraint.specs.Limits.{last_time}
use Rattle.constraint.specs.Steps.{Step, among}
use Rattle.constraint.specs.Run.{step_for}
use Rattle.constraint.specs.Records.{Decides}
use Rattle.constraint.specs.Table.{length_at}
use Rattle.constraint.specs.Recording.{call_at, RecordAt, ReadsInOrder, recording_of, recording_refused}
use Rattle.constraint.specs.Answers.{refused_number}
use Rattle.constraint.specs.declared.Call.{Call}
use Rattle.constraint.specs.declared.Refusal.{Refusal}
use Rattle.constraint.specs.declared.RefusedAt.{RefusedAt}
use Rattle.constraint.specs.Joined.{time_of, merged, is_dropped, event_bytes, coloured_bytes, tick_bytes, step_bytes, joined_bytes, kinds_of, FirstOf}
use Rattle.recording.specs.Record.{ReadsCall}
use Rattle.recording.specs.declared.CallRead.{CallRead}
use Rattle.join.specs.declared.Head.{Head}
use Rattle.join.specs.declared.Part.{Part}
use Rattle.join.specs.declared.Next.{Next}
use Rattle.join.specs.declared.Passed.{Passed}

-- ---- a call as a record

-- its bytes
abbrev pub call_bytes : Call → List ℕ
call_bytes (Call.Event k t) = event_bytes k t
call_bytes (Call.ColouredEvent k c t) = coloured_bytes k c t
call_bytes (Call.Tick t) = tick_bytes t
call_bytes Call.Close = []

-- its kind
abbrev pub call_kind : Call → Option ℕ
call_kind (Call.Event k t) = Some k
call_kind (Call.ColouredEvent k c t) = Some k
call_kind (Call.Tick t) = None
call_kind Call.Close = None

-- its head; where there is no record, the time is later than any
abbrev pub head_for : Call → Head
head_for (Call.Event k t) = record { size = 11; time = t; kind = k; colour = 0 }
head_for (Call.ColouredEvent k c t) = record { size = 12; time = t; kind = k; colour = c }
head_for (Call.Tick t) = record { size = 10; time = t; kind = 0; colour = 0 }
head_for Call.Close = record { size = 0; time = 18446744073709551615; kind = 0; colour = 0 }

-- what is left of it at a clock, and the clock then
abbrev pub left_bytes : ℕ → Call → List ℕ
left_bytes now call = cond (is_dropped now (step_for call)) [] (call_bytes call)

abbrev pub left_clock : ℕ → Call → ℕ
left_clock now call = cond (is_dropped now (step_for call)) now (time_of (step_for call))

-- ---- a head as a record

-- the call that is read; a close, which no record is, where none is
abbrev pub call_read : Result CallRead Refusal → Call
call_read (Ok r) = r.call
call_read (Err refusal) = Call.Close

-- the head of the record that is read at a place
abbrev pub HeadAt : List ℕ → ℕ → Head → Type 0
HeadAt bytes place h = (r : Result CallRead Refusal) × ReadsCall bytes place r × (h ≡ head_for (call_read r))

-- it is that of a record
abbrev pub RecordSize : Head → Type 0
RecordSize h = (10 ≤ h.size) × (h.size ≤ 12)

-- the bytes before its time, and all
abbrev pub head_front : Head → List ℕ
head_front h = 0 ∷ (h.size - 2) ∷ cond (leb h.size 10) [] (h.kind ∷ cond (leb h.size 11) [] (h.colour ∷ []))

abbrev pub head_bytes : Head → List ℕ
head_bytes h = head_front h ++ bytes_of 8 h.time

-- whether it is kept at a clock
abbrev pub is_kept : ℕ → Head → Bool
is_kept now h = cond (ltb 10 h.size) true (ltb now h.time)

-- a record behind the first `size` bytes: kept or dropped within a limit, and stored unless the buffer is shorter than that
pub record KeepsWithin (before : List ℕ) (size limit now : ℕ) (h : Head) (r : Part) (after : List ℕ) : Type 0 where
  pub kept : is_kept now h ≡ true → (r.size ≡ size + h.size) × (r.size ≤ limit) × (r.clock ≡ h.time)
      × (limit ≤ length before → after ≡ sets before size (head_bytes h))
  pub dropped : is_kept now h ≡ false → (r.size ≡ size) × (r.clock ≡ now) × (after ≡ before)

-- or it goes past it
abbrev pub Keeps : List ℕ → ℕ → ℕ → ℕ → Head → Option Part → List ℕ → Type 0
Keeps before size limit now h (Some r) after = KeepsWithin before size limit now h r after
Keeps before size limit now h None after = (is_kept now h ≡ true) × (limit < size + h.size)

-- ---- the walk

-- the records from a place on, each with the bytes of its step
pub data Records (bytes : List ℕ) : ℕ → List Step → Type 0 where
  none : {place : ℕ} → length bytes ≤ place → Records bytes place []
  more : {place : ℕ} {rest : List Step} → place < length bytes → RecordAt bytes place
      → call_bytes (call_at bytes place) ≡ step_bytes (step_for (call_at bytes place)) → time_of (step_for (call_at bytes place)) ≤ last_time
      → Records bytes (place + 2 + length_at bytes place) rest → Records bytes place (step_for (call_at bytes place) ∷ rest)

-- what is left behind the record that comes next
pub record Behind (one two : List ℕ) (first second : List Step) (call : Call) (r : Next) : Type 0 where
  pub rest : List Step
  pub other : List Step
  pub is : merged first second ≡ step_for call ∷ merged rest other
  pub records : Records one r.first rest
  pub others : Records two r.second other
  pub bytes : call_bytes call ≡ step_bytes (step_for call)

-- the record that comes next, from a place in each recording on, or that there is none
pub record Nexts (one two : List ℕ) (place other : ℕ) (r : Next) : Type 0 where
  pub call : Call
  pub head_is : r.head ≡ head_for call
  pub there : 0 < r.head.size → (first second : List Step) → Records one place first → Records two other second
      → Behind one two first second call r
  pub ends : r.head.size ≡ 0 → (first second : List Step) → Records one place first → Records two other second → merged first second ≡ []
  pub less : 0 < r.head.size → (length one - r.first) + (length two - r.second) < (length one - place) + (length two - other)

-- the walk over both: this is the length of the joined recording, which is stored in front unless the buffer is shorter than the limit; or it is
-- longer than the limit
abbrev pub Walks : List ℕ → List ℕ → List ℕ → ℕ → Option ℕ → List ℕ → Type 0
Walks one two before limit (Some size) after =
    (first second : List Step) → Records one 1 first → Records two 1 second
    → (size ≡ length (joined_bytes one two first second)) × (size ≤ limit)
    × (limit ≤ length before → after ≡ sets before 0 (joined_bytes one two first second))
Walks one two before limit None after =
    (first second : List Step) → Records one 1 first → Records two 1 second → limit < length (joined_bytes one two first second)

-- whether the joined recording is longer than a limit
abbrev pub OutgrowsIn : List ℕ → List ℕ → ℕ → Bool → Type 0
OutgrowsIn one two limit r =
    (first second : List Step) → Records one 1 first → Records two 1 second → Decides (limit < length (joined_bytes one two first second)) r

-- ---- the pass

-- a mark for each kind: whether it is among some
pub record Marks (marks : List Bool) (kinds : List ℕ) : Type 0 where
  pub each : (k : ℕ) → k < 64 → get_or marks k false ≡ among k kinds
  pub size : length marks ≡ 64

-- the mark of a kind, and all with one more
abbrev pub is_marked : List Bool → Option ℕ → Bool
is_marked marks (Some k) = ltb k 64 && get_or marks k false
is_marked marks None = false

abbrev pub marked_with : List Bool → Option ℕ → List Bool
marked_with marks (Some k) = cond (ltb k 64) (set marks k true) marks
marked_with marks None = marks

-- the search for the first record of some kinds: none so far, or found
abbrev pub Found : List ℕ → List ℕ → List Step → Option ℕ → Type 0
Found kinds bytes steps None = (k : ℕ) → among k kinds ≡ true → among k (kinds_of steps) ≡ false
Found kinds bytes steps (Some place) = FirstOf kinds bytes 1 place × ((k : ℕ) × (among k kinds ≡ true) × (among k (kinds_of steps) ≡ true))

-- the place that is found, with the record at one place more
abbrev pub first_common : Option ℕ → Bool → ℕ → Option ℕ
first_common (Some found) avoided place = Some found
first_common None avoided place = cond avoided (Some place) None

-- the pass over a recording: its steps, their kinds, and the first record of the kinds to avoid; or refused
abbrev pub Passes : List ℕ → List Bool → Result Passed RefusedAt → Type 0
Passes bytes avoid (Ok r) = (steps : List Step) × ReadsInOrder bytes (recording_of steps) × Marks r.kinds (kinds_of steps)
    × ((kinds : List ℕ) → Marks avoid kinds → Found kinds bytes steps r.common)
Passes bytes avoid (Err refused) = ReadsInOrder bytes (recording_refused (refused_number refused) refused.place)
