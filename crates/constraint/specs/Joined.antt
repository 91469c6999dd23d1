-- Two recordings joined: what the joined one holds, its bytes, and the answer (§13.1 to §13.8; CR 8).
use Rattle.std.specs.Prelude.{ℕ, ◌+◌, ◌-◌, ◌%◌, ◌≤◌, ◌<◌, max, ◌≡◌, Bool, true, false, cond, List, [], ◌∷◌, ◌++◌, length, drop, leb, ltb}
use Rattle.constraint.specs.Limits.{first_coloured}
use Rattle.constraint.specs.Streams.{kind_of}
use Rattle.constraint.specs.Steps.{Step, event, tick, close, at, among}
use Rattle.constraint.specs.Bytes.{bytes_of}
use Rattle.constraint.specs.Run.{step_for}
use Rattle.constraint.specs.Table.{length_at}
use Rattle.constraint.specs.Recording.{call_at, ReadsInOrder, recording_of, recording_refused}

-- §13.1; CR 8: the time of a record's step; no record is a close
abbrev pub time_of : Step → ℕ
time_of (event s t) = t
time_of (tick t) = t
time_of close = 0

-- §13.1; CR 8: the records of both, ordered by time. At equal times the records of the first recording come first
unfoldable pub merged : List Step → List Step → List Step
merged [] second = second
merged (a ∷ first) [] = a ∷ first
merged (a ∷ first) (b ∷ second) = cond (leb (time_of a) (time_of b)) (a ∷ merged first (b ∷ second)) (b ∷ merged (a ∷ first) second)

-- §13.2; CR 8: a tick that is not later than the clock is dropped
abbrev pub is_dropped : ℕ → Step → Bool
is_dropped now (event s t) = false
is_dropped now (tick t) = leb t now
is_dropped now close = false

-- §13.2; CR 8: the records that are not dropped, if the clock starts at `now`
unfoldable pub undropped : ℕ → List Step → List Step
undropped now [] = []
undropped now (s ∷ steps) = cond (is_dropped now s) (undropped now steps) (s ∷ undropped (time_of s) steps)

-- §13.1, §13.2; CR 8: what the joined recording holds
abbrev pub joined : List Step → List Step → List Step
joined first second = undropped 0 (merged first second)

-- §7.2; 01, recording: the bytes of a plain event
abbrev pub event_bytes : ℕ → ℕ → List ℕ
event_bytes kind t = 0 ∷ 9 ∷ kind ∷ bytes_of 8 t

-- §7.2; CR 6: the bytes of a coloured event
abbrev pub coloured_bytes : ℕ → ℕ → ℕ → List ℕ
coloured_bytes kind colour t = 0 ∷ 10 ∷ kind ∷ colour ∷ bytes_of 8 t

-- §7.2; 01, recording: the bytes of a tick
abbrev pub tick_bytes : ℕ → List ℕ
tick_bytes t = 0 ∷ 8 ∷ bytes_of 8 t

-- §7.2, §13.3; 01, recording; CR 6: the bytes of a record
unfoldable pub step_bytes : Step → List ℕ
step_bytes (event s t) = cond (ltb s first_coloured) (event_bytes s t) (coloured_bytes (kind_of s) ((s - first_coloured) % 8) t)
step_bytes (tick t) = tick_bytes t
step_bytes close = []

-- §7.1; 01, recording: the bytes of several records in order
unfoldable pub steps_bytes : List Step → List ℕ
steps_bytes [] = []
steps_bytes (s ∷ steps) = step_bytes s ++ steps_bytes steps

-- §7.1, §13.3; 01, recording; CR 6: the bytes of a recording: the version byte, then the records
abbrev pub recording_bytes : ℕ → List Step → List ℕ
recording_bytes version steps = version ∷ steps_bytes steps

-- §13.3; CR 8: the bytes of the joined recording. Its version is the higher of the two
abbrev pub joined_bytes : List ℕ → List ℕ → List Step → List Step → List ℕ
joined_bytes one two first second = recording_bytes (max (at one 0) (at two 0)) (joined first second)

-- §8.20; CR 8: the kinds of a recording's events
abbrev pub kinds_of : List Step → List ℕ
kinds_of [] = []
kinds_of (event s t ∷ steps) = kind_of s ∷ kinds_of steps
kinds_of (tick t ∷ steps) = kinds_of steps
kinds_of (close ∷ steps) = kinds_of steps

-- §8.20; CR 8: the step is an event of one of these kinds
abbrev pub of_kinds : List ℕ → Step → Bool
of_kinds kinds (event s t) = among (kind_of s) kinds
of_kinds kinds (tick t) = false
of_kinds kinds close = false

-- §8.20; CR 8: no kind occurs in both recordings, whatever its colour
unfoldable pub NoneInCommon : List Step → List Step → Type 0
NoneInCommon first second = (k : ℕ) → among k (kinds_of first) ≡ true → among k (kinds_of second) ≡ false

-- §8.20, §13.6; CR 8: the place of the first record of one of these kinds, from a place on
pub data FirstOf (kinds : List ℕ) (bytes : List ℕ) : ℕ → ℕ → Type 0 where
  here : {place : ℕ} → place < length bytes → of_kinds kinds (step_for (call_at bytes place)) ≡ true → FirstOf kinds bytes place place
  later : {place found : ℕ} → place < length bytes → of_kinds kinds (step_for (call_at bytes place)) ≡ false
      → FirstOf kinds bytes (place + 2 + length_at bytes place) found → FirstOf kinds bytes place found

-- §13.5, §13.8; CR 8: the length of the joined recording; or a refusal of the first or the second, with number and place; or too short a buffer
pub data JoinAnswer : Type 0 where
  Joined : ℕ → JoinAnswer
  FirstRefused : ℕ → ℕ → JoinAnswer
  SecondRefused : ℕ → ℕ → JoinAnswer
  TooShort : JoinAnswer

-- §8.16, §8.20, §13.4 to §13.8; CR 8: the answer to a join, and what the buffer holds afterwards
pub data AnswersJoin (one two before : List ℕ) : JoinAnswer → List ℕ → Type 0 where
  no_first : (n place : ℕ) → ReadsInOrder one (recording_refused n place) → AnswersJoin one two before (JoinAnswer.FirstRefused n place) before
  no_second : (first : List Step) (n place : ℕ) → ReadsInOrder one (recording_of first) → ReadsInOrder two (recording_refused n place)
      → AnswersJoin one two before (JoinAnswer.SecondRefused n place) before
  in_common : (first second : List Step) (place : ℕ) → ReadsInOrder one (recording_of first) → ReadsInOrder two (recording_of second)
      → ¬ NoneInCommon first second → FirstOf (kinds_of first) two 1 place → AnswersJoin one two before (JoinAnswer.SecondRefused 20 place) before
  too_short : (first second : List Step) → ReadsInOrder one (recording_of first) → ReadsInOrder two (recording_of second)
      → NoneInCommon first second → length before < length (joined_bytes one two first second) → AnswersJoin one two before JoinAnswer.TooShort before
  written : (first second : List Step) → ReadsInOrder one (recording_of first) → ReadsInOrder two (recording_of second)
      → NoneInCommon first second → length (joined_bytes one two first second) ≤ length before
      → AnswersJoin one two before (JoinAnswer.Joined (length (joined_bytes one two first second)))
      (joined_bytes one two first second ++ drop (length (joined_bytes one two first second)) before)
