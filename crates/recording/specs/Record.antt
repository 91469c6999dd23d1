-- What the record reader's answer says.
use Rattle.std.specs.Prelude.{ℕ, ◌+◌, ◌≤◌, ◌≡◌, List, length, Option, Some, None, Result, Ok, Err}
use Rattle.constraint.specs.declared.Call.{Call}
use Rattle.constraint.specs.declared.Refusal.{Refusal}
use Rattle.constraint.specs.declared.Refusal.TheVariants.{Record}
use Rattle.constraint.specs.Table.{length_at, body_at}
use Rattle.constraint.specs.Recording.{call_of, call_at, RecordAt}
use Rattle.recording.specs.declared.CallRead.{CallRead}

-- the record at a place is whole, stands for a call and ends before another place (§7.2)
pub record CallAt (bytes : List ℕ) (place : ℕ) (call : Call) (next : ℕ) : Type 0 where
  pub there : RecordAt bytes place
  pub call_read : call_at bytes place ≡ call
  pub next_read : next ≡ place + 2 + length_at bytes place

-- how many bytes the record at the start of a stretch has, its length field among them; none where 14 refuses it (§8.14)
abbrev pub Sizes : List ℕ → Option ℕ → Type 0
Sizes stretch (Some size) = RecordAt stretch 0 × (size ≡ 2 + length_at stretch 0)
Sizes stretch None = ¬ RecordAt stretch 0

-- what the reader answers to the record at the start of a stretch: its call in a recording of a version and its size; or 14 refuses it (§8.14)
abbrev pub ReadsRecord : ℕ → List ℕ → Result CallRead Refusal → Type 0
ReadsRecord version stretch (Ok r) =
    RecordAt stretch 0 × (call_of version (body_at stretch 0) ≡ r.call) × (r.next ≡ 2 + length_at stretch 0)
ReadsRecord version stretch (Err refusal) = (¬ RecordAt stretch 0) × (refusal ≡ Record)

-- and to the record at a place: its call and the place behind it; or 14 refuses it
abbrev pub ReadsCall : List ℕ → ℕ → Result CallRead Refusal → Type 0
ReadsCall bytes place (Ok r) = CallAt bytes place r.call r.next
ReadsCall bytes place (Err refusal) = (¬ RecordAt bytes place) × (refusal ≡ Record)

-- a whole record of length 8 at a place
abbrev pub TickAt : List ℕ → ℕ → Type 0
TickAt bytes place = (place + 10 ≤ length bytes) × (length_at bytes place ≡ 8)

-- where the reader finds a tick, one is there, with this time (§7.2)
abbrev pub ReadsTick : List ℕ → ℕ → Option ℕ → Type 0
ReadsTick bytes place (Some time) = CallAt bytes place (Call.Tick time) (place + 10)
ReadsTick bytes place None = Unit
