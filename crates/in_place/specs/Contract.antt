-- What the words of a lent monitor say of the monitor that they are, and what a call and a withdrawal on them promise.
use Rattle.std.specs.Prelude.{ℕ, zero, suc, ◌<◌, ◌≤◌, ◌≡◌, Bool, false}
use Rattle.constraint.specs.Limits.{row_limit, waiting_limit}
use Rattle.constraint.specs.Run.{Request}
use Rattle.constraint.specs.Answer.{Answer}
use Rattle.constraint.specs.Answer.{Taken, Refused}
use Rattle.row.specs.Machine.{concerns, no_event}
use Rattle.monitor.specs.Contract.{Steps}
use Rattle.monitor.specs.declared.Monitor.{Monitor}
use Rattle.monitor.specs.Stepped.{Stepped}
use Rattle.in_place.specs.Layout.{Lent, Words, words_of_lent, Shaped, is_in, set_of, held_rows, row_at, kept_at, due_at}
use Rattle.in_place.specs.Steps.{number_of, leaves}

-- ---- answers

-- 0: taken; any other number: refused with it
abbrev pub answer_from : ℕ → Answer
answer_from zero = Taken
answer_from (suc n) = Refused (suc n)

-- §11.5: what a request gives, from its number and the monitor after it
abbrev pub stepped_from : ℕ → Monitor → Stepped
stepped_from number m = record { answer = answer_from number; monitor = m }

-- ---- the words agree with the monitor

-- the kind concerns row i
abbrev pub is_of : Monitor → ℕ → ℕ → Bool
is_of m kind i = concerns (row_at m i).parameters kind

-- in no row wait more than 64, nor did before its last step; and in a row that is not said to be nearly full at most 62
pub record FullSound (h : Lent) : Type 0 where
  pub now_few : (i : ℕ) → i < held_rows h.monitor → (row_at h.monitor i).now.len ≤ waiting_limit
  pub then_few : (i : ℕ) → i < held_rows h.monitor → (kept_at h.monitor i).state.len ≤ waiting_limit
  pub has_room : (i : ℕ) → i < held_rows h.monitor → is_in h.full i ≡ false → (row_at h.monitor i).now.len ≤ 62

-- the numbers of a monitor are those of one: at most 32 rows, and 1 for closed
pub record SoundNumbers (m : Monitor) : Type 0 where
  pub rows_few : m.len ≤ row_limit
  pub closed_mark : m.closed ≤ 1
  pub closed_then : m.undo.closed ≤ 1

-- §11.4
-- each part has its size, the set of a kind is that of the rows that it concerns, a tick and the close concern none, and no row is due before the
-- soonest time
pub record Indexes (h : Lent) : Type 0 where
  pub shaped : Shaped h
  pub sound : SoundNumbers h.monitor
  pub listed : (kind i : ℕ) → kind < 64 → i < held_rows h.monitor → is_in (set_of h kind) i ≡ is_of h.monitor kind i
  pub no_others : (kind i : ℕ) → kind < 64 → held_rows h.monitor ≤ i → i < row_limit → is_in (set_of h kind) i ≡ false
  pub no_ticks : (i : ℕ) → i < held_rows h.monitor → is_of h.monitor no_event i ≡ false
  pub no_sooner : (i : ℕ) → i < held_rows h.monitor → h.soonest ≤ due_at h.monitor i
  pub roomy : FullSound h

-- ---- a call or a withdrawal

-- §11.2
-- a refusal changes no word, whatever was lent; where the words are those of a monitor, the request is the monitor's, and each word is known that it
-- leaves
pub record Takes (entry : Words) (r : Request) (number : ℕ) (exit : Words) : Type 0 where
  pub untouched : ¬ (number ≡ 0) → exit ≡ entry
  pub stores : (h : Lent) → entry ≡ words_of_lent h → Shaped h → (number ≡ number_of h r) × (exit ≡ words_of_lent (leaves h r))
  pub steps : (h : Lent) → entry ≡ words_of_lent h → Indexes h → Steps h.monitor r (stepped_from number (leaves h r).monitor) × Indexes (leaves h r)

-- ---- what lies in the words

-- the words are those of a monitor, and agree with it
pub record HoldsMonitor (words : Words) (m : Monitor) : Type 0 where
  pub lent : Lent
  pub words_are : words ≡ words_of_lent lent
  pub indexes : Indexes lent
  pub monitor_is : lent.monitor ≡ m

-- ---- a call that only reads

-- whatever monitor lies in the words, the answer keeps the contract
abbrev pub ReadOff : Words → (Monitor → ℕ → Type 0) → ℕ → Type 0
ReadOff entry Asks answer = (m : Monitor) → HoldsMonitor entry m → Asks m answer
