-- The numbers that the functions on a lent monitor answer with, and what those functions promise.
use Rattle.std.specs.Prelude.{ℕ, ◌+◌, ◌*◌, ◌<◌, ◌≤◌, ◌≡◌, List, ◌⊎◌, length}
use Rattle.std.proofs.Math.Option.{Option, none, some}
use Rattle.constraint.specs.Accepted.{Accepted}
use Rattle.constraint.specs.Run.{Request, Left}
use Rattle.constraint.specs.Promise.{ReadsRow}
use Rattle.constraint.specs.Constraint.{Constraint}
use Rattle.constraint.specs.declared.Verdict.{Verdict}
use Rattle.monitor.specs.Machine.{verdict_of}
use Rattle.monitor.specs.Contract.{after, Remains, step_in}
use Rattle.monitor.specs.declared.Monitor.{Monitor}

-- ---- the library

-- §11.6: 1.0.0: major * 1,000,000 + minor * 1,000 + patch
abbrev pub version : ℕ
version = 1 * 1000000 + 0 * 1000 + 0

-- §11.6: the bytes of a lent monitor: 35 blocks of two arrays of 64 words of eight bytes
abbrev pub monitor_size : ℕ
monitor_size = 35 * 2 * 64 * 8

-- ---- verdicts

-- §11.5: the word for a verdict: 0 open, 1 kept, 2 broken; 15 where there is no row of that number
abbrev pub word_of : Option Verdict → ℕ
word_of (some Verdict.Open) = 0
word_of (some Verdict.Kept) = 1
word_of (some (Verdict.Broken n)) = 2
word_of none = 15

-- one of these words, as is answered whatever was lent
abbrev pub KnownWord : ℕ → Type 0
KnownWord word = (word ≤ 2) ⊎ (word ≡ 15)

-- a number for what a row number reads: that of its verdict after the steps that the requests have left
pub record NumberOfVerdict (number : Option Verdict → ℕ) (m : Monitor) (i answer : ℕ) : Type 0 where
  pub equals : answer ≡ number (verdict_of m i)
  pub means : (rows : List Constraint) (requests : List Request) → Accepted rows → m ≡ after rows requests
      → (left : Left) × Remains rows requests left × (verdict : Option Verdict) × ReadsRow rows left.steps i verdict × (answer ≡ number verdict)

-- §3.5, §11.2, §11.5: the word: 15 exactly where the table has no row of that number
pub record WordOfVerdict (m : Monitor) (i word : ℕ) : Type 0 where
  pub says : NumberOfVerdict word_of m i word
  pub no_row_lem : (rows : List Constraint) (requests : List Request) → Accepted rows → m ≡ after rows requests
      → (word ≡ 15 → length rows ≤ i) × (length rows ≤ i → word ≡ 15)

-- §3.5, §11.2, §11.5: the step that broke the row: 0 exactly where the word is not that for broken
pub record StepOfVerdict (m : Monitor) (i step : ℕ) : Type 0 where
  pub says : NumberOfVerdict step_in m i step
  pub broken : (0 < step → word_of (verdict_of m i) ≡ 2) × (word_of (verdict_of m i) ≡ 2 → 0 < step)

-- ---- rows

-- §11.2, §11.5: the number of rows
pub record NumberOfRows (m : Monitor) (number : ℕ) : Type 0 where
  pub equals : number ≡ m.len
  pub means : (rows : List Constraint) (requests : List Request) → Accepted rows → m ≡ after rows requests → number ≡ length rows
