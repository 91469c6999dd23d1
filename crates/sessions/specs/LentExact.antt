-- The promise of the exported calls on lent memory in which a table was accepted, over whole lists of them (§11.2).
use Rattle.std.specs.Prelude.{ℕ, ◌<◌, ◌≡◌, List, [], ◌∷◌, ◌++◌, map}
use Rattle.constraint.specs.Steps.{Step, close}
use Rattle.constraint.specs.Run.{Request, Left, none_left, Run}
use Rattle.constraint.specs.Table.{ReadsTableUpTo, table_of, table_refused}
use Rattle.constraint.specs.Recording.{ReadsRecording, recording_of, recording_refused}
use Rattle.constraint.specs.Report.{ReportsUpTo}
use Rattle.constraint.specs.Constraint.{Constraint}
use Rattle.in_place.specs.Layout.{Lent, words_of_lent}
use Rattle.in_place.specs.Steps.{leaves}
use Rattle.in_place.specs.Contract.{answer_from, ReadOff}
use Rattle.fresh.specs.Fresh.{BeginsUpTo, fresh_lent}
use Rattle.delkuthi.specs.Host.{Memory, Host, Untouched}
use Rattle.delkuthi.specs.Taking.{StepsBefore}
use Rattle.delkuthi.specs.Reporting.{ReportsOnUpTo, ReportsOf}
use Rattle.sessions.specs.Readers.{ReadsAs}
use Rattle.sessions.specs.Monitors.{Monitors}

-- ---- a report on the memory

-- after a recording: its steps and the close, or the steps before the record that was refused
pub data ReadsRecorded (h : Memory) (rows : List Constraint) (recording : List ℕ) : Type 0 where
  whole : (steps : List Step) → ReadsRecording rows recording (recording_of steps) → ReadsAs h rows (steps ++ (close ∷ []))
      → ReadsRecorded h rows recording
  cut : (n place : ℕ) (steps : List Step) → ReadsRecording rows recording (recording_refused n place) → StepsBefore rows recording place steps
      → ReadsAs h rows steps → ReadsRecorded h rows recording

-- §7.22, §11.2:
-- the report is that of its table and recording, whatever lay in the memory; where the table is refused the memory is as it was, and else
-- the readers read what the recording has left
pub record Reported (newest : ℕ) (before : Memory) (table recording buffer : List ℕ) (number : ℕ) (written : List ℕ) (h : Memory) : Type 0 where
  pub reports : ReportsUpTo newest table recording buffer number written
  pub refused : (n place : ℕ) → ReadsTableUpTo newest table (table_refused n place) → h ≡ before
  pub used : (rows : List Constraint) → ReadsTableUpTo newest table (table_of rows) → ReadsRecorded h rows recording

-- ---- every word

-- what a list of calls and withdrawals leaves of a lent monitor
unfoldable pub leaves_all : Lent → List Request → Lent
leaves_all h [] = h
leaves_all h (r ∷ requests) = leaves_all (leaves h r) requests

-- ---- the promise

-- §3.6, §3.8 and §3.13 for the exported calls, over a table's bytes and any list of calls and withdrawals: the numbers are the answers of the
-- questions, a refused call leaves the memory as it was, each word is known, and the memory monitors the table's rows after the steps that are left.
-- After the list the report of the monitor is that of the table and a recording of the steps that are left, a report on the memory is as §7.22 says,
-- and a `delkuthi_fresh` that is refused leaves the memory as it was: these two of every newest edition, and the others of the one that the first
-- call had
pub record LentExactUpTo (newest : ℕ) (bytes : List ℕ) {h end : Memory} {requests : List Request} {numbers : List ℕ}
    (host : Host h requests numbers end) : Type 0 where
  pub rows : List Constraint
  pub read : ReadsTableUpTo newest bytes (table_of rows)
  pub left : Left
  pub run : Run rows none_left requests (map answer_from numbers) left
  pub untouched : Untouched host
  pub words : end ≡ words_of_lent (leaves_all (fresh_lent rows) requests)
  pub monitors : Monitors end rows left
  pub recorded : (recording : List ℕ) (steps : List Step) → ReadsRecording rows recording (recording_of steps) → left.steps ≡ steps ++ (close ∷ [])
      → (buffer : List ℕ) (number : ℕ) (written : List ℕ) → ReadOff end (λ m answer. ReportsOf m buffer answer written) number
      → ReportsUpTo newest bytes recording buffer number written
  pub reported : {other : ℕ} (table recording buffer : List ℕ) (number : ℕ) (written : List ℕ) (after : Memory)
      → ReportsOnUpTo other end table recording buffer number written after → Reported other end table recording buffer number written after
  pub refused : {other : ℕ} (table : List ℕ) (number : ℕ) (after : Memory) → BeginsUpTo other table end number after → 0 < number → after ≡ end

-- §11.2: the same for a table of the first edition
abbrev pub LentExact : List ℕ → {h end : Memory} {requests : List Request} {numbers : List ℕ} → Host h requests numbers end → Type 0
LentExact bytes host = LentExactUpTo 1 bytes host
