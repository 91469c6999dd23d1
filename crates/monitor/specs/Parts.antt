-- What the monitor's own parts compute.
use Rattle.std.specs.Prelude.{ℕ, ◌≡◌, true, false, cond, ◌&&◌, List, ltb}
use Rattle.constraint.specs.Limits.{row_limit}
use Rattle.constraint.specs.declared.Verdict.{Verdict}
use Rattle.row.specs.Machine.{row_step}
use Rattle.row.specs.Undo.{saved_by, row_without, kept_without}
use Rattle.row.specs.declared.RowUndo.{RowUndo}
use Rattle.row.specs.declared.StepInput.{StepInput}
use Rattle.row.specs.declared.Row.{Row}
use Rattle.monitor.specs.Machine.{map_first, zip_first, any_first}
use Rattle.monitor.specs.declared.Monitor.{Monitor}
use Rattle.monitor.specs.Stepped.{RowVerdict}
use Rattle.monitor.specs.Stepped.{RowsStepped}

-- ---- every row, one after the other

-- the monitor with other rows, and what is kept of them
abbrev pub with_rows : Monitor → List Row → List RowUndo → Monitor
with_rows m rows before =
    record {
      rows = rows;
      next = m.next;
      clock = m.clock;
      count = m.count;
      closed = m.closed;
      len = m.len;
      before = before;
      undo = m.undo;
    }

-- the monitor with each of its first n rows after what occurs, which is the step of that number
abbrev pub stepped_rows : Monitor → ℕ → StepInput → ℕ → Monitor
stepped_rows m n o number = with_rows m (map_first n (λ r. (row_step r o number).row) m.rows) (zip_first n (saved_by o number) m.rows m.before)

-- and with each of them without the step of that number
abbrev pub rows_without : Monitor → ℕ → ℕ → Monitor
rows_without m n number =
    with_rows m (zip_first n (λ b r. row_without number r b) m.before m.rows) (zip_first n (λ r b. kept_without number b) m.rows m.before)

-- what occurs, which is the step of that number: the monitor with each row after it, or as it was where that crowds a row
pub record RowsAfter (m : Monitor) (o : StepInput) (number : ℕ) (result : RowsStepped) : Type 0 where
  pub crowded_is : result.crowded ≡ any_first m.len (λ r. (row_step r o number).crowded) m.rows
  pub stepped : result.crowded ≡ false → result.monitor ≡ stepped_rows m m.len o number
  pub as_it_was : result.crowded ≡ true → result.monitor ≡ m

-- ---- a row's verdict by its numbers

-- the place of row i: i itself, or 0 where no monitor has a row i
abbrev pub place_of : ℕ → ℕ
place_of i = cond (ltb i row_limit) i 0

-- row i of len rows, closed or not, broken at a step or (0) not broken; 15 where there is no row i (§8.15)
abbrev pub verdict_by : ℕ → ℕ → ℕ → ℕ → RowVerdict
verdict_by i len closed broken =
    cond (ltb i len && ltb i row_limit)
    (RowVerdict.Reads (cond (ltb 0 broken) (Verdict.Broken broken) (cond (ltb 0 closed) Verdict.Kept Verdict.Open)))
    (RowVerdict.Refused 15)
