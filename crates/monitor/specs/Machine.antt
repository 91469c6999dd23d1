-- The monitor's machine: total functions on the records, which the contracts equal.
use Rattle.std.specs.Prelude.{ℕ, zero, suc, ◌-◌, ◌≡◌, Bool, false, cond, ◌&&◌, ◌||◌, List, [], ◌∷◌, ◌++◌, map, length, get_or, set, replicate, ltb}
use Rattle.std.proofs.Math.Option.{Option, none, some}
use Rattle.constraint.specs.Limits.{stream_count, row_limit}
use Rattle.constraint.specs.Records.{filler}
use Rattle.constraint.specs.Answer.{Taken, Refused}
use Rattle.constraint.specs.declared.Call.{Call}
use Rattle.constraint.specs.Constraint.{Constraint}
use Rattle.constraint.specs.declared.Verdict.{Verdict}
use Rattle.row_type.specs.Parts.{plus}
use Rattle.row.specs.Machine.{row_of, row_step, row_verdict}
use Rattle.row.specs.Undo.{no_row_undo, saved_by, row_without, kept_without}
use Rattle.row.specs.declared.StepInput.{StepInput}
use Rattle.row.specs.declared.Row.{Row}
use Rattle.questions.specs.Questions.{no_undo, place_for, place_in, refusal_by, step_input_by, free_after, closed_after, undo_by}
use Rattle.monitor.specs.declared.Monitor.{Monitor}
use Rattle.monitor.specs.Stepped.{Stepped}

-- a place for a row that no row was put in
abbrev pub no_row : Row
no_row = row_of filler

-- §1.6, §3.2: over the rows, the clock at 0, no events, count 0, not closed
unfoldable pub monitor_of : List Constraint → Monitor
monitor_of rows =
    record {
      rows = map row_of rows ++ replicate (row_limit - length rows) no_row;
      next = replicate stream_count 0;
      clock = 0;
      count = 0;
      closed = 0;
      len = length rows;
      before = replicate row_limit no_row_undo;
      undo = no_undo;
    }

-- each of the first n rows changed, the others as they are
unfoldable pub map_first : ℕ → (Row → Row) → List Row → List Row
map_first zero f rows = rows
map_first (suc n) f [] = []
map_first (suc n) f (r ∷ rows) = f r ∷ map_first n f rows

-- each of the first n of the one list changed by its neighbour in the other, the rest as they are
unfoldable pub zip_first : {A B : Type 0} → ℕ → (A → B → B) → List A → List B → List B
zip_first zero f others list = list
zip_first (suc n) f [] list = list
zip_first (suc n) f (a ∷ others) [] = []
zip_first (suc n) f (a ∷ others) (b ∷ list) = f a b ∷ zip_first n f others list

-- one of the first n rows has the mark
unfoldable pub any_first : ℕ → (Row → Bool) → List Row → Bool
any_first zero f rows = false
any_first (suc n) f [] = false
any_first (suc n) f (r ∷ rows) = f r || any_first n f rows

abbrev pub refuses : ℕ → Monitor → Stepped
refuses n m = record { answer = Refused n; monitor = m }

abbrev pub takes : Monitor → Stepped
takes m = record { answer = Taken; monitor = m }

-- the number of the step that is taken next
abbrev pub next_step : Monitor → ℕ
next_step m = plus m.count 1

-- ---- a call

abbrev pub next_for : Monitor → Call → ℕ
next_for m call = get_or m.next (place_for call) 0

-- the number of its first "no" but 12, or 0
abbrev pub refusal_for : Monitor → Call → ℕ
refusal_for m call = refusal_by call m.closed m.count m.clock (next_for m call)

abbrev pub step_input_of : Monitor → Call → StepInput
step_input_of m call = step_input_by call m.clock

-- each row after the call, which is the next step
unfoldable pub taken_call : Monitor → Call → Monitor
taken_call m call =
    record {
      rows = map_first m.len (λ r. (row_step r (step_input_of m call) (next_step m)).row) m.rows;
      next = set m.next (place_for call) (free_after call (next_for m call));
      clock = (step_input_of m call).time;
      count = next_step m;
      closed = closed_after call m.closed;
      len = m.len;
      before = zip_first m.len (saved_by (step_input_of m call) (next_step m)) m.rows m.before;
      undo = undo_by call m.closed m.clock (next_for m call) m.count;
    }

-- the call crowds one of the rows
abbrev pub crowds : Monitor → Call → Bool
crowds m call = any_first m.len (λ r. (row_step r (step_input_of m call) (next_step m)).crowded) m.rows

-- the refusal by that number; or, for 0, 12, or the call is taken
abbrev pub stepped_by : Monitor → Call → ℕ → Stepped
stepped_by m call number = cond (ltb 0 number) (refuses number m) (cond (crowds m call) (refuses 12 m) (takes (taken_call m call)))

unfoldable pub step_of : Monitor → Call → Stepped
step_of m call = stepped_by m call (refusal_for m call)

-- the verdict of a row number, or none where there is no row of that number
unfoldable pub verdict_of : Monitor → ℕ → Option Verdict
verdict_of m i = cond (ltb i m.len && ltb i row_limit) (some (row_verdict (get_or m.rows i no_row) (ltb 0 m.closed))) none

-- ---- withdrawing the last step

-- §3.12: the rows, what is kept of them, and the other numbers, as they were before the last step (§3.12); nothing may be withdrawn then
unfoldable pub withdrawn : Monitor → Monitor
withdrawn m =
    record {
      rows = zip_first m.len (λ b r. row_without m.count r b) m.before m.rows;
      next = set m.next (place_in m.undo.place) m.undo.next;
      clock = m.undo.clock;
      count = m.undo.count;
      closed = m.undo.closed;
      len = m.len;
      before = zip_first m.len (λ r b. kept_without m.count b) m.rows m.before;
      undo = no_undo;
    }

-- §8.21: 21 where nothing may be withdrawn
unfoldable pub withdraw_of : Monitor → Stepped
withdraw_of m = cond (ltb 0 m.undo.may) (takes (withdrawn m)) (refuses 21 m)

-- §3.14: the monitor but for what may be withdrawn: its rows, first free times, clock, count, close and number of rows
unfoldable pub bare : Monitor → Monitor
bare m =
    record {
      rows = m.rows;
      next = m.next;
      clock = m.clock;
      count = m.count;
      closed = m.closed;
      len = m.len;
      before = [];
      undo = no_undo;
    }

-- §3.14: two monitors that are the same in every word but what may be withdrawn
abbrev pub SameBare : Monitor → Monitor → Type 0
SameBare a b = bare a ≡ bare b
