-- What is kept of a row's stamps: where the last true time can be, over all choices and over those that are lower to upper apart so far.
use Rattle.std.specs.Prelude.{ℕ, ◌-◌, ◌≤◌, ◌<◌, min, max, ◌≡◌, Bool, true, cond, ◌&&◌, List, leb, eqb, Option, Some, None, Result, Ok, Err}
use Rattle.constraint.specs.Limits.{first_coloured, last_time, no_limit}
use Rattle.constraint.specs.Steps.{Step, times, clock}
use Rattle.constraint.specs.Questions.{Judged}
use Rattle.constraint.specs.Recording.{ReadsInOrder, recording_of, recording_refused}
use Rattle.constraint.specs.Stamps.{ReadsStamps, RepeatRow, stamps_questions}
use Rattle.constraint.specs.Answer.{Refused}
use Rattle.constraint.specs.Answers.{refusal_number, refused_number}
use Rattle.constraint.specs.declared.Call.{Call}
use Rattle.constraint.specs.Constraint.{Constraint}
use Rattle.constraint.specs.declared.Refusal.{Refusal}
use Rattle.constraint.specs.declared.RefusedAt.{RefusedAt}
use Rattle.constraint.specs.declared.StampedVerdict.{StampedVerdict}
use Rattle.row_type.specs.Parts.{plus}
use Rattle.hidden_points.specs.Sporadic.{stride}
use Rattle.table.specs.Scan.{RowOf}
use Rattle.table_row.specs.declared.TableRow.{TableRow}
use Rattle.stamps.specs.declared.LateRow.{LateRow}
use Rattle.stamps.specs.declared.Stamps.{Stamps}

-- the first place of a true time stamped t, behind one that is at low or later and by lower before it
abbrev pub next_low : ℕ → ℕ → ℕ → ℕ → ℕ
next_low lower late low t = max (plus low (stride lower)) (t - late)

-- its last place, behind one that is at high or earlier and by upper before it
abbrev pub next_high : ℕ → ℕ → ℕ → ℕ
next_high upper high t = cond (eqb upper no_limit) t (min (plus high upper) t)

-- with the first stamp
abbrev pub first_stamp : LateRow → ℕ → Stamps
first_stamp a t = record { stamp = t; earliest = t - a.late; low = t - a.late; high = t; each = true; some = true }

-- each two true times of the last two stamps are lower to upper apart: the narrowest gap and the widest are
abbrev pub pair_fits : LateRow → ℕ → ℕ → ℕ → ℕ → Bool
pair_fits a earliest next stamp t = leb a.lower (max 1 (next - stamp)) && leb t (plus earliest a.upper)

unfoldable pub later_stamp : LateRow → Stamps → ℕ → Stamps
later_stamp a s t =
    let next = next_low 0 a.late s.earliest t in
    let low = next_low a.lower a.late s.low t in
    let high = next_high a.upper s.high t in
    record {
      stamp = t;
      earliest = next;
      low = low;
      high = high;
      each = s.each && pair_fits a s.earliest next s.stamp t;
      some = s.some && (leb (stride a.lower) a.upper && leb low high);
    }

-- with one stamp more
abbrev pub stamp_after : LateRow → Option Stamps → ℕ → Stamps
stamp_after a (Some s) t = later_stamp a s t
stamp_after a None t = first_stamp a t

-- what a call makes of it: an event of the row's kind, which is plain, is a stamp
abbrev pub call_after : LateRow → Option Stamps → Call → Option Stamps
call_after a s (Call.Event k t) = cond (eqb k a.event) (Some (stamp_after a s t)) s
call_after a s (Call.ColouredEvent k c t) = s
call_after a s (Call.Tick t) = s
call_after a s Call.Close = s

-- what the row reads at the clock, behind a stamp and in any case
unfoldable pub close_verdict : LateRow → Stamps → ℕ → StampedVerdict
close_verdict a s now =
    cond (s.each && leb now (plus s.earliest a.upper)) StampedVerdict.Kept
    (cond (s.some && leb now (plus s.high a.upper)) StampedVerdict.Unsure StampedVerdict.Broken)

abbrev pub stamps_verdict : LateRow → Option Stamps → ℕ → StampedVerdict
stamps_verdict a (Some s) now = close_verdict a s now
stamps_verdict a None now = StampedVerdict.Kept

-- a pass over a recording: what a row of these fields reads after it, where they are in range and its kind is plain; or refused
abbrev pub PassesStamps : List ℕ → LateRow → Result StampedVerdict RefusedAt → Type 0
PassesStamps bytes a (Ok verdict) = (steps : List Step) × ReadsInOrder bytes (recording_of steps)
    × (a.event < first_coloured → a.lower ≤ last_time → ReadsStamps a.late a.lower a.upper (times a.event steps) (clock steps) verdict)
PassesStamps bytes a (Err refused) = ReadsInOrder bytes (recording_refused (refused_number refused) refused.place)

-- a row that is asked for: its fields, beside by how much stamps are late; or 15 or 25
abbrev pub Finds : Option TableRow → ℕ → Result LateRow Refusal → Type 0
Finds row late (Ok a) = (a.late ≡ late) × ((rows : List Constraint) (i : ℕ) → RowOf rows i row → RepeatRow rows i a.event a.lower a.upper)
Finds row late (Err refusal) =
    (rows : List Constraint) (i : ℕ) → RowOf rows i row → (e : ℕ) → Judged (stamps_questions rows i e) (Refused (refusal_number refusal))
