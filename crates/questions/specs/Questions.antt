-- The questions of a call and what it changes beside the rows: functions on numbers, which the contracts equal.
use Rattle.std.specs.Prelude.{ℕ, cond, leb, ltb}
use Rattle.constraint.specs.Limits.{last_kind, first_coloured, last_colour, stream_count, last_time, last_count}
use Rattle.constraint.specs.Streams.{stream}
use Rattle.constraint.specs.declared.Call.{Call}
use Rattle.row_type.specs.Parts.{plus}
use Rattle.row.specs.Machine.{event_at, tick_at, close_at}
use Rattle.row.specs.declared.StepInput.{StepInput}
use Rattle.questions.specs.declared.Undo.{Undo}

-- the stream of a call's event; 0 where there is no event
abbrev pub stream_for : Call → ℕ
stream_for (Call.Event kind t) = kind
stream_for (Call.ColouredEvent kind colour t) = stream kind colour
stream_for (Call.Tick t) = 0
stream_for Call.Close = 0

-- its place among the first free times; 0 where there is no such stream
abbrev pub place_for : Call → ℕ
place_for call = cond (ltb (stream_for call) stream_count) (stream_for call) 0

-- a place among the first free times, whatever the record says
abbrev pub place_in : ℕ → ℕ
place_in place = cond (ltb place stream_count) place 0

-- 10 and 11 for an event: the number of the first "no", or 0
abbrev pub time_refusal : ℕ → ℕ → ℕ → ℕ
time_refusal t clock next = cond (ltb last_time t) 10 (cond (ltb t clock) 11 (cond (ltb t next) 11 0))

-- 9, 19, 10, 11 for an event; 10, 11 for a tick; none for the close
abbrev pub own_refusal : Call → ℕ → ℕ → ℕ
own_refusal (Call.Event kind t) clock next = cond (ltb last_kind kind) 9 (cond (leb first_coloured kind) 19 (time_refusal t clock next))
own_refusal (Call.ColouredEvent kind colour t) clock next =
    cond (ltb last_kind kind) 9 (cond (ltb kind first_coloured) 19 (cond (ltb last_colour colour) 19 (time_refusal t clock next)))
own_refusal (Call.Tick t) clock next = cond (ltb last_time t) 10 (cond (leb t clock) 11 0)
own_refusal Call.Close clock next = 0

-- 8 and 24, by the mark of the close and the count; then the call's own
abbrev pub refusal_by : Call → ℕ → ℕ → ℕ → ℕ → ℕ
refusal_by call closed count clock next = cond (ltb 0 closed) 8 (cond (leb last_count count) 24 (own_refusal call clock next))

-- what the rows see of a call at a clock
abbrev pub step_input_by : Call → ℕ → StepInput
step_input_by (Call.Event kind t) clock = event_at kind t
step_input_by (Call.ColouredEvent kind colour t) clock = event_at (stream kind colour) t
step_input_by (Call.Tick t) clock = tick_at t
step_input_by Call.Close clock = close_at clock

-- the first free time of its stream after a call, and the mark of the close
abbrev pub free_after : Call → ℕ → ℕ
free_after (Call.Event kind t) next = plus t 1
free_after (Call.ColouredEvent kind colour t) next = plus t 1
free_after (Call.Tick t) next = next
free_after Call.Close next = next

abbrev pub closed_after : Call → ℕ → ℕ
closed_after (Call.Event kind t) closed = closed
closed_after (Call.ColouredEvent kind colour t) closed = closed
closed_after (Call.Tick t) closed = closed
closed_after Call.Close closed = 1

-- nothing to withdraw
abbrev pub no_undo : Undo
no_undo = record { may = 0; place = 0; next = 0; clock = 0; count = 0; closed = 0 }

-- what a call changes beside the rows, as it was: its step may be withdrawn
abbrev pub undo_by : Call → ℕ → ℕ → ℕ → ℕ → Undo
undo_by call closed clock next count =
    record { may = 1; place = place_for call; next = next; clock = clock; count = count; closed = closed }
