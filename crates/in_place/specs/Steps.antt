-- What a call and a withdrawal make of a lent monitor, part by part.
use Rattle.std.specs.Prelude.{ℕ, zero, suc, ◌+◌, ◌-◌, ◌*◌, ◌/◌, ◌^◌, ◌≤◌, ◌<◌, min, ◌≡◌, Bool, true, false, cond, ◌||◌, List, [], ◌∷◌, get_or, set}
use Rattle.std.specs.Prelude.{ltb, leb}
use Rattle.std.specs.Int.Bits.{bit_and, bit_or}
use Rattle.constraint.specs.Limits.{no_limit, last_count, last_kind}
use Rattle.constraint.specs.Streams.{stream}
use Rattle.constraint.specs.declared.Call.{Call}
use Rattle.constraint.specs.Run.{Request, asks, withdraws}
use Rattle.row_type.specs.Parts.{plus}
use Rattle.row.specs.StepParts.{event_overflows}
use Rattle.row.specs.Undo.{row_without, kept_without}
use Rattle.row.specs.Stored.{event_row, event_saves, ended_row, ended_saves}
use Rattle.row.specs.declared.RowUndo.{RowUndo}
use Rattle.row.specs.declared.StepInput.{StepInput}
use Rattle.row.specs.declared.Row.{Row}
use Rattle.row.specs.Machine.{event_at, tick_at, close_at}
use Rattle.questions.specs.Questions.{no_undo, place_in}
use Rattle.monitor.specs.Machine.{no_row, refusal_for}
use Rattle.monitor.specs.Parts.{with_rows}
use Rattle.monitor.specs.declared.Monitor.{Monitor}
use Rattle.in_place.specs.Layout.{Lent, Words, words_of_lent, Shaped, number_array, rows_in, all_rows, set_of, rows_of_kind, held_rows, row_at}
use Rattle.in_place.specs.Layout.{kept_at}
use Rattle.in_place.specs.Layout.{due_at}

-- ---- parts of the record

abbrev pub with_monitor : Lent → Monitor → Lent
with_monitor h m = record { monitor = m; soonest = h.soonest; full = h.full; lists = h.lists }

abbrev pub with_soonest : Lent → ℕ → Lent
with_soonest h time = record { monitor = h.monitor; soonest = time; full = h.full; lists = h.lists }

abbrev pub with_full : Lent → ℕ → Lent
with_full h full = record { monitor = h.monitor; soonest = h.soonest; full = full; lists = h.lists }

abbrev pub with_row : Lent → ℕ → Row → RowUndo → Lent
with_row h i r b = with_monitor h (with_rows h.monitor (set h.monitor.rows i r) (set h.monitor.before i b))

-- what a function on words promises that makes of each monitor another
abbrev pub Updates : Words → (Lent → Lent) → Words → Type 0
Updates entry turn exit = (h : Lent) → entry ≡ words_of_lent h → Shaped h → exit ≡ words_of_lent (turn h)

-- of each that is not closed
abbrev pub UpdatesOpen : Words → (Lent → Lent) → Words → Type 0
UpdatesOpen entry turn exit = (h : Lent) → entry ≡ words_of_lent h → Shaped h → h.monitor.closed ≡ 0 → exit ≡ words_of_lent (turn h)

-- what a function that only reads promises of each
abbrev pub Computes : Words → (Lent → ℕ) → ℕ → Type 0
Computes entry answer r = (h : Lent) → entry ≡ words_of_lent h → Shaped h → r ≡ answer h

-- ---- an event goes to the rows of its kind

abbrev pub event_on : Lent → ℕ → StepInput → ℕ → Lent
event_on h i o number =
    with_row h i (event_row o number (row_at h.monitor i)) (event_saves o number (row_at h.monitor i) (kept_at h.monitor i))

-- row i, the soonest due time, and the row among those that are nearly full
abbrev pub due_counted : Lent → ℕ → Lent
due_counted h i = with_soonest h (min h.soonest (due_at h.monitor i))

abbrev pub full_marked : Lent → ℕ → Lent
full_marked h i = with_full h (cond (ltb 62 (row_at h.monitor i).now.len) (bit_or h.full (2 ^ i)) h.full)

abbrev pub dispatched_to : Lent → ℕ → StepInput → ℕ → Lent
dispatched_to h i o number = full_marked (due_counted (event_on h i o number) i) i

-- one row of a list after the other
abbrev pub dispatched : Lent → List ℕ → StepInput → ℕ → Lent
dispatched h [] o number = h
dispatched h (i ∷ rows) o number = dispatched (dispatched_to h i o number) rows o number

-- ---- the clock and the close go to all rows

abbrev pub clock_applied_at : Lent → ℕ → StepInput → ℕ → Lent
clock_applied_at h i o number =
    with_row h i (ended_row o number (row_at h.monitor i)) (ended_saves o number (row_at h.monitor i) (kept_at h.monitor i))

abbrev pub clock_applied : Lent → ℕ → StepInput → ℕ → Lent
clock_applied h zero o number = h
clock_applied h (suc n) o number = clock_applied_at (clock_applied h n o number) n o number

-- the soonest due time of the first n rows
abbrev pub soonest_of : List Row → ℕ → ℕ
soonest_of rows zero = no_limit
soonest_of rows (suc n) = min (soonest_of rows n) (get_or rows n no_row).now.due

-- the soonest due time of four rows from one on
abbrev pub soonest_of_four : List Row → ℕ → ℕ
soonest_of_four rows i =
    min (min (get_or rows i no_row).now.due (get_or rows (i + 1) no_row).now.due)
    (min (get_or rows (i + 2) no_row).now.due (get_or rows (i + 3) no_row).now.due)

-- ---- a withdrawal goes to all rows

abbrev pub row_undone_at : Lent → ℕ → ℕ → Lent
row_undone_at h i number =
    with_row h i (row_without number (row_at h.monitor i) (kept_at h.monitor i)) (kept_without number (kept_at h.monitor i))

abbrev pub rows_undone : Lent → ℕ → ℕ → Lent
rows_undone h zero number = h
rows_undone h (suc n) number = row_undone_at (rows_undone h n number) n number

-- ---- the question for 64, of the rows of a kind

abbrev pub crowded_at : Lent → ℕ → ℕ → ℕ → Bool
crowded_at h i stream t = event_overflows (row_at h.monitor i).parameters (row_at h.monitor i).now stream t

abbrev pub crowded : Lent → List ℕ → ℕ → ℕ → Bool
crowded h [] stream t = false
crowded h (i ∷ rows) stream t = crowded_at h i stream t || crowded h rows stream t

-- the set of the rows of a kind that may be nearly full: only these are asked
abbrev pub asked_of : Lent → ℕ → ℕ
asked_of h kind = bit_and (set_of h kind) h.full

-- they take the event and are looked at again then
abbrev pub without_asked : Lent → ℕ → Lent
without_asked h kind = with_full h (h.full - asked_of h kind)

-- ---- the numbers beside the rows after a step

abbrev pub with_next : Lent → List ℕ → Lent
with_next h next =
    with_monitor h (record {
      rows = h.monitor.rows;
      next = next;
      clock = h.monitor.clock;
      count = h.monitor.count;
      closed = h.monitor.closed;
      len = h.monitor.len;
      before = h.monitor.before;
      undo = h.monitor.undo;
    })

abbrev pub with_closed : Lent → ℕ → Lent
with_closed h closed =
    with_monitor h (record {
      rows = h.monitor.rows;
      next = h.monitor.next;
      clock = h.monitor.clock;
      count = h.monitor.count;
      closed = closed;
      len = h.monitor.len;
      before = h.monitor.before;
      undo = h.monitor.undo;
    })

-- one step more, to a time: the numbers as they were may be put back, with the first free time of a stream
abbrev pub recorded_monitor : Monitor → ℕ → ℕ → ℕ → ℕ → Monitor
recorded_monitor m stream free time closed =
    record {
      rows = m.rows;
      next = m.next;
      clock = time;
      count = plus m.count 1;
      closed = closed;
      len = m.len;
      before = m.before;
      undo = record { may = 1; place = stream; next = free; clock = m.clock; count = m.count; closed = m.closed };
    }

-- after an event of a stream, a tick, and the close
abbrev pub recorded_on : Lent → ℕ → ℕ → Lent
recorded_on h stream time =
    with_monitor h (recorded_monitor (with_next h (set h.monitor.next stream (plus time 1))).monitor stream (get_or h.monitor.next stream 0) time
    h.monitor.closed)

abbrev pub recorded_to : Lent → ℕ → ℕ → Lent
recorded_to h time closed = with_monitor h (recorded_monitor h.monitor 0 (get_or h.monitor.next 0 0) time closed)

-- what a function on the numbers beside the rows promises: those of one that is not closed become another's
abbrev pub RecordsStep : (Monitor → Monitor) → List (List ℕ) → List (List ℕ) → Type 0
RecordsStep next entry exit =
    (m : Monitor) (soonest full : ℕ) (plain lists : List ℕ) → entry ≡ number_array m soonest full plain ∷ lists ∷ [] → m.closed ≡ 0
    → exit ≡ number_array (next m) soonest full plain ∷ lists ∷ []

abbrev pub next_number : Lent → ℕ
next_number h = plus h.monitor.count 1

-- ---- an event of a stream that is answered with no number but 12

-- of all rows; they are read four at a time, so up to three places behind the last row are read as well
abbrev pub up_to_four : ℕ → ℕ
up_to_four n = (n + 3) / 4 * 4

abbrev pub soonest_all : Lent → ℕ
soonest_all h = soonest_of h.monitor.rows (up_to_four (held_rows h.monitor))

-- the rows to which the clock goes, where one may be overdue; where by their due times there is none, the soonest of these is stored
abbrev pub rows_expired : Lent → StepInput → Lent
rows_expired h o =
    cond (ltb (soonest_all h) o.time) (with_soonest (clock_applied h (held_rows h.monitor) o h.monitor.count) 0) (with_soonest h (soonest_all h))

abbrev pub deadlines_checked : Lent → StepInput → Lent
deadlines_checked h o = cond (ltb h.soonest o.time) (rows_expired h o) h

abbrev pub crowded_on : Lent → ℕ → ℕ → ℕ → Bool
crowded_on h kind stream time = crowded h (rows_in (asked_of h kind)) stream time

-- the rows of a kind after an event of it, by the step that the count says
abbrev pub kind_applied : ℕ → ℕ → ℕ → Lent → Lent
kind_applied kind stream t h = dispatched h (rows_of_kind h kind) (event_at stream t) h.monitor.count

abbrev pub left_on : Lent → ℕ → ℕ → ℕ → Lent
left_on h kind stream time =
    dispatched (deadlines_checked (recorded_on (without_asked h kind) stream time) (event_at stream time)) (rows_of_kind h kind)
    (event_at stream time)
    (next_number h)

-- what the question on words promises: where a row is crowded nothing is stored, else that these rows are looked at again
pub record AsksOverflow (entry : Words) (kind stream time : ℕ) (crowds : Bool) (exit : Words) : Type 0 where
  pub untouched : crowds ≡ true → exit ≡ entry
  pub asked : (h : Lent) → entry ≡ words_of_lent h → Shaped h → crowds ≡ crowded_on h kind stream time
  pub marked : (h : Lent) → entry ≡ words_of_lent h → Shaped h → crowds ≡ false → exit ≡ words_of_lent (without_asked h kind)

-- what the function on words promises of it
pub record OnStream (entry : Words) (kind stream time number : ℕ) (exit : Words) : Type 0 where
  pub untouched : ¬ (number ≡ 0) → exit ≡ entry
  pub stores : (h : Lent) → entry ≡ words_of_lent h → Shaped h → h.monitor.closed ≡ 0
      → (number ≡ cond (crowded_on h kind stream time) 12 0) × (exit ≡ words_of_lent (cond (crowded_on h kind stream time) h
      (left_on h kind stream time)))

-- ---- a tick and the close that are taken

abbrev pub left_after_tick : Lent → ℕ → Lent
left_after_tick h time = deadlines_checked (recorded_to h time 0) (tick_at time)

abbrev pub left_after_close : Lent → Lent
left_after_close h =
    with_soonest (clock_applied (recorded_to h h.monitor.clock 1) (held_rows h.monitor) (close_at h.monitor.clock) (next_number h)) 0

-- ---- a withdrawal that is taken

-- the numbers as they were
abbrev pub restored_monitor : Monitor → Monitor
restored_monitor m =
    record {
      rows = m.rows;
      next = m.next;
      clock = m.undo.clock;
      count = m.undo.count;
      closed = m.undo.closed;
      len = m.len;
      before = m.before;
      undo = no_undo;
    }

abbrev pub all_rows_undone : Lent → Lent
all_rows_undone h = rows_undone h (held_rows h.monitor) h.monitor.count

abbrev pub with_free : Lent → Lent
with_free h = with_next h (set h.monitor.next (place_in h.monitor.undo.place) h.monitor.undo.next)

abbrev pub counters_restored : Lent → Lent
counters_restored h = with_full (with_soonest (with_monitor h (restored_monitor h.monitor)) 0) all_rows

-- and of its numbers beside the rows
abbrev pub RestoresCounters : List (List ℕ) → List (List ℕ) → Type 0
RestoresCounters entry exit =
    (m : Monitor) (soonest full : ℕ) (plain lists : List ℕ) → entry ≡ number_array m soonest full plain ∷ lists ∷ []
    → exit ≡ number_array (restored_monitor m) 0 all_rows plain ∷ lists ∷ []

abbrev pub withdrawn_lent : Lent → Lent
withdrawn_lent h = counters_restored (with_free (all_rows_undone h))

-- ---- a call: its number, and what it leaves

-- 8 or 24, which every call is asked first; 0 where neither is answered "no"
abbrev pub first_refusal : Lent → ℕ
first_refusal h = cond (ltb 0 h.monitor.closed) 8 (cond (leb last_count h.monitor.count) 24 0)

-- 8, 24 and 9, of an event
abbrev pub kind_refusal : Lent → ℕ → ℕ
kind_refusal h kind = cond (ltb 0 h.monitor.closed) 8 (cond (leb last_count h.monitor.count) 24 (cond (ltb last_kind kind) 9 0))

-- a coloured kind and one of the colours
abbrev pub ColourKnown : ℕ → ℕ → Type 0
ColourKnown kind colour = (48 ≤ kind) × ((kind < 64) × (colour < 8))

abbrev pub refusal_in : Lent → Call → ℕ
refusal_in h call = refusal_for h.monitor call

abbrev pub answer_to : Lent → Call → ℕ
answer_to h (Call.Event kind time) = cond (crowded_on h kind kind time) 12 0
answer_to h (Call.ColouredEvent kind colour time) = cond (crowded_on h kind (stream kind colour) time) 12 0
answer_to h (Call.Tick time) = 0
answer_to h Call.Close = 0

abbrev pub left_after : Lent → Call → Lent
left_after h (Call.Event kind time) = cond (crowded_on h kind kind time) h (left_on h kind kind time)
left_after h (Call.ColouredEvent kind colour time) = cond (crowded_on h kind (stream kind colour) time) h (left_on h kind (stream kind colour) time)
left_after h (Call.Tick time) = left_after_tick h time
left_after h Call.Close = left_after_close h

-- a request of either kind
abbrev pub number_of : Lent → Request → ℕ
number_of h (asks call) = cond (ltb 0 (refusal_in h call)) (refusal_in h call) (answer_to h call)
number_of h withdraws = cond (ltb 0 h.monitor.undo.may) 0 21

abbrev pub leaves : Lent → Request → Lent
leaves h (asks call) = cond (ltb 0 (refusal_in h call)) h (left_after h call)
leaves h withdraws = cond (ltb 0 h.monitor.undo.may) (withdrawn_lent h) h

-- the number, and each word that is left, whatever was lent
pub record Stores (entry : Words) (r : Request) (number : ℕ) (exit : Words) : Type 0 where
  pub untouched : ¬ (number ≡ 0) → exit ≡ entry
  pub stores : (h : Lent) → entry ≡ words_of_lent h → Shaped h → (number ≡ number_of h r) × (exit ≡ words_of_lent (leaves h r))
