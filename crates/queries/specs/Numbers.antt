-- The numbers that answer a host, read off a monitor.
use Rattle.std.specs.Prelude.{ℕ, zero, suc, ◌+◌, ◌*◌, min, Bool, cond, ◌&&◌, List, [], ◌∷◌, ltb, eqb}
use Rattle.constraint.specs.Limits.{last_time, no_limit, row_limit}
use Rattle.constraint.specs.declared.Call.{Call}
use Rattle.ring.specs.Ring.{time_at}
use Rattle.row_type.specs.Parameters.{waits_in}
use Rattle.row_type.specs.declared.Parameters.{Parameters}
use Rattle.row_type.specs.declared.Registers.{Registers}
use Rattle.row.specs.Machine.{mark, row_step}
use Rattle.row.specs.declared.Row.{Row}
use Rattle.monitor.specs.Machine.{next_step, step_input_of, refusal_for}
use Rattle.monitor.specs.declared.Monitor.{Monitor}
use Rattle.in_place.specs.Layout.{row_at}
use Rattle.queries.specs.Oldest.{no_stream}

-- a monitor of len rows has a row i
abbrev pub there : ℕ → ℕ → Bool
there i len = ltb i len && ltb i row_limit

-- ---- deadlines

-- by the mark of the close, the step that broke the row (0: none) and its due time: one of the last time or later limits no tick
abbrev pub deadline_by : ℕ → ℕ → ℕ → ℕ
deadline_by closed broken due = cond (ltb 0 closed) no_limit (cond (ltb 0 broken) no_limit (cond (ltb due last_time) due no_limit))

abbrev pub deadline_of : Monitor → ℕ → ℕ
deadline_of m i = cond (there i m.len) (deadline_by m.closed (row_at m i).now.broken (row_at m i).now.due) no_limit

-- the least of the first n
unfoldable pub least_of : Monitor → ℕ → ℕ
least_of m zero = no_limit
least_of m (suc n) = min (least_of m n) (deadline_of m n)

-- ---- why a row broke

-- by the step that broke it and the two words that a broken row has for it: the cause, of which there are three, and the moment
abbrev pub cause_in : ℕ → ℕ → ℕ
cause_in broken cause = cond (ltb 0 broken) (cond (eqb cause 1) 1 (cond (eqb cause 2) 2 3)) 0

abbrev pub moment_in : ℕ → ℕ → ℕ
moment_in broken moment = cond (ltb 0 broken) moment no_limit

abbrev pub cause_of : Monitor → ℕ → ℕ
cause_of m i = cond (there i m.len) (cause_in (row_at m i).now.broken (row_at m i).now.head) 0

abbrev pub moment_of : Monitor → ℕ → ℕ
moment_of m i = cond (there i m.len) (moment_in (row_at m i).now.broken (row_at m i).now.kept) no_limit

-- ---- what waits

-- by the mark of the close, the step that broke the row, its type and how many times it keeps
abbrev pub waiting_by : ℕ → ℕ → ℕ → ℕ → ℕ
waiting_by closed broken tag kept = cond (ltb 0 closed) 0 (cond (ltb 0 broken) 0 (cond (waits_in tag) kept 0))

-- in a row that is there
abbrev pub waiting_at : Monitor → ℕ → ℕ
waiting_at m i = waiting_by m.closed (row_at m i).now.broken (row_at m i).parameters.tag (row_at m i).now.len

abbrev pub waiting_of : Monitor → ℕ → ℕ
waiting_of m i = cond (there i m.len) (waiting_at m i) 0

-- ---- the oldest that waits

-- the first of the kinds of which a group has an event, by how many groups have one of each kind
abbrev pub first_counted : List ℕ → List ℕ → ℕ
first_counted [] counts = no_limit
first_counted (k ∷ kinds) [] = no_limit
first_counted (k ∷ kinds) (n ∷ counts) = cond (ltb 0 n) k (first_counted kinds counts)

abbrev pub group_kind : Parameters → Registers → ℕ
group_kind p r = first_counted (p.first ∷ p.second ∷ p.third ∷ p.fourth ∷ []) (r.first ∷ r.second ∷ r.third ∷ r.fourth ∷ [])

-- the kind of the oldest, where something waits: of a StrongSynchronization the first in its oldest group, of any other row the source
abbrev pub oldest_kind : Parameters → Registers → ℕ
oldest_kind p r = cond (eqb p.tag 7) (group_kind p r) p.first

-- by how many wait, the oldest time that the row keeps and that kind
abbrev pub oldest_by : ℕ → ℕ → ℕ
oldest_by waiting time = cond (ltb 0 waiting) time no_limit

abbrev pub oldest_stream_by : ℕ → ℕ → ℕ
oldest_stream_by waiting kind = cond (ltb 0 waiting) (min kind no_stream) no_stream

-- in a row that is there
abbrev pub oldest_at : Monitor → ℕ → ℕ
oldest_at m i = oldest_by (waiting_at m i) (time_at (row_at m i).times (row_at m i).now.head 0)

abbrev pub oldest_stream_at : Monitor → ℕ → ℕ
oldest_stream_at m i = oldest_stream_by (waiting_at m i) (oldest_kind (row_at m i).parameters (row_at m i).now.registers)

abbrev pub oldest_of : Monitor → ℕ → ℕ
oldest_of m i = cond (there i m.len) (oldest_at m i) no_limit

abbrev pub oldest_stream_of : Monitor → ℕ → ℕ
oldest_stream_of m i = cond (there i m.len) (oldest_stream_at m i) no_stream

-- ---- broken rows

-- 1 where row i is broken
abbrev pub broken_mark : Monitor → ℕ → ℕ
broken_mark m i = mark (there i m.len && ltb 0 (row_at m i).now.broken)

-- the marks of n rows from row i on, as a binary number, the first its lowest bit
unfoldable pub broken_marks : Monitor → ℕ → ℕ → ℕ
broken_marks m i zero = 0
broken_marks m i (suc n) = broken_mark m i + 2 * broken_marks m (i + 1) n

abbrev pub broken_rows_of : Monitor → ℕ
broken_rows_of m = broken_marks m 0 row_limit

-- ---- the row that a call crowds

-- the number of the first of n rows that has a mark, the first of them being row i; the number of no row where none has
unfoldable pub first_marked : ℕ → (Row → Bool) → ℕ → List Row → ℕ
first_marked zero f i rows = row_limit
first_marked (suc n) f i [] = row_limit
first_marked (suc n) f i (r ∷ rows) = cond (f r) i (first_marked n f (i + 1) rows)

abbrev pub crowded_first : Monitor → Call → ℕ
crowded_first m call = first_marked m.len (λ r. (row_step r (step_input_of m call) (next_step m)).crowded) 0 m.rows

-- of a call that no other question refuses
abbrev pub crowded_row_of : Monitor → Call → ℕ
crowded_row_of m call = cond (ltb 0 (refusal_for m call)) row_limit (crowded_first m call)
