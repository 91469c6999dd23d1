-- The numbers of a call that is taken are stored before its rows take the step: the words say the same of the rows then, and with the rows after
-- the step they are the monitor after the call.
use Rattle.in_place.proofs.Names.{RowUndo, Call, Indexes, Lent, List, Monitor, StepInput, Row, Undo, ◌≡◌, ◌≤◌, ap₂, arith}
use Rattle.in_place.proofs.Names.{get_or}
use Rattle.in_place.proofs.Names.{held_rows, length, map_all, map_first, next_step, refl, stepped_by, stepped_from, stream_count, with_monitor}
use Rattle.in_place.proofs.Names.{with_rows, zip_all, zip_first, ℕ}
use Rattle.in_place.proofs.{Concerned.moved, Concerned.saves, Parts.shaped_same}

-- ---- the numbers stored

-- other numbers beside the rows change nothing of what the words say
module _ (h : Lent) (ix : Indexes h) (next : List ℕ) (wide : length next ≡ stream_count)
    (clock count closed : ℕ) (undo : Undo) (marked : closed ≤ 1) (then_marked : undo.closed ≤ 1) where
  abbrev pub renumbered : Lent
  renumbered =
      with_monitor h (record {
        rows = h.monitor.rows;
        next = next;
        clock = clock;
        count = count;
        closed = closed;
        len = h.monitor.len;
        before = h.monitor.before;
        undo = undo;
      })

  pub renumbered_indexes : Indexes renumbered
  renumbered_indexes =
      record {
        shaped = shaped_same h renumbered refl refl wide ix.shaped.lists_there ix.shaped;
        sound = record { rows_few = ix.sound.rows_few; closed_mark = marked; closed_then = then_marked };
        listed = ix.listed;
        no_others = ix.no_others;
        no_ticks = ix.no_ticks;
        no_sooner = ix.no_sooner;
        roomy = record { now_few = ix.roomy.now_few; then_few = ix.roomy.then_few; has_room = ix.roomy.has_room };
      }

-- the numbers before a call that is taken, with the first free time of a place, as they may be put back
abbrev pub undo_at : Monitor → ℕ → Undo
undo_at m place = record { may = 1; place = place; next = get_or m.next place 0; clock = m.clock; count = m.count; closed = m.closed }

-- the monitor after a call that is taken, by what occurs, the place and the first free time of its stream, and the mark of the close
abbrev pub taken_from : Monitor → StepInput → ℕ → List ℕ → ℕ → Monitor
taken_from m o place next closed =
    record {
      rows = map_first m.len (moved o (next_step m)) m.rows;
      next = next;
      clock = o.time;
      count = next_step m;
      closed = closed;
      len = m.len;
      before = zip_first m.len (saves o (next_step m)) m.rows m.before;
      undo = undo_at m place;
    }

-- the first rows of a monitor are all
pub all_rows : (m : Monitor) (f : Row → Row) (s : Row → RowUndo → RowUndo) → length m.rows ≡ 32
    → with_rows m (map_first (held_rows m) f m.rows) (zip_first (held_rows m) s m.rows m.before)
    ≡ with_rows m (map_first m.len f m.rows) (zip_first m.len s m.rows m.before)
all_rows m f s whole =
    ap₂ (with_rows m) (map_all f m.rows (held_rows m) m.len (omega (arith, whole)))
    (zip_all s m.rows m.before (held_rows m) m.len (omega (arith, whole)))

-- ---- the answer

-- the answer is the monitor's, and the words that are left agree with the monitor after it
abbrev pub Answered : Lent → Call → ℕ → Lent → Type 0
Answered h call number x = (stepped_from number x.monitor ≡ stepped_by h.monitor call 0) × Indexes x
