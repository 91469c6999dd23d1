-- An event of a stream: the rows of its kind take the step, after those to which the clock goes, and that is the step of all rows; the question
-- for 64 is answered as all rows would answer it.
use Rattle.in_place.proofs.Names.{Bool, Call, Indexes, Lent, Monitor, StepInput, Shaped, ◌<◌, ◌∙◌, ◌≡◌, ◌≤◌, any_first, ap, arith}
use Rattle.in_place.proofs.Names.{deadlines_checked}
use Rattle.in_place.proofs.Names.{cond, recorded_on, crowded_on, crowds, event_at, false, held_rows, is_in, is_of, kind_of, le_trans, left_on}
use Rattle.in_place.proofs.Names.{length-set}
use Rattle.in_place.proofs.Names.{next_step, numbers, step_input_by, plus, quiet_len, refl, refuses, row_at, rows_of_kind, row_step, set, split}
use Rattle.in_place.proofs.Names.{sym, taken_call, takes, with_full, without_asked, ℕ}
use Rattle.in_place.proofs.RecordedNumbers.{Answered, all_rows, renumbered_indexes, taken_from, undo_at}
use Rattle.in_place.proofs.{Concerned.moved, Concerned.saves, RowLists.all_stepped, RowLists.rows_listed, RowLists.step_indexes}
use Rattle.in_place.proofs.{Parts.shaped_begun, Parts.shaped_counted, Parts.shaped_full, Parts.shaped_visited, FreeSlots.crowd_known}
use Rattle.in_place.proofs.{FreeSlots.each_free, FreeSlots.lost_mark, FreeSlots.step_crowd}
use Rattle.monitor.specs.Machine as Machine
use Rattle.in_place.proofs.RowLists as Listing

module _ (h : Lent) (ix : Indexes h) (call : Call) (kind stream time : ℕ) (small : kind < 64) (kind_is : kind_of stream ≡ kind)
    (seen : step_input_by call h.monitor.clock ≡ event_at stream time)
    (taken_is : taken_call h.monitor call ≡ taken_from h.monitor (event_at stream time) stream (set h.monitor.next stream (plus time 1))
    h.monitor.closed) where
  abbrev m : Monitor
  m = h.monitor

  abbrev o : StepInput
  o = event_at stream time

  abbrev c : Lent
  c = recorded_on (without_asked h kind) stream time

  abbrev left : Lent
  left = left_on h kind stream time

  crowd_is : crowded_on h kind stream time ≡ Machine.crowds m call
  crowd_is =
      crowd_known h ix kind stream time small kind_is ∙ step_crowd m o (next_step m) ix.shaped.rows_there
      ∙ ap (λ (p : StepInput). any_first m.len (λ r. (row_step r p (next_step m)).crowded) m.rows) (sym seen)

  counted : Indexes (with_full c h.full)
  counted =
      renumbered_indexes h ix (set m.next stream (plus time 1)) (length-set m.next stream (plus time 1) ∙ ix.shaped.next_there)
      time (next_step m) m.closed (undo_at m stream) ix.sound.closed_mark ix.sound.closed_mark

  above : 0 < next_step m
  above = omega arith

  list_is : rows_of_kind h kind ≡ numbers (is_of m o.kind) (held_rows m)
  list_is = rows_listed h ix kind small ∙ ap (λ (k : ℕ). numbers (is_of m k) (held_rows m)) (sym kind_is)

  wide : Shaped left
  wide =
      shaped_visited (deadlines_checked c o) (rows_of_kind h kind) o (next_step m)
      (shaped_begun c o (shaped_counted (without_asked h kind) stream time (shaped_full h _ ix.shaped)))

  module _ (none : crowded_on h kind stream time ≡ false) where
    free : (i : ℕ) → i < held_rows m → crowds o (row_at m i) ≡ false
    free = each_free m o ix.shaped.rows_there (sym (crowd_known h ix kind stream time small kind_is) ∙ none)

    after_event : Listing.Applied c h.full counted o above (rows_of_kind h kind) list_is free (deadlines_checked c o)
    after_event = all_stepped c h.full counted o above (rows_of_kind h kind) list_is free refl

    taken_monitor : left.monitor ≡ taken_call m call
    taken_monitor =
        after_event.stepped.monitor_is ∙ all_rows c.monitor (moved o (next_step m)) (saves o (next_step m)) ix.shaped.rows_there ∙ sym taken_is

    -- a row without a mark is not nearly full: one of the kind was looked at, and any other had no mark and has no more than before
    few : (i : ℕ) → i < held_rows m → is_in left.full i ≡ false → (moved o (next_step m) (row_at m i)).now.len ≤ 62
    few i l out =
        split (is_of m o.kind i) (λ b. is_of m o.kind i ≡ b → (moved o (next_step m) (row_at m i)).now.len ≤ 62)
        (λ _ e. after_event.marked i l e out)
        (λ _ e. le_trans (quiet_len (row_at m i) o (next_step m) e) (ix.roomy.has_room i l
        (lost_mark h ix kind stream time small kind_is i l (after_event.unmarked i out) (ap (λ (k : ℕ). is_of m k i) (sym kind_is) ∙ e)))) refl

  pub on_stream : Answered h call (cond (crowded_on h kind stream time) 12 0) (cond (crowded_on h kind stream time) h left)
  on_stream =
      split (crowded_on h kind stream time) (λ b. crowded_on h kind stream time ≡ b → Answered h call (cond b 12 0) (cond b h left))
      (λ _ e. (sym (ap (λ (b : Bool). cond b (refuses 12 m) (takes (taken_call m call))) (sym crowd_is ∙ e)), ix))
      (λ _ e. (
        ap takes (taken_monitor e) ∙ sym (ap (λ (b : Bool). cond b (refuses 12 m) (takes (taken_call m call))) (sym crowd_is ∙ e)),
        step_indexes c h.full counted o above left wide (after_event e).stepped (few e),
      )) refl
