-- A tick and the close concern no row, so that they crowd none, and what the clock or the close does to each row is the whole step.
use Rattle.in_place.proofs.Names.{Bool, Call, Indexes, Lent, Monitor, StepInput, Shaped, [], ◌<◌, ◌∙◌, ◌≡◌, ◌≤◌, any_first, ap, arith}
use Rattle.in_place.proofs.Names.{deadlines_checked, cond, recorded_to, crowds, clock_applied, false, held_rows, is_in, is_of, le_trans, next_step}
use Rattle.in_place.proofs.Names.{no_event}
use Rattle.in_place.proofs.Names.{numbers, step_input_by, quiet_len, refuses, row_at, row_step, sym, taken_call, takes, with_soonest, ℕ}
use Rattle.in_place.proofs.RecordedNumbers.{Answered, all_rows, renumbered_indexes, taken_from, undo_at}
use Rattle.in_place.proofs.{Concerned.calm, Concerned.moved, Concerned.saves, RowByRow.any_numbers, RowByRow.any_in, RowLists.all_stepped}
use Rattle.in_place.proofs.{RowLists.some_late, RowLists.step_indexes, Parts.shaped_begun, Parts.shaped_ended, Parts.shaped_soonest}
use Rattle.in_place.proofs.{FreeSlots.step_crowd, RowSets.none_pass}
use Rattle.monitor.specs.Machine as Machine
use Rattle.in_place.proofs.RowLists as Listing

-- what is no event concerns no row and crowds none
module _ (h : Lent) (ix : Indexes h) (call : Call) (o : StepInput) (no_event_lem : o.kind ≡ no_event) (seen : step_input_by call h.monitor.clock ≡ o)
    (closed : ℕ) (marked : closed ≤ 1) (taken_is : taken_call h.monitor call ≡ taken_from h.monitor o 0 h.monitor.next closed) where
  abbrev m : Monitor
  m = h.monitor

  abbrev c : Lent
  c = recorded_to h o.time closed

  quiet : (i : ℕ) → i < held_rows m → is_of m o.kind i ≡ false
  quiet i l = ap (λ (k : ℕ). is_of m k i) no_event_lem ∙ ix.no_ticks i l

  none_listed : [] ≡ numbers (is_of m o.kind) (held_rows m)
  none_listed = sym (none_pass (is_of m o.kind) (held_rows m) quiet)

  none_crowds : Machine.crowds m call ≡ false
  none_crowds =
      ap (λ (p : StepInput). any_first m.len (λ r. (row_step r p (next_step m)).crowded) m.rows) seen
      ∙ sym (step_crowd m o (next_step m) ix.shaped.rows_there)
      ∙ sym (any_numbers (crowds o) (is_of m o.kind) m.rows (held_rows m) (omega (arith, ix.shaped.rows_there))
      (λ i l out. calm (row_at m i) o out))
      ∙ ap (any_in (λ i. crowds o (row_at m i))) (sym none_listed)

  counted : Indexes c
  counted =
      renumbered_indexes h ix m.next ix.shaped.next_there o.time (next_step m) closed (undo_at m 0) marked
      ix.sound.closed_mark

  above : 0 < next_step m
  above = omega arith

  on_none : (x : Lent) → Shaped x → Listing.Stepped c h.full counted o above x → ((i : ℕ) → is_in x.full i ≡ false → is_in h.full i ≡ false)
      → Answered h call 0 x
  on_none x wide stepped unmarked = (
    ap takes (stepped.monitor_is ∙ all_rows c.monitor (moved o (next_step m)) (saves o (next_step m)) ix.shaped.rows_there ∙ sym taken_is)
        ∙ sym (ap (λ (b : Bool). cond b (refuses 12 m) (takes (taken_call m call))) none_crowds),
    step_indexes c h.full counted o above x wide stepped
        (λ i l out. le_trans (quiet_len (row_at m i) o (next_step m) (quiet i l)) (ix.roomy.has_room i l (unmarked i out))),
  )

  free : (i : ℕ) → i < held_rows m → crowds o (row_at m i) ≡ false
  free i l = calm (row_at m i) o (quiet i l)

  pub on_tick : o.closes ≡ false → Answered h call 0 (deadlines_checked c o)
  on_tick going =
      let applied = all_stepped c h.full counted o above [] none_listed free going in
      on_none (deadlines_checked c o) (shaped_begun c o counted.shaped) applied.stepped applied.unmarked

  pub on_close : Answered h call 0 (with_soonest (clock_applied c (held_rows m) o (next_step m)) 0)
  on_close =
      let applied = some_late c h.full counted o above [] none_listed free in
      on_none (with_soonest (clock_applied c (held_rows m) o (next_step m)) 0)
      (shaped_soonest _ 0 (shaped_ended c (held_rows m) o (next_step m) counted.shaped)) applied.stepped applied.unmarked
