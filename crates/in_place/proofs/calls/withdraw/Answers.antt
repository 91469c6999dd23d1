-- Where a step may be withdrawn, each row and then each number is put back.
use Rattle.in_place.proofs.Names.{List, Words, [], ◌<◌, ◌∙◌, ◌≡◌, ap, ap₂, arith, all_rows_undone, rows_undone, cond, get_or, held_rows, le-ltb}
use Rattle.in_place.proofs.Names.{lt-ltb, ltb}
use Rattle.in_place.proofs.Names.{ltb-true, place_in, refl, set, split, stream_count, suc, sym, take, restored_monitor, with_monitor}
use Rattle.in_place.proofs.Names.{all_rows, with_full, with_next, with_soonest, words_of_lent, zero, ℕ}
use Rattle.in_place.proofs.Parts.{block_written, number_at, numbers_read, shaped_backed, shaped_next}
use Rattle.in_place.proofs.calls.withdraw.Goals as goal

place_small : (p : ℕ) → place_in p < 176
place_small p = split (ltb p stream_count) (λ b. cond b p 0 < 176) (λ e. ltb-true p stream_count e) (λ e. omega arith)

above_zero : (n : ℕ) → ¬ (n ≡ 0) → 0 < n
above_zero zero some = absurd (some refl)
above_zero (suc n) some = omega arith

pub returns-then-m-eq0 : goal.returns-then-m-eq0
returns-then-m-eq0 c =
    let a = c.args in
    record {
      untouched = λ _. refl;
      stores = λ h e s.
          let may : h.monitor.undo.may ≡ 0 = sym (number_at h s a.m.now e 5) ∙ c.if-m-eq0.true in
          let none = le-ltb 0 h.monitor.undo.may (omega (arith, may)) in
          (rw none refl, rw none e);
    }

pub put_free-requires : goal.put_free-requires
put_free-requires c = rw c.place_in-place.ensures
    (place_small (get_or (get_or (get_or c.undo_rows.new.m 32 []) 0 []) 6 0))

pub returns : goal.returns
returns c =
    let a = c.args in
    record {
      untouched = λ some. absurd (some refl);
      stores = λ h e s.
          let may = number_at h s a.m.now e 5 in
          let some = lt-ltb 0 h.monitor.undo.may (above_zero h.monitor.undo.may (λ z. c.if-m-eq0.false (may ∙ z))) in
          let x = all_rows_undone h in
          let wide = shaped_backed h (held_rows h.monitor) h.monitor.count s in
          let back = c.undo_rows.ensures h e s
          ∙ ap₂ (λ (k number : ℕ). words_of_lent (rows_undone h k number)) (c.held.ensures.1 h e s) (number_at h s a.m.now e 1) in
          let place : c.place_in-place.result ≡ place_in x.monitor.undo.place = c.place_in-place.ensures ∙ ap place_in (number_at x wide _ back 6) in
          let free = number_at x wide _ back 7 in
          let y = with_next x (set x.monitor.next (place_in x.monitor.undo.place) x.monitor.undo.next) in
          let stored = c.put_free.ensures x back wide ∙ ap₂ (λ (k v : ℕ). words_of_lent (with_next x (set x.monitor.next k v))) place free in
          let wide_too = shaped_next x (place_in x.monitor.undo.place) x.monitor.undo.next wide in
          let block = ap (λ (m : Words). get_or m 32 []) stored ∙ numbers_read y wide_too in
          let numbers = c.restore_counters.ensures y.monitor y.soonest y.full (take 48 y.monitor.next) y.lists block in (
            rw some refl,
            rw some
                (ap₂ (λ (m : Words) (v : List (List ℕ)). set m 32 v) stored numbers
                ∙ block_written y wide_too (with_full (with_soonest (with_monitor y (restored_monitor y.monitor)) 0) all_rows) refl refl),
          );
    }

pub undo_rows-requires : goal.undo_rows-requires
undo_rows-requires c = c.held.ensures.0
