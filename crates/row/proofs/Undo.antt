-- A row that a step may change is put back word for word: an edit writes at its own place, or there and at the next, and a break writes no word. A
-- row that it may not change stays as it is.
use Rattle.row.proofs.Names.{RowUndo, Bool, Change, List, StepInput, Row, RowStep, ◌&&◌, ◌≡◌, ap, applied, back_row}
use Rattle.row.proofs.Names.{both, broken_by_event, broken_row}
use Rattle.row.proofs.Names.{changed, changed_row, concerns, cond, crowding, decide, edit_back, edit_place, eq-eqb, eqb, false}
use Rattle.row.proofs.Names.{items_of, length, ltb}
use Rattle.row.proofs.Names.{moves_by, ne_eqb, put_back, refl, ring_of, row_from, row_step, row_without, same_back, saved_at, saved_by, saved_row}
use Rattle.row.proofs.Names.{second_at, split, stays, step_place, time_at, true, waiting_limit, ℕ}

module _ (r : Row) (whole : length r.times ≡ 64) where
  -- a row is put back from what was kept of it at a place
  abbrev Back : ℕ → Row → Type 0
  Back place now = (number : ℕ) → back_row now (saved_at r place number) ≡ r

  -- one with the same words
  back_words : (place : ℕ) → put_back place (time_at r.times place 0) (second_at r.times place) r.times ≡ r.times
  back_words place = same_back place r.times whole

  back_same : (place : ℕ) → Back place r
  unfolding back_row
  back_same place number = ap (λ (words : List ℕ). row_from r.parameters words r.now) (back_words place)

  back_broken : (place t : ℕ) (closes : Bool) (n : ℕ) → Back place (broken_row r t closes n)
  unfolding back_row broken_row
  back_broken place t closes n number = ap (λ (words : List ℕ). row_from r.parameters words r.now) (back_words place)

  back_event : (place t n : ℕ) → Back place (broken_by_event r t n)
  unfolding back_row
  back_event place t n number = ap (λ (words : List ℕ). row_from r.parameters words r.now) (back_words place)

  -- one with a change
  abbrev at : Change → ℕ
  at change = edit_place change.edit (ring_of r.times r.now.head r.now.len)

  back_applied : (change : Change) → Back (at change) (applied r change)
  unfolding back_row applied
  back_applied change number =
      ap (λ (words : List ℕ). row_from r.parameters words r.now)
      (edit_back (ring_of r.times r.now.head r.now.len) change.edit whole)

  back_changed : (change : Change) (t n : ℕ) → Back (at change) (changed_row r change t n).row
  unfolding changed_row
  back_changed change t n =
      split (ltb waiting_limit r.now.len)
      (λ x. Back (at change) (cond x (crowding r) (cond change.breaks (stays (broken_by_event r t n)) goes)).row)
      (λ e. back_same (at change))
      (λ e. split change.breaks (λ x. Back (at change) (cond x (stays (broken_by_event r t n)) goes).row) (λ f. back_event (at change) t n)
      (λ f. split more (λ x. Back (at change) (cond x (crowding r) (stays (applied r change))).row) (λ g. back_same (at change))
      (λ g. back_applied change)))
    where
      more : Bool
      more = ltb waiting_limit (length (changed change.edit (items_of r)))

      goes : RowStep
      goes = cond more (crowding r) (stays (applied r change))

  -- what a step makes of the row is put back
  pub step_back : (o : StepInput) (n : ℕ) → Back (step_place r o) (row_step r o n).row
  unfolding row_step step_place
  step_back o n =
      split (ltb 0 r.now.broken) (λ x. Back (cond x 0 late_place) (cond x (stays r) late).row) (λ e. back_same 0) (λ e.
      split (ltb r.now.due o.time) (λ x. Back (cond x 0 own_place) (cond x (stays (broken_row r o.time o.closes n)) own).row)
      (λ f. back_broken 0 o.time o.closes n) (λ f.
      split (concerns r.parameters o.kind) (λ x. Back (cond x (at change) 0) (cond x (changed_row r change o.time n) end).row)
      (λ g. back_changed change o.time n)
      (λ g.
      split unkept (λ x. Back 0 (cond x (stays (broken_row r o.time o.closes n)) (stays r)).row)
      (λ h. back_broken 0 o.time o.closes n) (λ h. back_same 0))))
    where
      change : Change
      change = decide r.parameters r.now.registers (items_of r) o.stream o.time

      unkept : Bool
      unkept = o.closes && eqb r.now.kept 0

      end : RowStep
      end = cond unkept (stays (broken_row r o.time o.closes n)) (stays r)

      own : RowStep
      own = cond (concerns r.parameters o.kind) (changed_row r change o.time n) end

      own_place : ℕ
      own_place = cond (concerns r.parameters o.kind) (at change) 0

      late : RowStep
      late = cond (ltb r.now.due o.time) (stays (broken_row r o.time o.closes n)) own

      late_place : ℕ
      late_place = cond (ltb r.now.due o.time) 0 own_place

-- a row that what occurs may not change stays as it is
pub still : (r : Row) (o : StepInput) (n : ℕ) → moves_by r.parameters r.now o ≡ false → (row_step r o n).row ≡ r
unfolding moves_by row_step
still r o n e = by_tests (ltb 0 r.now.broken) (ltb r.now.due o.time) o.closes (concerns r.parameters o.kind) e
  where
    by_tests : (broken late closes own : Bool) → cond broken false (cond late true (cond closes true own)) ≡ false
        → (cond broken (stays r) (cond late (stays (broken_row r o.time o.closes n))
        (cond own (changed_row r (decide r.parameters r.now.registers (items_of r) o.stream o.time) o.time n)
        (cond (closes && eqb r.now.kept 0) (stays (broken_row r o.time o.closes n)) (stays r))))).row ≡ r
    by_tests true late closes own e = refl
    by_tests false true closes own e = both e
    by_tests false false true own e = both e
    by_tests false false false true e = both e
    by_tests false false false false e = refl

-- §3.13: a row without the step that it has just taken is the row as it was, where nothing of that number was kept before
pub row_without_lem : (r : Row) (b : RowUndo) (o : StepInput) (number : ℕ) → length r.times ≡ 64 → ¬ (b.step ≡ number)
    → row_without number (row_step r o number).row (saved_by o number r b) ≡ r
unfolding row_without saved_by
row_without_lem r b o number whole other =
    split (moves_by r.parameters r.now o)
    (λ x. let kept = cond x (saved_row r o number) b in cond (eqb kept.step number) (back_row (row_step r o number).row kept)
    (row_step r o number).row ≡ r)
    (λ e. rw (eq-eqb number number refl) (step_back r whole o number number))
    (λ e. rw (ne_eqb b.step number other) (still r o number e))
