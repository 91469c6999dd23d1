-- The step of a row is what its parts make of it: an open row that is overdue, or that the close finds, is ended; one that an event concerns
-- applies it; and no step leaves more than 64 waiting, nor does a withdrawal.
use Rattle.row.proofs.Names.{RowUndo, Bool, Change, Drop, Edit, StepInput, Push, PushTwo, Ring, Row, RowStep, Parameters, State, Store, ◌&&◌}
use Rattle.row.proofs.Names.{◌+◌}
use Rattle.row.proofs.Names.{◌∙◌, ◌≡◌, ◌≤◌, ap, applied, undo_of_event, applied_row, arith, back_row, both, broken_by_event}
use Rattle.row.proofs.Names.{broken_row, broken_state, change_by}
use Rattle.row.proofs.Names.{changed, changed_row, concerns, cond, crowding, drop_ring, edit_place, edited, ended_state, ends_by, eqb, false}
use Rattle.row.proofs.Names.{items_of, kept_without, length, ltb, ltb-true, moves_by, no_row_undo, no_state, push_ring, put_ring, refl, ring_of}
use Rattle.row.proofs.Names.{ring_place, row_from, row_step, row_without, saved_at, saved_by, saved_row, set, split, stays, step_place, stepped_row}
use Rattle.row.proofs.Names.{sym, true, waiting_limit, ℕ}
use Rattle.row.proofs.Overflow.{step_by}

-- ---- a row that applies an event

module _ (r : Row) (o : StepInput) (number : ℕ) (unbroken : ltb 0 r.now.broken ≡ false) (in_time : ltb r.now.due o.time ≡ false)
    (concerned : concerns r.parameters o.kind ≡ true) where
  pub step_applied : (row_step r o number).crowded ≡ false → (row_step r o number).row ≡ applied_row r o number
  unfolding stepped_row
  step_applied room = ap (λ (s : RowStep). s.row) (step_by r o number false room) ∙ rw (unbroken, in_time, concerned)

  always : (b : Bool) → cond b true true ≡ true
  always true = refl
  always false = refl

  pub saved_applied : (b : RowUndo) → saved_by o number r b ≡ undo_of_event r o number
  unfolding saved_by moves_by step_place
  saved_applied b = rw (unbroken, in_time, concerned, always o.closes)

-- ---- a row that the clock or the close ends

module _ (r : Row) (o : StepInput) (number : ℕ) where
  abbrev ended : Row
  ended = row_from r.parameters r.times (ended_state r.now o number)

  by_tests : (broken late closes own unkept : Bool) (s : RowStep) (x y : State)
      → cond broken false (cond late true (cond closes (cond own false true) false)) ≡ true
      → (cond {A = RowStep} broken (stays (row_from r.parameters r.times y))
      (cond late (stays (row_from r.parameters r.times x))
      (cond own s (cond (closes && unkept) (stays (row_from r.parameters r.times x)) (stays (row_from r.parameters r.times y)))))).row
      ≡ row_from r.parameters r.times (cond late x (cond unkept x y))
  by_tests true late closes own unkept s x y e = both (sym e)
  by_tests false true closes own unkept s x y e = refl
  by_tests false false true true unkept s x y e = both (sym e)
  by_tests false false true false true s x y e = refl
  by_tests false false true false false s x y e = refl
  by_tests false false false own unkept s x y e = both (sym e)

  pub step_ended : ends_by r.parameters r.now o ≡ true → (row_step r o number).row ≡ ended
  unfolding ends_by ended_state row_step broken_row
  step_ended e =
      by_tests (ltb 0 r.now.broken) (ltb r.now.due o.time) o.closes (concerns r.parameters o.kind) (eqb r.now.kept 0)
      (changed_row r (change_by r o) o.time number) (broken_state r.now o.time o.closes number) r.now e

  by_saves : (broken late closes own : Bool) (place : ℕ) (b : RowUndo)
      → cond broken false (cond late true (cond closes (cond own false true) false)) ≡ true
      → cond (cond broken false (cond late true (cond closes true own))) (saved_at r (cond broken 0 (cond late 0 (cond own place 0))) number) b
      ≡ saved_at r 0 number
  by_saves true late closes own place b e = both (sym e)
  by_saves false true closes own place b e = refl
  by_saves false false true true place b e = both (sym e)
  by_saves false false true false place b e = refl
  by_saves false false false own place b e = both (sym e)

  pub saved_ended : (b : RowUndo) → ends_by r.parameters r.now o ≡ true → saved_by o number r b ≡ saved_at r 0 number
  unfolding ends_by saved_by moves_by step_place
  saved_ended b e =
      by_saves (ltb 0 r.now.broken) (ltb r.now.due o.time) o.closes (concerns r.parameters o.kind)
      (edit_place (change_by r o).edit (ring_of r.times r.now.head r.now.len)) b e

-- ---- a row's rule stays as it is

same_parameters : (parameters : Parameters) (b : Bool) (x y : RowStep) → x.row.parameters ≡ parameters → y.row.parameters ≡ parameters
    → (cond {A = RowStep} b x y).row.parameters ≡ parameters
same_parameters parameters true x y p q = p
same_parameters parameters false x y p q = q

changed_parameters : (r : Row) (change : Change) (t number : ℕ) → (changed_row r change t number).row.parameters ≡ r.parameters
unfolding changed_row applied
changed_parameters r change t number =
    same_parameters r.parameters (ltb waiting_limit r.now.len) _ _ refl
    (same_parameters r.parameters change.breaks _ _ refl
    (same_parameters r.parameters (ltb waiting_limit (length (changed change.edit (items_of r)))) _ _ refl refl))

pub parameters_stays : (r : Row) (o : StepInput) (number : ℕ) → (row_step r o number).row.parameters ≡ r.parameters
unfolding row_step broken_row
parameters_stays r o number =
    same_parameters r.parameters (ltb 0 r.now.broken) _ _ refl
    (same_parameters r.parameters (ltb r.now.due o.time) _ _ refl
    (same_parameters r.parameters (concerns r.parameters o.kind) _ _ (changed_parameters r (change_by r o) o.time number)
    (same_parameters r.parameters (o.closes && eqb r.now.kept 0) _ _ refl refl)))

-- ---- what is kept of a row is what it was, now or before; and so is what it keeps without a step

module _ (P : State → Type 0) where
  pub saved_state : (r : Row) (o : StepInput) (number : ℕ) (b : RowUndo) → P r.now → P b.state → P (saved_by o number r b).state
  unfolding saved_by
  saved_state r o number b now then = split (moves_by r.parameters r.now o) (λ x. P (cond x (saved_row r o number) b).state) (λ _. now)
      (λ _. then)

  pub without_state : (number : ℕ) (r : Row) (b : RowUndo) → P r.now → P b.state → P (row_without number r b).now
  unfolding row_without back_row
  without_state number r b now then = split (eqb b.step number) (λ x. P (cond x (back_row r b) r).now) (λ _. then) (λ _. now)

  pub kept_state : (number : ℕ) (b : RowUndo) → P b.state → P no_state → P (kept_without number b).state
  unfolding kept_without
  kept_state number b then none = split (eqb b.step number) (λ x. P (cond x no_row_undo b).state) (λ _. none) (λ _. then)

-- ---- at most 64 wait

abbrev pub Roomy : State → Type 0
Roomy now = now.len ≤ 64

pushed_few : (word : ℕ) (q : Ring) → q.len ≤ 64 → (push_ring word q).len ≤ 64
unfolding push_ring
pushed_few word q few =
    split (ltb q.len 64) (λ b. ltb q.len 64 ≡ b
    → (cond {A = Ring} b (ring_of (set q.times (ring_place q.head q.len) word) q.head (q.len + 1)) q).len ≤ 64)
    (λ _ e. omega (arith, ltb-true q.len 64 e)) (λ _ e. few) refl

put_few : (i word : ℕ) (q : Ring) → q.len ≤ 64 → (put_ring i word q).len ≤ 64
unfolding put_ring
put_few i word q few =
    split (ltb i q.len) (λ b. (cond {A = Ring} b (ring_of (set q.times (ring_place q.head i) word) q.head q.len) q).len ≤ 64) (λ _. few)
    (λ _. few)

edited_few : (edit : Edit) (q : Ring) → q.len ≤ 64 → (edited edit q).len ≤ 64
edited_few (Drop k) q few = omega (arith, few)
edited_few (Push k word) q few = pushed_few word (drop_ring k q) (omega (arith, few))
edited_few (PushTwo k first second) q few = pushed_few second (push_ring first (drop_ring k q)) (pushed_few first (drop_ring k q) (omega (
  arith,
  few,
)))
edited_few (Store place first second) q few = put_few (place + 1) second (put_ring place first q) (put_few place first q few)

few_by : (b : Bool) (x y : RowStep) → x.row.now.len ≤ 64 → y.row.now.len ≤ 64 → (cond {A = RowStep} b x y).row.now.len ≤ 64
few_by true x y p q = p
few_by false x y p q = q

changed_few : (r : Row) (change : Change) (t number : ℕ) → Roomy r.now → Roomy (changed_row r change t number).row.now
unfolding changed_row applied
changed_few r change t number few =
    let more : Bool = ltb waiting_limit (length (changed change.edit (items_of r))) in
    let goes : RowStep = cond more (crowding r) (stays (applied r change)) in
    few_by (ltb waiting_limit r.now.len) (crowding r) (cond change.breaks (stays (broken_by_event r t number)) goes) few
    (few_by change.breaks (stays (broken_by_event r t number)) goes (omega arith)
    (few_by more (crowding r) (stays (applied r change)) few (edited_few change.edit (ring_of r.times r.now.head r.now.len) few)))

pub step_few : (r : Row) (o : StepInput) (number : ℕ) → Roomy r.now → Roomy (row_step r o number).row.now
unfolding row_step broken_row
step_few r o number few =
    let ends : RowStep = cond (o.closes && eqb r.now.kept 0) (stays (broken_row r o.time o.closes number)) (stays r) in
    let own : RowStep = cond (concerns r.parameters o.kind) (changed_row r (change_by r o) o.time number) ends in
    few_by (ltb 0 r.now.broken) (stays r) (cond (ltb r.now.due o.time) (stays (broken_row r o.time o.closes number)) own) few
    (few_by (ltb r.now.due o.time) (stays (broken_row r o.time o.closes number)) own (omega arith)
    (few_by (concerns r.parameters o.kind) (changed_row r (change_by r o) o.time number) ends
    (changed_few r (change_by r o) o.time number few)
    (few_by (o.closes && eqb r.now.kept 0) (stays (broken_row r o.time o.closes number)) (stays r) (omega arith) few)))

pub saved_few : (r : Row) (o : StepInput) (number : ℕ) (b : RowUndo) → Roomy r.now → Roomy b.state → Roomy (saved_by o number r b).state
saved_few r o number b few kept = saved_state Roomy r o number b few kept

pub kept_few : (number : ℕ) (b : RowUndo) → Roomy b.state → Roomy (kept_without number b).state
kept_few number b kept = kept_state Roomy number b kept (omega arith)
