-- No step changes the numbers of a row, and none writes where its constants stand: a Pattern writes nothing into its ring, and an Arbitrary its times
-- behind the constants. A withdrawal gives back the rows before the step. So a row has them after any requests.
use Rattle.constraint.proofs.Library.{Bool, List, [], ◌&&◌, ◌++◌, ◌+◌, ◌-◌, ◌<◌, ◌∙◌, ◌∷◌, ◌≡◌, ◌≤◌, ◌||◌, ◌⊎◌, ap, arith, cond, eqb, eqb-true, false}
use Rattle.constraint.proofs.Library.{get_or, get_elem?, inl, inr, leb, length, ltb, ltb-false, map, min, refl, set, some, subst, suc, sym, take}
use Rattle.constraint.proofs.Library.{take-set-le, true, zero}
use Rattle.constraint.proofs.Library.{ℕ, ⊎_elim}
use Rattle.constraint.proofs.{Judged.never, Lists.both, Lists.split}
use Rattle.constraint.specs.Accepted.{Accepted}
use Rattle.constraint.specs.Constraint.{Constraint}
use Rattle.constraint.specs.{Limits.waiting_limit, Steps.at}
use Rattle.constraint.specs.{Promise.play, Run.Request, Run.asks, Types.type_of}
use Rattle.constraint.specs.declared.Call.{Call}
use Rattle.ring.specs.Ring.{Ring, changed, edited, put_ring, ring_of, ring_place}
use Rattle.ring.specs.declared.Edit.{Edit}
use Rattle.ring.specs.declared.Edit.TheVariants.{Drop, Push, PushTwo, Store}
use Rattle.row_type.proofs.FieldNumbers.{tag_is}
use Rattle.row_type.specs.Parameters.{parameters_of, start_ring}
use Rattle.row_type.specs.Parts.{breaking, continues_with, far_enough, plus, registers_of}
use Rattle.row_type.specs.declared.{Change.Change, Parameters.Parameters, Registers.Registers}
use Rattle.patterns.specs.Pattern as P
use Rattle.repeat_burst.specs.Arbitrary as A
use Rattle.row.proofs.EveryType.{every_type_exact}
use Rattle.row.specs.Machine.{applied, broken_by_event, broken_row, changed_row, concerns, crowding, decide, items_of, machine_of, row_of, row_step}
use Rattle.row.specs.Machine.{stays}
use Rattle.row.specs.RowStep.{RowStep}
use Rattle.row.specs.declared.{Row.Row, StepInput.StepInput}
use Rattle.monitor.proofs.Withdrawing.{struck}
use Rattle.monitor.specs.Contract.{after, step}
use Rattle.monitor.specs.Machine.{bare, crowds, map_first, monitor_of, next_step, no_row, refusal_for, refuses, step_input_of, step_of, taken_call}
use Rattle.monitor.specs.Machine.{takes}
use Rattle.monitor.specs.declared.{Monitor.Monitor}
use Rattle.read_back.specs.Back.{constant_limit}
use Rattle.read_back.proofs.Inverse.{Constant}

-- ---- edits

-- an edit of a ring from its first word on that leaves the first 16
abbrev Calm : Edit → Type 0
Calm (Drop dropped) = dropped ≡ 0
Calm (Push dropped word) = ⊥
Calm (PushTwo dropped first second) = ⊥
Calm (Store place first second) = (16 ≤ place) × (place < 24)

-- the ring has its first words as they were, and still begins with its first
abbrev Leaves : Ring → Ring → Type 0
Leaves before q = (take constant_limit q.times ≡ take constant_limit before.times) × (q.head ≡ 0)

put_high : (i word : ℕ) (q : Ring) → 16 ≤ i → i < 64 → q.head ≡ 0 → Leaves q (put_ring i word q)
unfolding put_ring
put_high i word q high low start =
    let same : ring_place q.head i ≡ i = omega (arith, start, low) in
    split (ltb i q.len) (λ b. Leaves q (cond b (ring_of (set q.times (ring_place q.head i) word) q.head q.len) q))
    (λ _. (take-set-le constant_limit q.times (ring_place q.head i) word (omega (arith, same, high)), start)) (λ _. (refl, start))

edit_calm : (edit : Edit) (q : Ring) → Calm edit → q.head ≡ 0 → Leaves q (edited edit q)
edit_calm (Drop dropped) q calm start = (refl, rw calm start)
edit_calm (Push dropped word) q calm start = absurd calm
edit_calm (PushTwo dropped first second) q calm start = absurd calm
edit_calm (Store place first second) q calm start =
    let one = put_high place first q calm.0 (omega (arith, calm.1)) start in
    let two = put_high (place + 1) second (put_ring place first q) (omega (arith, calm.0)) (omega (arith, calm.1)) one.1 in
    (two.0 ∙ one.0, two.1)

-- ---- what the two types do

by_test : (b : Bool) (x y : Change) → Calm x.edit → Calm y.edit → Calm (cond b x y).edit
by_test true x y first second = first
by_test false x y first second = second

module _ (n period jitter minimum : ℕ) (offset : ℕ → ℕ) (registers : Registers) (t : ℕ) where
  placed_calm : (i low high : ℕ) → Calm (P.placed_in n period jitter minimum offset registers t i low high).edit
  unfolding P.placed_in
  placed_calm i low high =
      by_test (leb (offset i) t && (leb low high && leb t (P.due_then n period jitter minimum offset t i high)))
      (P.point_in n period jitter minimum offset registers t i low high) breaking refl refl

  later_calm : Calm (P.later_pattern n period jitter minimum offset registers t).edit
  unfolding P.later_pattern
  later_calm =
      let low = P.low_after n period jitter minimum offset registers t in let high = P.high_after n period jitter minimum offset registers t in
      by_test (far_enough minimum registers.fourth t && (ltb 0 registers.first || ltb 0 period))
      (P.placed_in n period jitter minimum offset registers t registers.first low high) breaking (placed_calm registers.first low high) refl

  decided_calm : Calm (P.decide_pattern n period jitter minimum offset registers t).edit
  unfolding P.decide_pattern
  decided_calm =
      let low = t - plus (offset registers.first) jitter in let high = t - offset registers.first in
      by_test (eqb registers.fourth 0) (P.placed_in n period jitter minimum offset registers t registers.first low high)
      (P.later_pattern n period jitter minimum offset registers t) (placed_calm registers.first low high) later_calm

pattern_calm : (p : Parameters) (registers : Registers) (words : List ℕ) (s t : ℕ) → Calm (P.decide_in_words p registers words s t).edit
unfolding P.decide_in_words
pattern_calm p registers words s t = decided_calm p.span p.upper p.jitter p.minimum (at words) registers t

arbitrary_calm : (p : Parameters) (registers : Registers) (words : List ℕ) (s t : ℕ) → Calm (A.decide_in_words p registers words s t).edit
unfolding A.decide_in_words A.decide_arbitrary
arbitrary_calm p registers words s t =
    let n = min p.span 8 in
    by_test (A.late_enough n (A.lower_in words) 16 registers.first words t)
    (continues_with (A.note_time 16 registers.first words t)
    (registers_of registers.last (A.next_place registers.first) registers.second registers)
    (A.due_after n (A.upper_in words) 16 registers.first words t) true)
    breaking (omega arith, omega arith) refl

constant_type : (t : ℕ) → Constant t → (t ≡ 15) ⊎ (t ≡ 16)
constant_type t =
    split (eqb t 15) (λ b. ltb (cond b 5 (cond (eqb t 16) 2 18)) 18 ≡ true → (t ≡ 15) ⊎ (t ≡ 16)) (λ e _. inl (eqb-true t 15 e))
    (λ _. split (eqb t 16) (λ b. ltb (cond b 2 18) 18 ≡ true → (t ≡ 15) ⊎ (t ≡ 16)) (λ e _. inr (eqb-true t 16 e)) (λ _ wrong. both (sym wrong)))

decide_calm : (p : Parameters) → Constant p.tag → (registers : Registers) (words : List ℕ) (s t : ℕ) → Calm (decide p registers words s t).edit
decide_calm p has registers words s t =
    ⊎_elim
    (λ e. subst (λ (tag : ℕ). Calm ((machine_of tag).decide p registers words s t).edit) (sym e) (pattern_calm p registers words s t))
    (λ e. subst (λ (tag : ℕ). Calm ((machine_of tag).decide p registers words s t).edit) (sym e) (arbitrary_calm p registers words s t))
    (constant_type p.tag has)

-- ---- a row

-- a row of a constraint: it has its numbers and its constants, and its ring begins with its first word while it is not broken
pub record Kept (c : Constraint) (r : Row) : Type 0 where
  pub parameters_is : r.parameters ≡ parameters_of c
  pub constants : Constant (type_of c) → take constant_limit r.times ≡ take constant_limit (start_ring c)
  pub from_first : Constant (type_of c) → r.now.broken ≡ 0 → r.now.head ≡ 0

kept_start : (c : Constraint) → Kept c (row_of c)
unfolding row_of
kept_start c = record { parameters_is = refl; constants = λ _. refl; from_first = λ _ _. refl }

module _ (c : Constraint) (r : Row) (k : Kept c r) where
  kept_broken : (t : ℕ) (closes : Bool) (number : ℕ) → 0 < number → Kept c (broken_row r t closes number)
  unfolding broken_row
  kept_broken t closes number above =
      record { parameters_is = k.parameters_is; constants = k.constants; from_first = λ _ e. absurd (omega (arith, above, e)) }

  kept_by_event : (t number : ℕ) → 0 < number → Kept c (broken_by_event r t number)
  kept_by_event t number above =
      record { parameters_is = k.parameters_is; constants = k.constants; from_first = λ _ e. absurd (omega (arith, above, e)) }

  module _ (unbroken : r.now.broken ≡ 0) (change : Change) (calm : Constant (type_of c) → Calm change.edit) where
    kept_applied : Kept c (applied r change)
    unfolding applied
    kept_applied =
        record {
          parameters_is = k.parameters_is;
          constants = λ has. (edit_calm change.edit (ring_of r.times r.now.head r.now.len) (calm has) (k.from_first has unbroken)).0
              ∙ k.constants has;
          from_first = λ has _. (edit_calm change.edit (ring_of r.times r.now.head r.now.len) (calm has) (k.from_first has unbroken)).1;
        }

    kept_changed : (t number : ℕ) → 0 < number → Kept c (changed_row r change t number).row
    unfolding changed_row
    kept_changed t number above =
        by_three (ltb waiting_limit r.now.len) change.breaks (ltb waiting_limit (length (changed change.edit (items_of r))))
        (broken_by_event r t number) (applied r change) (kept_by_event t number above) kept_applied
      where
        by_three : (a b d : Bool) (x y : Row) → Kept c x → Kept c y
            → Kept c (cond a (crowding r) (cond b (stays x) (cond d (crowding r) (stays y)))).row
        by_three true b d x y first second = k
        by_three false true d x y first second = first
        by_three false false true x y first second = k
        by_three false false false x y first second = second

  change_calm : (words : List ℕ) (s t : ℕ) → Constant (type_of c) → Calm (decide r.parameters r.now.registers words s t).edit
  change_calm words s t has =
      decide_calm r.parameters (subst Constant (sym (tag_is c) ∙ ap (λ (p : Parameters). p.tag) (sym k.parameters_is)) has) r.now.registers
      words s t

  kept_step : (o : StepInput) (number : ℕ) → 0 < number → Kept c (row_step r o number).row
  unfolding row_step
  kept_step o number above =
      let broken = broken_row r o.time o.closes number in
      let change = decide r.parameters r.now.registers (items_of r) o.stream o.time in
      split (ltb 0 r.now.broken)
      (λ b. Kept c (cond b (stays r) (cond (ltb r.now.due o.time) (stays broken) (cond (concerns r.parameters o.kind)
      (changed_row r change o.time number) (cond (o.closes && eqb r.now.kept 0) (stays broken) (stays r))))).row)
      (λ _. k)
      (λ open_row. by_three (ltb r.now.due o.time) (concerns r.parameters o.kind) (o.closes && eqb r.now.kept 0) broken
      (changed_row r change o.time number) (kept_broken o.time o.closes number above)
      (kept_changed (omega (arith, ltb-false 0 r.now.broken open_row)) change (change_calm (items_of r) o.stream o.time) o.time number
      above))
    where
      by_three : (a b d : Bool) (x : Row) (z : RowStep) → Kept c x → Kept c z.row
          → Kept c (cond a (stays x) (cond b z (cond d (stays x) (stays r)))).row
      by_three true b d x z first second = first
      by_three false true d x z first second = second
      by_three false false true x z first second = first
      by_three false false false x z first second = k

-- ---- the rows of a monitor

abbrev KeptRows : List Constraint → List Row → Type 0
KeptRows [] rows = Unit {0}
KeptRows (c ∷ cs) [] = ⊥
KeptRows (c ∷ cs) (r ∷ rows) = Kept c r × KeptRows cs rows

rows_start : (cs : List Constraint) (rest : List Row) → KeptRows cs (map row_of cs ++ rest)
rows_start [] rest = tt
rows_start (c ∷ cs) rest = (kept_start c, rows_start cs rest)

rows_step : (cs : List Constraint) (rows : List Row) (o : StepInput) (number : ℕ) → 0 < number → KeptRows cs rows
    → KeptRows cs (map_first (length cs) (λ r. (row_step r o number).row) rows)
unfolding map_first
rows_step [] rows o number above kept = tt
rows_step (c ∷ cs) [] o number above kept = absurd kept
rows_step (c ∷ cs) (r ∷ rows) o number above kept = (kept_step c r kept.0 o number above, rows_step cs rows o number above kept.1)

rows_at : (cs : List Constraint) (rows : List Row) → KeptRows cs rows → (i : ℕ) (c : Constraint) → get_elem? cs i ≡ some c
    → Kept c (get_or rows i no_row)
rows_at [] rows kept i c there = never (cc)
rows_at (d ∷ cs) [] kept i c there = absurd kept
rows_at (d ∷ cs) (r ∷ rows) kept zero c there = let same : d ≡ c = cc in subst (λ (x : Constraint). Kept x r) same kept.0
rows_at (d ∷ cs) (r ∷ rows) kept (suc i) c there = rows_at cs rows kept.1 i c there

abbrev KeptIn : List Constraint → Monitor → Type 0
KeptIn cs m = (m.len ≡ length cs) × KeptRows cs m.rows

module _ (cs : List Constraint) where
  taken_keeps : (m : Monitor) (s : Call) → KeptIn cs m → KeptIn cs (taken_call m s)
  unfolding taken_call
  taken_keeps m s kept = (
    kept.0,
    subst (λ (n : ℕ). KeptRows cs (map_first n (λ r. (row_step r (step_input_of m s) (next_step m)).row) m.rows)) (sym kept.0)
        (rows_step cs m.rows (step_input_of m s) (next_step m) (omega arith) kept.1),
  )

  by_tests : (b d : Bool) (n : ℕ) (m x : Monitor) → KeptIn cs m → KeptIn cs x
      → KeptIn cs (cond b (refuses n m) (cond d (refuses 12 m) (takes x))).monitor
  by_tests true d n m x first second = first
  by_tests false true n m x first second = first
  by_tests false false n m x first second = second

  call_keeps : (m : Monitor) (s : Call) → KeptIn cs m → KeptIn cs (step_of m s).monitor
  unfolding step_of
  call_keeps m s kept = by_tests (ltb 0 (refusal_for m s)) (crowds m s) (refusal_for m s) m (taken_call m s) kept (taken_keeps m s kept)

  calls_keep : (calls : List Call) (m : Monitor) → KeptIn cs m → KeptIn cs (play step m (map asks calls)).monitor
  unfolding play
  calls_keep [] m kept = kept
  calls_keep (s ∷ calls) m kept = calls_keep calls (step_of m s).monitor (call_keeps m s kept)

  start_keeps : KeptIn cs (monitor_of cs)
  unfolding monitor_of
  start_keeps = (refl, rows_start cs _)

-- §9.14: after any requests over an accepted table each row has the numbers and the constants of its constraint
pub kept_after : (rows : List Constraint) → Accepted rows → (requests : List Request) (i : ℕ) (c : Constraint) → get_elem? rows i ≡ some c
    → Kept c (get_or (after rows requests).rows i no_row)
unfolding after bare
kept_after rows accepted requests i c there =
    let s = struck every_type_exact rows accepted requests in
    let same = ap (λ (m : Monitor). m.rows) s.4 in
    rows_at rows (after rows requests).rows (subst (KeptRows rows) (sym same) (calls_keep rows s.2 (monitor_of rows) (start_keeps rows)).1) i c
    there
