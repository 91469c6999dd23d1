-- Whether a step overflows a row does not depend on the number of the step, nor on its times: a row with room for two more words is crowded by
-- nothing, as a change lets in two at most; and with 63 or 64 waiting, its type, its marks and how many wait say whether more are let in.
use Rattle.row.proofs.Names.{Bool, Drop, Edit, List, StepInput, Push, PushTwo, Row, RowStep, Store, [], ◌&&◌, ◌+◌, ◌<◌, ◌∙◌, ◌∷◌, ◌≡◌, ◌≤◌}
use Rattle.row.proofs.Names.{ap, applied, arith, broken_by_event, broken_row, change_by, changed, changed_row, concerns, cond}
use Rattle.row.proofs.Names.{crowded_by, crowding, kind_overflows}
use Rattle.row.proofs.Names.{drop, eqb, false, overflows, event_overflows, items_of, le-ltb, length, length-append, length-drop, length-set, ltb}
use Rattle.row.proofs.Names.{ltb-false}
use Rattle.row.proofs.Names.{ltb-true, neither, refl, ring_length, row_step, set, split, stays, stepped_row, sym, true, waiting_limit, with_change}
use Rattle.row.proofs.Names.{ℕ}
use Rattle.row.proofs.Machines.{fits}

-- ---- a change

-- what occurs crowds the row
abbrev pub crowds : StepInput → Row → Bool
crowds o r =
    cond (ltb 0 r.now.broken) false
    (cond (ltb r.now.due o.time) false
    (cond (concerns r.parameters o.kind) (cond (ltb waiting_limit r.now.len) true (kind_overflows (change_by r o) (items_of r))) false))

-- it is crowded and stays as it is, or it takes the step
by_tests : (broken late own full breaks more unkept : Bool) (r x e y : Row)
    → cond broken (stays r) (cond late (stays x)
    (cond own (cond full (crowding r) (cond breaks (stays e) (cond more (crowding r) (stays y)))) (cond unkept (stays x) (stays r))))
    ≡ cond (cond broken false (cond late false (cond own (cond full true (cond breaks false more)) false))) (crowding r)
    (stays (cond broken r (cond late x (cond own (cond breaks e y) (cond unkept x r)))))
by_tests true late own full breaks more unkept r x e y = refl
by_tests false true own full breaks more unkept r x e y = refl
by_tests false false true true breaks more unkept r x e y = refl
by_tests false false true false true more unkept r x e y = refl
by_tests false false true false false true unkept r x e y = refl
by_tests false false true false false false unkept r x e y = refl
by_tests false false false full breaks more true r x e y = refl
by_tests false false false full breaks more false r x e y = refl

step_either : (r : Row) (o : StepInput) (number : ℕ) → row_step r o number ≡ cond (crowds o r) (crowding r) (stays (stepped_row o number r))
unfolding row_step changed_row stepped_row with_change
step_either r o number =
    by_tests (ltb 0 r.now.broken) (ltb r.now.due o.time) (concerns r.parameters o.kind) (ltb waiting_limit r.now.len)
    (change_by r o).breaks (ltb waiting_limit (length (changed (change_by r o).edit (items_of r)))) (o.closes && eqb r.now.kept 0) r
    (broken_row r o.time o.closes number) (broken_by_event r o.time number) (applied r (change_by r o))

pub step_crowds : (r : Row) (o : StepInput) (number : ℕ) → (row_step r o number).crowded ≡ crowds o r
step_crowds r o number = ap (λ (s : RowStep). s.crowded) (step_either r o number) ∙ by_crowds (crowds o r) r (stepped_row o number r)
  where
    by_crowds : (b : Bool) (x y : Row) → (cond b (crowding x) (stays y)).crowded ≡ b
    by_crowds true x y = refl
    by_crowds false x y = refl

-- by whether it is crowded
pub step_by : (r : Row) (o : StepInput) (number : ℕ) (b : Bool) → (row_step r o number).crowded ≡ b
    → row_step r o number ≡ cond b (crowding r) (stays (stepped_row o number r))
step_by r o number b e =
    step_either r o number ∙ ap (λ (z : Bool). cond z (crowding r) (stays (stepped_row o number r))) (sym (step_crowds r o number) ∙ e)

-- ---- room for two more

two_more : (edit : Edit) (list : List ℕ) → length list < 63 → length (changed edit list) ≤ 64
two_more (Drop dropped) list h = rw (length-drop dropped list) (omega (arith, h))
two_more (Push dropped word) list h = rw (length-append (drop dropped list) (word ∷ []), length-drop dropped list) (omega (arith, h))
two_more (PushTwo dropped first second) list h =
    rw (length-append (drop dropped list) (first ∷ second ∷ []), length-drop dropped list) (omega (arith, h))
two_more (Store place first second) list h = omega (arith, h, length-set (set list place first) (place + 1) second, length-set list place first)

all_false : (a b c d : Bool) → cond a false (cond b false (cond c (cond d false false) false)) ≡ false
all_false true b c d = refl
all_false false true c d = refl
all_false false false true true = refl
all_false false false true false = refl
all_false false false false d = refl

room_left : (r : Row) (o : StepInput) → length (items_of r) < 63 → crowds o r ≡ false
room_left r o h =
    let change = change_by r o in
    rw (
      le-ltb 64 r.now.len (omega (arith, h, ring_length r.times r.now.head r.now.len)),
      le-ltb 64 (length (changed change.edit (items_of r))) (two_more change.edit (items_of r) h),
    )
    (all_false (ltb 0 r.now.broken) (ltb r.now.due o.time) (concerns r.parameters o.kind) change.breaks)

-- ---- the question

-- §6.5, §8.12: an event of one of the row's kinds overflows it exactly if a step of the row would
pub full_known : (r : Row) (o : StepInput) → r.now.len ≤ 64 → concerns r.parameters o.kind ≡ true
    → event_overflows r.parameters r.now o.stream o.time ≡ crowds o r
unfolding event_overflows
full_known r o few own =
    let size : length (items_of r) ≡ r.now.len = ring_length r.times r.now.head r.now.len in
    let open_to : Bool → Bool = λ b. cond (ltb 0 r.now.broken) false (cond (ltb r.now.due o.time) false b) in
    split (ltb r.now.len 63) (λ b. ltb r.now.len 63 ≡ b
    → cond b false (open_to (overflows r.parameters r.now.registers r.now.len o.stream o.time)) ≡ crowds o r)
    (λ _ e. sym (room_left r o (omega (arith, size, ltb-true r.now.len 63 e))))
    (λ _ e. rw (own, le-ltb waiting_limit r.now.len few)
    (ap open_to (ap (λ (k : ℕ). overflows r.parameters r.now.registers k o.stream o.time)
    (sym size) ∙ (fits r.parameters.tag).crowding r.parameters r.now.registers (items_of r) o.stream o.time
    (omega (arith, size, ltb-false r.now.len 63 e)) (omega (arith, size, few)))))
    refl

-- the question is answered as a step of the row would answer it
pub crowded_known : (r : Row) (o : StepInput) → r.now.len ≤ 64 → crowded_by r.parameters r.now o ≡ crowds o r
unfolding crowded_by
crowded_known r o few =
    split (concerns r.parameters o.kind) (λ own. concerns r.parameters o.kind ≡ own
    → cond own (event_overflows r.parameters r.now o.stream o.time) false ≡ crowds o r)
    (λ _ own. full_known r o few own) (λ _ other. sym (rw other (not_applied (ltb 0 r.now.broken) (ltb r.now.due o.time)))) refl
  where
    not_applied : (broken late : Bool) → cond broken false (cond late false false) ≡ false
    not_applied true late = refl
    not_applied false late = neither late
