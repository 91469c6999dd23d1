-- Each event is the partner of one beyond of the other kind, or one more beyond itself; what is beyond is stored.
use Rattle.constraint.proofs.Library.{Bool, List, [], ◌-◌, ◌<◌, ◌≡◌, ap, arith, cond, eq-eqb, eqb, false, get_or, ne_eqb, refl, true, ℕ}
use Rattle.constraint.specs.Limits.{no_limit}
use Rattle.row_type.specs.Words.{UndoRecord, changed_words, first_three_saved, going_on, undo_but_registers, number_words, undo_with, row_as_words}
use Rattle.row_type.specs.{Parts.continues_with, Parts.early_of, Parts.plus, declared.Registers.Registers, declared.Parameters.Parameters}
use Rattle.row_type.specs.{declared.State.State}
use Rattle.delay_order.specs.Order.{ahead_of, changes_to, decide_order, with_ahead}
use Rattle.ring.specs.{Ring.drop_ring, Ring.ring_of, declared.Edit.TheVariants.Drop}
use Rattle.delay_order.proofs.order.apply.Goals as goal

-- a change to other marks, as the words have it
going_to : (parameters : Parameters) (times : List ℕ) (state : State) (past : UndoRecord) (registers : Registers) (t number : ℕ)
    → changed_words first_three_saved parameters times state past (changes_to registers) t number
    ≡ row_as_words parameters times (going_on state (drop_ring 0 (ring_of times state.head state.len)) registers (changes_to registers).due
    (changes_to registers).kept)
    (undo_but_registers times state (undo_with past (first_three_saved state.registers past.state.registers)) 0 number)
unfolding changed_words changes_to
going_to parameters times state past registers t number = either (eqb (early_of registers) 0) no_limit (early_of registers - 1)
    (eqb (ahead_of registers) 0)
    false
  where
    either : (b : Bool) (d f : ℕ) (k l : Bool) → changed_words first_three_saved parameters times state past
        (cond b (continues_with (Drop 0) registers d k) (continues_with (Drop 0) registers f l)) t number
        ≡ row_as_words parameters times
        (going_on state (drop_ring 0 (ring_of times state.head state.len)) registers
        (cond b (continues_with (Drop 0) registers d k) (continues_with (Drop 0) registers f l)).due
        (cond b (continues_with (Drop 0) registers d k) (continues_with (Drop 0) registers f l)).kept)
        (undo_but_registers times state (undo_with past (first_three_saved state.registers past.state.registers)) 0 number)
    either true d f k l = refl
    either false d f k l = refl

-- where sources are beyond and no target is, the row waits without a limit
waiting : (registers : Registers) → early_of registers ≡ 0 → 0 < ahead_of registers
    → ((changes_to registers).due ≡ no_limit) × ((changes_to registers).kept ≡ false)
unfolding changes_to
waiting registers none some = rw (eq-eqb (early_of registers) 0 none, ne_eqb (ahead_of registers) 0 (λ zero. omega arith)) (refl, refl)

pub returns-then-early-eq0 : goal.returns-then-early-eq0
unfolding row_as_words number_words decide_order
returns-then-early-eq0 c parameters times state past e =
    let k = c.save_undo_first_three.ensures parameters times state past e in
    let stayed = c.stay.ensures parameters times state (undo_with past (first_three_saved state.registers past.state.registers)) k in
    let none : state.registers.last ≡ 0 = rw stayed at c.if-early-eq0.true in
    let more : Registers = with_ahead state.registers (plus (ahead_of state.registers) 1) in
    let wait = waiting more none (omega arith) in
    rw (
      c.wait_for_target.ensures parameters _ _ (ap (λ w. get_or w 1 []) stayed),
      c.saturating_add.ensures,
      stayed,
      eq-eqb _ _ (rw stayed at c.if-stream-row.true),
      eq-eqb _ _ none,
      going_to,
      wait.0,
      wait.1,
    ) refl

pub returns-then-stream-row : goal.returns-then-stream-row
unfolding row_as_words number_words decide_order
returns-then-stream-row c parameters times state past e =
    let k = c.save_undo_first_three.ensures parameters times state past e in
    let stayed = c.stay.ensures parameters times state (undo_with past (first_three_saved state.registers past.state.registers)) k in
    rw (
      c.store.ensures parameters _ _ (ap (λ w. get_or w 1 []) stayed),
      stayed,
      eq-eqb _ _ (rw stayed at c.if-stream-row.true),
      ne_eqb _ _ (rw stayed at c.if-early-eq0.false),
      going_to,
    ) refl

pub returns-then-ahead-eq0 : goal.returns-then-ahead-eq0
unfolding row_as_words number_words decide_order
returns-then-ahead-eq0 c parameters times state past e =
    let k = c.save_undo_first_three.ensures parameters times state past e in
    let stayed = c.stay.ensures parameters times state (undo_with past (first_three_saved state.registers past.state.registers)) k in
    rw (
      c.store-then-ahead-eq0.ensures parameters _ _ (ap (λ w. get_or w 1 []) stayed),
      c.saturating_add-then-ahead-eq0.ensures,
      stayed,
      ne_eqb _ _ (rw stayed at c.if-stream-row.false),
      eq-eqb _ _ (rw stayed at c.if-ahead-eq0.true),
      going_to,
    ) refl

pub returns : goal.returns
unfolding row_as_words number_words decide_order
returns c parameters times state past e =
    let k = c.save_undo_first_three.ensures parameters times state past e in
    let stayed = c.stay.ensures parameters times state (undo_with past (first_three_saved state.registers past.state.registers)) k in
    rw (
      c.store-2.ensures parameters _ _ (ap (λ w. get_or w 1 []) stayed),
      stayed,
      ne_eqb _ _ (rw stayed at c.if-stream-row.false),
      ne_eqb _ _ (rw stayed at c.if-ahead-eq0.false),
      going_to,
    ) refl
