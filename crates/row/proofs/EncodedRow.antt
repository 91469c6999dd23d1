-- A row's words with a change are those of the row with the change, as either way of the change computes; and what occurs makes of a row what the
-- clock or the close alone make of it, or what the event does.
use Rattle.row.proofs.Names.{RowUndo, Bool, Change, List, StepInput, Row, State, ◌&&◌, ◌∙◌, ◌≡◌, ap, applied, applied_row, arith, both}
use Rattle.row.proofs.Names.{broken_by_event, broken_row, broken_state, changed_words, concerns, cond, edit_place, edited, ended_row}
use Rattle.row.proofs.Names.{ended_saves, ended_state, ends_by}
use Rattle.row.proofs.Names.{eq-eqb, eqb, eqb-true, event_at, event_keeps, event_row, event_saves, false, kept_at_place, saved_registers, ltb}
use Rattle.row.proofs.Names.{ltb-false, ltb-true}
use Rattle.row.proofs.Names.{mark, moves_by, ne_eqb, undo_record_of, refl, ring_of, row_from, row_as_words, saved_at, saved_by, split, step_keeps}
use Rattle.row.proofs.Names.{step_place}
use Rattle.row.proofs.Names.{stepped_row, true, with_change, words_of_row, writes_at, ℕ}
use Rattle.row.proofs.UndoComplete.{KeepsWhole, event_keeps_all}

module _ (r : Row) (b : RowUndo) (change : Change) (t number : ℕ) where
  abbrev at : ℕ
  at = edit_place change.edit (ring_of r.times r.now.head r.now.len)

  pub changed_words_lem : r.now.broken ≡ 0
      → changed_words (saved_registers r.parameters.tag) r.parameters r.times r.now (undo_record_of b) change t number
      ≡ words_of_row (with_change r change t number) (cond change.breaks (saved_at r at number) (kept_at_place r b at number))
  unfolding changed_words words_of_row with_change applied
  changed_words_lem is_open =
      split change.breaks
      (λ x. cond x (words_of_row (broken_by_event r t number) (saved_at r at number)) (goes r.now.broken)
      ≡ words_of_row (cond x (broken_by_event r t number) (applied r change)) (cond x (saved_at r at number) (kept_at_place r b at number)))
      (λ _. refl) (λ _. ap goes is_open)
    where
      -- the words of the row that goes on
      goes : ℕ → List (List ℕ)
      goes broken =
          let q = edited change.edit (ring_of r.times r.now.head r.now.len) in
          row_as_words r.parameters q.times
          (record { registers = change.registers; head = q.head; len = q.len; due = change.due; kept = mark change.kept; broken = broken })
          (undo_record_of (kept_at_place r b at number))

  -- a broken row stays as it is
  pub event_words : cond (eqb r.now.broken 0)
      (changed_words (saved_registers r.parameters.tag) r.parameters r.times r.now (undo_record_of b) change t number) (words_of_row r b)
      ≡ words_of_row (cond (eqb r.now.broken 0) (with_change r change t number) r)
      (cond (eqb r.now.broken 0) (cond change.breaks (saved_at r at number) (kept_at_place r b at number)) b)
  event_words =
      split (eqb r.now.broken 0)
      (λ x. cond x (changed_words (saved_registers r.parameters.tag) r.parameters r.times r.now (undo_record_of b) change t number)
      (words_of_row r b) ≡ words_of_row (cond x (with_change r change t number) r)
      (cond x (cond change.breaks (saved_at r at number) (kept_at_place r b at number)) b))
      (λ e. changed_words_lem (eqb-true r.now.broken 0 e)) (λ _. refl)

-- ---- what occurs

not_zero : (n : ℕ) → eqb n 0 ≡ cond (ltb 0 n) false true
not_zero n =
    split (ltb 0 n) (λ b. ltb 0 n ≡ b → eqb n 0 ≡ cond b false true)
    (λ _ e. ne_eqb n 0 (λ z. absurd (omega (arith, z, ltb-true 0 n e)))) (λ _ e. eq-eqb n 0 (omega (arith, ltb-false 0 n e))) refl

module _ (r : Row) (o : StepInput) (number : ℕ) (b : RowUndo) where
  abbrev with_state : State → Row
  with_state = row_from r.parameters r.times

  ended_row_lem : (broken late own closes unkept : Bool) (after_event : Row) (x y : State) → cond late false own ≡ false
      → cond (cond broken false (cond late true (cond closes (cond own false true) false))) (with_state (cond late x (cond unkept x y)))
      (with_state y)
      ≡ cond broken (with_state y) (cond late (with_state x) (cond own after_event (cond (closes && unkept) (with_state x) (with_state y))))
  ended_row_lem true late own closes unkept after_event x y e = refl
  ended_row_lem false true own closes unkept after_event x y e = refl
  ended_row_lem false false true closes unkept after_event x y e = both e
  ended_row_lem false false false true true after_event x y e = refl
  ended_row_lem false false false true false after_event x y e = refl
  ended_row_lem false false false false unkept after_event x y e = refl

  ended_saves_lem : (broken late own closes : Bool) (place : ℕ) → cond late false own ≡ false
      → cond (cond broken false (cond late true (cond closes (cond own false true) false))) (saved_at r 0 number) b
      ≡ cond (cond broken false (cond late true (cond closes true own))) (saved_at r (cond broken 0 (cond late 0 (cond own place 0))) number) b
  ended_saves_lem true late own closes place e = refl
  ended_saves_lem false true own closes place e = refl
  ended_saves_lem false false true closes place e = both e
  ended_saves_lem false false false true place e = refl
  ended_saves_lem false false false false place e = refl

  -- an overdue row, and one that is not concerned
  pub stepped_ended : cond (ltb r.now.due o.time) false (concerns r.parameters o.kind) ≡ false
      → ended_row o number r ≡ stepped_row o number r
  unfolding ends_by ended_state broken_row stepped_row
  stepped_ended =
      ended_row_lem (ltb 0 r.now.broken) (ltb r.now.due o.time) (concerns r.parameters o.kind) o.closes (eqb r.now.kept 0)
      (applied_row r o number) (broken_state r.now o.time o.closes number) r.now

  saved_ended : cond (ltb r.now.due o.time) false (concerns r.parameters o.kind) ≡ false → ended_saves o number r b ≡ saved_by o number r b
  unfolding ends_by saved_by moves_by step_place
  saved_ended = ended_saves_lem (ltb 0 r.now.broken) (ltb r.now.due o.time) (concerns r.parameters o.kind) o.closes (writes_at r o)

  applied_row_lem : (broken : Bool) (after_event : Row) → cond (cond broken false true) after_event r ≡ cond broken r after_event
  applied_row_lem true after_event = refl
  applied_row_lem false after_event = refl

  applied_saves : (broken closes : Bool) (place : ℕ) → cond (cond broken false true) (saved_at r place number) b
      ≡ cond (cond broken false (cond closes true true)) (saved_at r (cond broken 0 place) number) b
  applied_saves true closes place = refl
  applied_saves false true place = refl
  applied_saves false false place = refl

  -- any other
  pub stepped_applied : ltb r.now.due o.time ≡ false → concerns r.parameters o.kind ≡ true
      → event_row (event_at o.stream o.time) number r ≡ stepped_row o number r
  unfolding stepped_row
  stepped_applied early own = rw (early, own, not_zero r.now.broken) (applied_row_lem (ltb 0 r.now.broken) (applied_row r o number))

  saved_applied : ltb r.now.due o.time ≡ false → concerns r.parameters o.kind ≡ true
      → event_saves (event_at o.stream o.time) number r b ≡ saved_by o number r b
  unfolding saved_by moves_by step_place
  saved_applied early own = rw (early, own, not_zero r.now.broken) (applied_saves (ltb 0 r.now.broken) o.closes (writes_at r o))

  -- where the words keep all that the row was, they do so after what occurs
  pub step_keeps_all : KeepsWhole r b → step_keeps o number r b ≡ saved_by o number r b
  unfolding step_keeps
  step_keeps_all whole =
      split late
      (λ x. cond x (ended_saves o number r b) (cond own (event_keeps (event_at o.stream o.time) number r b) (ended_saves o number r b))
      ≡ saved_by o number r b)
      (λ e. saved_ended (ap (λ (x : Bool). cond x false own) e))
      (λ e. split own (λ x. cond x (event_keeps (event_at o.stream o.time) number r b) (ended_saves o number r b) ≡ saved_by o number r b)
      (λ is. event_keeps_all r b (event_at o.stream o.time) number whole ∙ saved_applied e is)
      (λ other. saved_ended (ap (λ (x : Bool). cond x false own) e ∙ other)))
    where
      late : Bool
      late = ltb r.now.due o.time

      own : Bool
      own = concerns r.parameters o.kind
