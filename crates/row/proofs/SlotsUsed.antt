-- How many times a row keeps says when an event can crowd it: a row that keeps at most 62 is crowded by nothing, and what does not concern a row adds
-- none.
use Rattle.row.proofs.Names.{Bool, StepInput, Row, RowStep, Parameters, State, ◌&&◌, ◌≡◌, ◌≤◌, arith, broken_row, concerns, cond, eqb}
use Rattle.row.proofs.Names.{event_overflows, false, lt-ltb, ltb, row_step, stays, true, ℕ}

pub room_free : (parameters : Parameters) (now : State) (s t : ℕ) → now.len ≤ 62 → event_overflows parameters now s t ≡ false
unfolding event_overflows
room_free parameters now s t few = rw (lt-ltb now.len 63 (omega (arith, few)))

module _ (r : Row) (o : StepInput) (number : ℕ) where
  at_most : (b : Bool) (x y : RowStep) → x.row.now.len ≤ r.now.len → y.row.now.len ≤ r.now.len
      → (cond {A = RowStep} b x y).row.now.len ≤ r.now.len
  at_most true x y p q = p
  at_most false x y p q = q

  abbrev breaks : RowStep
  breaks = stays (broken_row r o.time o.closes number)

  emptied : breaks.row.now.len ≤ r.now.len
  unfolding broken_row
  emptied = omega arith

  -- what does not concern the row leaves it with no more
  pub quiet_len : concerns r.parameters o.kind ≡ false → (row_step r o number).row.now.len ≤ r.now.len
  unfolding row_step
  quiet_len quiet =
      rw quiet
      (at_most (ltb 0 r.now.broken) (stays r)
      (cond (ltb r.now.due o.time) breaks (cond (o.closes && eqb r.now.kept 0) breaks (stays r))) (omega arith)
      (at_most (ltb r.now.due o.time) breaks (cond (o.closes && eqb r.now.kept 0) breaks (stays r)) emptied
      (at_most (o.closes && eqb r.now.kept 0) breaks (stays r) emptied (omega arith))))
