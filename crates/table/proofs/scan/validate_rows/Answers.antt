-- The loop counts row after row: as many as were counted stand before the place, and what is read from there on, behind them, is the whole.
use Rattle.table.proofs.Names.{rules, ReadsAt, Taken, ◌+◌, ◌≡◌, ap, arith, length_at, ℕ}
use Rattle.constraint.proofs.Refusals.{exit_is}
use Rattle.table_row.proofs.Exits.{error_before, taken_before}
use Rattle.table.proofs.Places.{place_taken}
use Rattle.table.proofs.Scanning.{counted_end, counted_more, counted_refused, counted_start}
use Rattle.table.proofs.scan.validate_rows.Goals as goal

-- the row that is counted was taken
pub loop-place-preserved : goal.loop-place-preserved
loop-place-preserved c =
    let a = c.args in
    let place = c.loop-place.place in
    let behind : place + 2 + c.two_at.result ≡ place + 2 + length_at a.bytes.now place = ap (λ (size : ℕ). place + 2 + size)
    c.two_at.ensures in
    let read : ReadsAt a.edition a.bytes.now c.loop-place.rows place Taken =
    rw (taken_before c.validate_row.result _ _ c.map_err.ensures.variant c.in_ok-map_err.was) at c.validate_row.ensures in
    counted_more a.edition a.bytes.now c.loop-place.rows place _ c.loop-place.invariant (omega arith) read behind

pub returns : goal.returns
returns c =
    counted_end c.args.edition c.args.bytes.now c.loop-place.rows c.loop-place.place
    c.loop-place.invariant c.loop-place-test.false

pub loop-place-init : goal.loop-place-init
loop-place-init c = counted_start c.args.edition c.args.bytes.now (omega arith)

pub overflow_add-place-in-loop-place : goal.overflow_add-place-in-loop-place
overflow_add-place-in-loop-place c =
    let a = c.args in let l = c.loop-place in
    let read : ReadsAt a.edition a.bytes.now l.rows l.place Taken =
    rw (taken_before c.validate_row.result _ _ c.map_err.ensures.variant c.in_ok-map_err.was) at c.validate_row.ensures in
    omega (arith, (place_taken a.edition a.bytes.now l.rows l.place _ read.1).whole, c.two_at.ensures)

pub returns-in_err-map_err : goal.returns-in_err-map_err
returns-in_err-map_err c =
    let bytes = c.args.bytes.now in let loop = c.loop-place in
    let before = error_before c.validate_row.result _ _ c.map_err.ensures.cases _ c.in_err-map_err.was in
    let is : c.in_err-map_err.field-0.0 ≡ record { refusal = before.0; place = loop.place } = search rules in
    rw (exit_is c.from_residual.result _ c.from_residual.ensures.1, is)
    (counted_refused c.args.edition bytes loop.rows loop.place _ loop.invariant (omega arith) (rw before.1 at c.validate_row.ensures))
