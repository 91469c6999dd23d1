-- The table is judged first, then the body, and then the room that the buffer has.
use Rattle.table.proofs.Names.{Bytes, arith, length, rules, ◌≡◌}
use Rattle.table.proofs.Appending.{no_room, not_added, row_fits_in}
use Rattle.table.specs.Appending.{table_wrong}
use Rattle.constraint.proofs.Refusals.{exit_is}
use Rattle.table_row.proofs.Exits.{error_before, taken_before}
use Rattle.table.proofs.append.answer.Goals as goal

pub returns-in_err-rows : goal.returns-in_err-rows
returns-in_err-rows c = rw (exit_is c.from_residual.result _ c.from_residual.ensures.1) (table_wrong _ _ c.in_err-rows.ensures)

-- a slice of bytes holds bytes
pub returns-in_err-map_err : goal.returns-in_err-map_err
unfolding Bytes
returns-in_err-map_err c =
    let a = c.args in
    let counted = c.in_ok-rows.ensures in
    let before = error_before c.validate_body.result _ _ c.map_err.ensures.cases _ c.in_err-map_err.was in
    let is : c.in_err-map_err.field-0.0 ≡ record { refusal = before.0; place = length a.table.now } = search rules in
    rw (exit_is c.from_residual-in_err-map_err.result _ c.from_residual-in_err-map_err.ensures.1, is)
    (not_added a.table.now a.body.now a.size (λ i h. omega (arith, (c.type_inv.body i).fits)) counted.rows counted.reads _ counted.counted _
    (rw before.1 at c.validate_body.ensures))

pub returns-then-size-place : goal.returns-then-size-place
unfolding Bytes
returns-then-size-place c =
    let a = c.args in
    let counted = c.in_ok-rows.ensures in
    no_room a.table.now a.body.now a.size (λ i h. omega (arith, (c.type_inv.body i).fits)) counted.rows counted.reads _ counted.counted
    (rw (taken_before c.validate_body.result _ _ c.map_err.ensures.variant c.in_ok-map_err.was) at c.validate_body.ensures)
    (omega (arith, c.if-size-place.true))

pub returns : goal.returns
unfolding Bytes
returns c =
    let a = c.args in
    let counted = c.in_ok-rows.ensures in
    row_fits_in a.table.now a.body.now a.size (λ i h. omega (arith, (c.type_inv.body i).fits)) counted.rows counted.reads _ counted.counted
    (rw (taken_before c.validate_body.result _ _ c.map_err.ensures.variant c.in_ok-map_err.was) at c.validate_body.ensures)
    (omega (arith, c.if-size-place.false))
