-- The loop reads row after row: the record holds the rows read so far, and what is read from the place on, behind them, is the whole.
use Rattle.table.proofs.Names.{rules, ◌≡◌, Constraint, ReadsAt, Taken, [], ◌++◌, ◌∙◌, ◌∷◌, ap, arith, rows_of}
use Rattle.constraint.proofs.Refusals.{exit_is}
use Rattle.table_row.proofs.Exits.{error_before, taken_before}
use Rattle.table.proofs.Progress.{up_to_end, up_to_more, up_to_refused, up_to_start}
use Rattle.table.proofs.{Places.place_taken}
use Rattle.table.proofs.reader.read_rows.Goals as goal

-- the row that is put in the record was taken
pub loop-place-preserved : goal.loop-place-preserved
loop-place-preserved c =
    let a = c.args in let bytes = a.bytes.now in let placed = c.row_at-placed.ensures in
    let l = c.loop-place in
    let read : ReadsAt a.edition bytes l.table.count l.place Taken =
    rw (taken_before c.validate_row.result _ _ c.map_err.ensures.variant c.in_ok-map_err.was) at c.validate_row.ensures in
    let taken = place_taken a.edition bytes l.table.count l.place _ read.1 in
    up_to_more a.edition bytes l.table c.with_row-table.result l.place _ l.invariant (omega arith) read (placed.behind taken.whole)
    (c.with_row-table.ensures.room taken.room ∙ ap (λ (row : Constraint). rows_of l.table ++ (row ∷ [])) (placed.read taken.whole))

pub loop-place-init : goal.loop-place-init
loop-place-init c = up_to_start c.args.edition c.args.bytes.now c.new-table.result (omega arith) c.new-table.ensures

pub loop-place-smaller : goal.loop-place-smaller
loop-place-smaller c =
    let a = c.args in let l = c.loop-place in
    let read : ReadsAt a.edition a.bytes.now l.table.count l.place Taken =
    rw (taken_before c.validate_row.result _ _ c.map_err.ensures.variant c.in_ok-map_err.was) at c.validate_row.ensures in
    let taken = place_taken a.edition a.bytes.now l.table.count l.place _ read.1 in
    omega (arith, c.row_at-placed.ensures.behind taken.whole, taken.whole)

pub returns-in_err-map_err : goal.returns-in_err-map_err
returns-in_err-map_err c =
    let loop = c.loop-place in
    let before = error_before c.validate_row.result _ _ c.map_err.ensures.cases _ c.in_err-map_err.was in
    let is : c.in_err-map_err.field-0.0 ≡ record { refusal = before.0; place = loop.place } = search rules in
    rw (exit_is c.from_residual.result _ c.from_residual.ensures.1, is)
    (up_to_refused c.args.edition c.args.bytes.now loop.table loop.place _ loop.invariant (omega arith) (rw before.1 at c.validate_row.ensures))

pub returns : goal.returns
returns c = up_to_end c.args.edition c.args.bytes.now c.loop-place.table c.loop-place.place c.loop-place.invariant c.loop-place-test.false
