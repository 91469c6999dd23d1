-- Row after row: before the turn of number i the first i are without the step.
use Rattle.in_place.proofs.Names.{◌<◌, ◌∙◌, add-one, ap, arith, rows_undone, kept_at, kept_without, row_at}
use Rattle.in_place.proofs.Names.{row_without, sym}
use Rattle.in_place.proofs.Names.{words_of_lent, ℕ}
use Rattle.in_place.proofs.{Blocks.row_lies, Blocks.row_stored, Parts.shaped_backed}
use Rattle.in_place.proofs.rows.undo_rows.Goals as goal

pub loop-i-preserved : goal.loop-i-preserved
loop-i-preserved c =
    let a = c.args in let i = c.loop-i.i in let m = c.loop-i.m in λ h e s.
    let so_far = c.loop-i.invariant h e s in
    let h' = rows_undone h i a.number in
    let there : i < 32 = omega (arith, c.requires, c.loop-i-test.true) in
    let r = row_at h'.monitor i in
    let b = kept_at h'.monitor i in
    let wide = shaped_backed h i a.number s in
    let row = c.undo_step.ensures r b (row_lies h' wide m so_far i there) in
    row_stored h' wide m so_far i there c.undo_step.new.row (row_without a.number r b) (kept_without a.number b) row
    ∙ ap (λ (k : ℕ). words_of_lent (rows_undone h k a.number)) (sym (add-one i))
