-- Row after row: before the turn of number i the first i have taken it.
use Rattle.in_place.proofs.Names.{◌<◌, ◌∙◌, add-one, ap, arith, clock_applied, ended_row, ended_saves, kept_at, row_at}
use Rattle.in_place.proofs.Names.{sym}
use Rattle.in_place.proofs.Names.{words_of_lent, ℕ}
use Rattle.in_place.proofs.{Blocks.row_lies, Blocks.row_stored, Parts.shaped_ended}
use Rattle.in_place.proofs.rows.apply_clock_all.Goals as goal

pub loop-i-preserved : goal.loop-i-preserved
loop-i-preserved c =
    let a = c.args in let i = c.loop-i.i in let m = c.loop-i.m in λ h e s.
    let so_far = c.loop-i.invariant h e s in
    let h' = clock_applied h i a.o a.number in
    let there : i < 32 = omega (arith, c.requires, c.loop-i-test.true) in
    let r = row_at h'.monitor i in
    let b = kept_at h'.monitor i in
    let wide = shaped_ended h i a.o a.number s in
    let row = c.apply_clock.ensures r b (row_lies h' wide m so_far i there) in
    row_stored h' wide m so_far i there c.apply_clock.new.row (ended_row a.o a.number r) (ended_saves a.o a.number r b) row
    ∙ ap (λ (k : ℕ). words_of_lent (clock_applied h k a.o a.number)) (sym (add-one i))
