-- Four rows after four: before the turn of number i it is the soonest due time of the first i.
use Rattle.in_place.proofs.Names.{List, Row, ◌*◌, ◌+◌, ◌∙◌, ◌≡◌, ap, ap₂, arith, get_or, min, no_row, soonest_of}
use Rattle.in_place.proofs.Names.{soonest_of_four, suc, ℕ}
use Rattle.in_place.proofs.rows.soonest.Goals as goal

-- one after the other, or two and two
min_apart : (a b c : ℕ) → min a (min b c) ≡ min (min a b) c
min_apart a b c = omega arith

min_four : (t a b c d : ℕ) → min t (min (min a b) (min c d)) ≡ min (min (min (min t a) b) c) d
min_four t a b c d = min_apart t (min a b) (min c d) ∙ ap (λ (x : ℕ). min x (min c d)) (min_apart t a b) ∙ min_apart (min (min t a) b) c d

four_more : (rows : List Row) (i : ℕ) → min (soonest_of rows i) (soonest_of_four rows i) ≡ soonest_of rows (i + 4)
four_more rows i =
    let due : ℕ → ℕ = λ j. (get_or rows j no_row).now.due in
    let one : i + 1 ≡ suc i = omega arith in
    let two : i + 2 ≡ suc (suc i) = omega arith in
    let three : i + 3 ≡ suc (suc (suc i)) = omega arith in
    let four : suc (suc (suc (suc i))) ≡ i + 4 = omega arith in
    (λ k. min (soonest_of rows i) (min (min (due i) (due (one k))) (min (due (two k)) (due (three k)))))
    ∙ min_four (soonest_of rows i) (due i) (due (suc i)) (due (suc (suc i))) (due (suc (suc (suc i))))
    ∙ ap (soonest_of rows) four

pub loop-i-preserved : goal.loop-i-preserved
loop-i-preserved c h e s =
    let i = c.loop-i.i in
    let next : 4 * i + 4 ≡ 4 * (i + 1) = omega arith in
    c.min-time.ensures ∙ ap₂ min (c.loop-i.invariant h e s) (c.soonest_of_four.ensures h e s) ∙ four_more h.monitor.rows (4 * i)
    ∙ ap (soonest_of h.monitor.rows) next

pub soonest_of_four-requires : goal.soonest_of_four-requires
soonest_of_four-requires c = omega (arith, c.requires, c.div_ceil-i-end.ensures, c.loop-i-test.true)
