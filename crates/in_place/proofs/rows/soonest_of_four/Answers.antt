-- Each row's due time stands at its place.
use Rattle.in_place.proofs.Names.{Lent, List, Shaped, [], ◌+◌, ◌<◌, ◌∙◌, ◌≡◌, ap, ap₂, arith, due_at, get_or, min, number_words}
use Rattle.in_place.proofs.Names.{row_as_words}
use Rattle.in_place.proofs.Names.{Words, words_of_lent, ℕ}
use Rattle.in_place.proofs.{Blocks.row_lies}
use Rattle.row.specs.Stored as Stored
use Rattle.in_place.proofs.rows.soonest_of_four.Goals as goal

due_read : (h : Lent) → Shaped h → (m : Words) → m ≡ words_of_lent h → (i : ℕ) → i < 32
    → get_or (get_or (get_or m i []) 1 []) 17 0 ≡ due_at h.monitor i
unfolding Stored.words_of_row row_as_words number_words
due_read h s m e i there = ap (λ (w : List (List ℕ)). get_or (get_or w 1 []) 17 0) (row_lies h s m e i there)

pub returns : goal.returns
returns c h e s =
    let a = c.args in
    let m = a.m.now in
    c.min.ensures
    ∙ ap₂ min
    (c.min-one.ensures ∙ ap₂ min (due_read h s m e a.i (omega (arith, c.requires))) (due_read h s m e (a.i + 1) (omega (arith, c.requires))))
    (c.min-two.ensures ∙ ap₂ min (due_read h s m e (a.i + 2) (omega (arith, c.requires))) (due_read h s m e (a.i + 3) (omega (
      arith,
      c.requires,
    ))))
