-- The word for "open" is stored as 0.
use Rattle.in_place.proofs.Names.{List, Words, [], ◌∙◌, ap, get_or, refl, set, with_closed, words_of_lent, ℕ}
use Rattle.in_place.proofs.{Parts.block_written, Parts.numbers_read}
use Rattle.in_place.proofs.numbers.mark_closed.Goals as goal

pub returns : goal.returns
returns c h e s =
    ap (λ (m : Words). set m 32 (set (get_or m 32 []) 0 (set (get_or (get_or m 32 []) 0 []) 2 0))) e
    ∙ ap (λ (b : List (List ℕ)). set (words_of_lent h) 32 (set b 0 (set (get_or b 0 []) 2 0))) (numbers_read h s)
    ∙ block_written h s (with_closed h 1) refl refl
