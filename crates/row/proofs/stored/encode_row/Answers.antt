-- The times are the first array; the numbers are put into the second, part after part.
use Rattle.row.proofs.Names.{List, [], ◌∷◌, ap, no_state, nothing, refl, row_as_words, words_of_row, ℕ}
use Rattle.row.proofs.stored.encode_row.Goals as goal

pub returns : goal.returns
unfolding words_of_row row_as_words
returns c =
    let a = c.args in let parameters = a.row.parameters in
    ap (λ (w : List ℕ). a.row.times ∷ w ∷ [])
    (c.put_undo.ensures parameters a.row.now nothing (c.put_state.ensures parameters no_state nothing (c.put_parameters.ensures refl)))
