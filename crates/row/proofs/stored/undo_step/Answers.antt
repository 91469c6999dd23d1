-- Where the past is of that step, its two words and its state are put back; else nothing is done.
use Rattle.row.proofs.Names.{List, [], ◌∙◌, ap, back_row, eq-eqb, get_or, kept_without, ne_eqb, number_words, undo_record_of, refl}
use Rattle.row.proofs.Names.{row_without}
use Rattle.row.proofs.Names.{row_as_words, set, sym, words_of_row, ℕ}
use Rattle.row.proofs.stored.undo_step.Goals as goal

pub returns-then-row-number : goal.returns-then-row-number
unfolding words_of_row row_as_words number_words row_without kept_without
returns-then-row-number c r b e = rw (ne_eqb _ _ (λ z. c.if-row-number.true (ap (λ m. get_or (get_or m 1 []) 33 0) e ∙ z))) e

pub returns : goal.returns
unfolding words_of_row row_as_words number_words row_without kept_without back_row
returns c r b e =
    let a = c.args in
    let x = c.put_back.new.times in
    let numbers = c.restore.ensures r.parameters r.now (undo_record_of b) (ap (λ m. get_or (set m 0 x) 1 []) e) in
    rw (eq-eqb _ _ (sym (ap (λ m. get_or (get_or m 1 []) 33 0) e) ∙ c.if-row-number.false))
    (ap (λ (w : List ℕ). set (set a.row.now 0 x) 1 w) numbers ∙ rw (c.put_back.ensures, e) refl)
