-- The rule is read off the words that the row is; an event of one of its kinds is asked for.
use Rattle.row.proofs.Names.{◌∙◌, ◌≡◌, concerns, crowded_by, false, number_words, refl, row_as_words, sym, true, words_of_row}
use Rattle.row.proofs.stored.step_overflows.Goals as goal

pub returns-then-concerns : goal.returns-then-concerns
unfolding words_of_row row_as_words number_words crowded_by
returns-then-concerns c w b e =
    let a = c.before.args in
    let own : concerns w.parameters a.o.kind ≡ true = sym (c.concerns.ensures ∙ rw (c.parameters_at.ensures, e) refl) ∙ c.if-concerns.true in
    rw own (c.event_overflows.ensures w b e)

pub returns : goal.returns
unfolding words_of_row row_as_words number_words crowded_by
returns c w b e =
    let a = c.before.args in
    let other : concerns w.parameters a.o.kind ≡ false = sym (c.concerns.ensures ∙ rw (c.parameters_at.ensures, e) refl) ∙ c.if-concerns.false in
    rw other refl
