-- An overdue row and one that is not concerned are ended, and any other applies the event.
use Rattle.row.proofs.Names.{Bool, List, Row, [], ◌∙◌, ◌≡◌, ap, concerns, cond, ended_saves, event_at, event_keeps, false, get_or, le-ltb, lt-ltb}
use Rattle.row.proofs.Names.{ltb, number_words, refl, row_as_words, parameters_at, step_keeps, sym, true, words_of_row, ℕ}
use Rattle.row.proofs.{EncodedRow.stepped_applied, EncodedRow.stepped_ended}
use Rattle.row.proofs.stored.step.Goals as goal

-- a word of the row's numbers
abbrev at : ℕ → List (List ℕ) → ℕ
at k row = get_or (get_or row 1 []) k 0

none : (b : Bool) → cond b false false ≡ false
none true = refl
none false = refl

same : (b : Bool) {A : Type 0} (x : A) → cond b x x ≡ x
same true x = refl
same false x = refl

pub returns-then-row-o : goal.returns-then-row-o
unfolding words_of_row row_as_words number_words step_keeps
returns-then-row-o c r b e =
    let a = c.args in
    let late = ap (λ m. ltb (at 17 m) a.o.time) (sym e) ∙ lt-ltb _ _ c.if-row-o.true in
    rw late
    (c.apply_clock.ensures r b e
    ∙ ap (λ (x : Row). words_of_row x (ended_saves a.o a.number r b)) (stepped_ended r a.o a.number b (rw late refl)))

pub returns-then-concerns : goal.returns-then-concerns
unfolding words_of_row row_as_words number_words step_keeps
returns-then-concerns c r b e =
    let a = c.args in
    let early = ap (λ m. ltb (at 17 m) a.o.time) (sym e) ∙ le-ltb _ _ c.if-row-o.false in
    let own = ap (λ m. concerns (parameters_at (get_or m 1 [])) a.o.kind) (sym e)
    ∙ ap (λ w. concerns w a.o.kind) (sym c.parameters_at.ensures)
    ∙ sym c.concerns.ensures ∙ c.if-concerns.true in
    rw (early, own)
    (c.event.ensures r b e
    ∙ ap (λ (x : Row). words_of_row x (event_keeps (event_at a.o.stream a.o.time) a.number r b))
    (stepped_applied r a.o a.number b early own))

pub returns : goal.returns
unfolding words_of_row row_as_words number_words step_keeps
returns c r b e =
    let a = c.args in
    let other = ap (λ m. concerns (parameters_at (get_or m 1 [])) a.o.kind) (sym e)
    ∙ ap (λ w. concerns w a.o.kind) (sym c.parameters_at.ensures)
    ∙ sym c.concerns.ensures ∙ c.if-concerns.false in
    rw (other, same (ltb r.now.due a.o.time) (ended_saves a.o a.number r b))
    (c.apply_clock-2.ensures r b e
    ∙ ap (λ (x : Row). words_of_row x (ended_saves a.o a.number r b))
    (stepped_ended r a.o a.number b (rw other (none (ltb r.now.due a.o.time)))))
