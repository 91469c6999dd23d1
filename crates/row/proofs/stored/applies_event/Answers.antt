-- The tests are those of the definition, in their order, of the words that the row is.
use Rattle.row.proofs.Names.{RowUndo, Bool, List, StepInput, Row, [], ◌∙◌, ◌≡◌, ap, applies_by, false, get_or, le-ltb, lt-ltb, number_words}
use Rattle.row.proofs.Names.{row_as_words, parameters_at, state_at, words_of_row, ℕ}
use Rattle.row.proofs.stored.applies_event.Goals as goal

-- what is asked, of words
abbrev applied_at : List (List ℕ) → StepInput → Bool
applied_at x o = applies_by (parameters_at (get_or x 1 [])) (state_at (get_or x 1 [])) o

lies : (x : List (List ℕ)) (w : Row) (b : RowUndo) (o : StepInput) → x ≡ words_of_row w b → applied_at x o ≡ applies_by w.parameters w.now o
unfolding words_of_row row_as_words number_words
lies x w b o e = ap (λ (y : List (List ℕ)). applied_at y o) e

pub returns-then-row-gt0 : goal.returns-then-row-gt0
returns-then-row-gt0 c w b e =
    let a = c.args in
    let asked : false ≡ applied_at a.row.now a.o = rw (lt-ltb _ _ c.if-row-gt0.true) in
    asked ∙ lies a.row.now w b a.o e

pub returns-then-row-o : goal.returns-then-row-o
returns-then-row-o c w b e =
    let a = c.args in
    let asked : false ≡ applied_at a.row.now a.o = rw (le-ltb _ _ c.if-row-gt0.false, lt-ltb _ _ c.if-row-o.true) in
    asked ∙ lies a.row.now w b a.o e

pub returns : goal.returns
returns c w b e =
    let a = c.args in
    let asked : c.concerns.result ≡ applied_at a.row.now a.o =
    rw (le-ltb _ _ c.if-row-gt0.false, le-ltb _ _ c.if-row-o.false) (c.concerns.ensures ∙ rw c.parameters_at.ensures) in
    asked ∙ lies a.row.now w b a.o e
