-- The tests are those of `event_overflows`, in its order, of the words that the row is.
use Rattle.row.proofs.Names.{RowUndo, Bool, List, Row, [], ◌∙◌, ◌≡◌, ap, false, event_overflows, get_or, le-ltb, lt-ltb, number_words}
use Rattle.row.proofs.Names.{row_as_words}
use Rattle.row.proofs.Names.{parameters_at, state_at, words_of_row, ℕ}
use Rattle.row.proofs.stored.event_overflows.Goals as goal

-- what is asked, of words
abbrev full_at : List (List ℕ) → ℕ → ℕ → Bool
full_at x stream t = event_overflows (parameters_at (get_or x 1 [])) (state_at (get_or x 1 [])) stream t

lies : (x : List (List ℕ)) (w : Row) (b : RowUndo) (stream t : ℕ) → x ≡ words_of_row w b
    → full_at x stream t ≡ event_overflows w.parameters w.now stream t
unfolding words_of_row row_as_words number_words
lies x w b stream t e = ap (λ (y : List (List ℕ)). full_at y stream t) e

pub returns-then-row-lt-NEARLY_FULL : goal.returns-then-row-lt-NEARLY_FULL
unfolding event_overflows
returns-then-row-lt-NEARLY_FULL c w b e =
    let a = c.args in
    let asked : false ≡ full_at a.row.now a.stream a.t = rw (lt-ltb _ _ c.if-row-lt-NEARLY_FULL.true) in
    asked ∙ lies a.row.now w b a.stream a.t e

pub returns-then-row-gt0 : goal.returns-then-row-gt0
unfolding event_overflows
returns-then-row-gt0 c w b e =
    let a = c.args in
    let asked : false ≡ full_at a.row.now a.stream a.t = rw (le-ltb _ _ c.if-row-lt-NEARLY_FULL.false, lt-ltb _ _ c.if-row-gt0.true) in
    asked ∙ lies a.row.now w b a.stream a.t e

pub returns-then-row-t : goal.returns-then-row-t
unfolding event_overflows
returns-then-row-t c w b e =
    let a = c.args in
    let asked : false ≡ full_at a.row.now a.stream a.t =
    rw (le-ltb _ _ c.if-row-lt-NEARLY_FULL.false, le-ltb _ _ c.if-row-gt0.false, lt-ltb _ _ c.if-row-t.true) in
    asked ∙ lies a.row.now w b a.stream a.t e

pub returns : goal.returns
unfolding event_overflows
returns c w b e =
    let a = c.args in
    let asked : c.overflows.result ≡ full_at a.row.now a.stream a.t =
    rw (le-ltb _ _ c.if-row-lt-NEARLY_FULL.false, le-ltb _ _ c.if-row-gt0.false, le-ltb _ _ c.if-row-t.false) c.overflows.ensures in
    asked ∙ lies a.row.now w b a.stream a.t e
