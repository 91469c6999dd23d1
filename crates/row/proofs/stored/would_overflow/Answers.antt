-- More than 64 times are crowded by each event that goes to the row; at most 64 by what the type says.
use Rattle.row.proofs.Names.{RowUndo, Bool, List, Row, [], ◌<◌, ◌∙◌, ◌≡◌, ◌≤◌, ap, cond, false, get_or, lt-ltb, number_words, refl}
use Rattle.row.proofs.Names.{row_as_words, subst, sym, true, words_of_row, ℕ}
use Rattle.row.proofs.{Overflow.crowded_known, Overflow.step_crowds}
use Rattle.row.proofs.stored.would_overflow.Goals as goal

-- a row that is full is crowded by what goes to it
either : (own : Bool) → cond own true false ≡ own
either true = refl
either false = refl

-- how many wait
many : (x : List (List ℕ)) (w : Row) (b : RowUndo) → x ≡ words_of_row w b → get_or (get_or x 1 []) 16 0 ≡ w.now.len
unfolding words_of_row row_as_words number_words
many x w b e = ap (λ (y : List (List ℕ)). get_or (get_or y 1 []) 16 0) e

pub returns-then-row-gt-WAITING_LIMIT : goal.returns-then-row-gt-WAITING_LIMIT
returns-then-row-gt-WAITING_LIMIT c w b number e =
    let a = c.args in
    let more : 64 < w.now.len = subst (λ (n : ℕ). 64 < n) (many a.row.now w b e) c.if-row-gt-WAITING_LIMIT.true in
    c.applies_event.ensures w b e ∙ sym (step_crowds w a.o number ∙ rw (lt-ltb _ _ more, either _) refl)

pub returns : goal.returns
returns c w b number e =
    let a = c.args in
    let few : w.now.len ≤ 64 = subst (λ (n : ℕ). n ≤ 64) (many a.row.now w b e) c.if-row-gt-WAITING_LIMIT.false in
    c.step_overflows.ensures w b e ∙ crowded_known w a.o few ∙ sym (step_crowds w a.o number)
