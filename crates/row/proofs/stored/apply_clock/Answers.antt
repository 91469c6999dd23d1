-- A broken row stays; an overdue one breaks; the close keeps the past of one that it does not concern, and breaks it where it is not kept.
use Rattle.row.proofs.Names.{List, [], ◌∙◌, ap, broken_row, concerns, ended_state, ends_by}
use Rattle.row.proofs.Names.{eq-eqb, eqb, get_or, le-ltb, lt-ltb, ltb, ne_eqb, not-false}
use Rattle.row.proofs.Names.{not-true, number_words, undo_record_of, row_as_words, parameters_at, sym, words_of_row, ℕ}
use Rattle.row.proofs.Names.{Row, RowUndo, ◌≡◌, ended_row, ended_saves, refl, saved_at}
use Rattle.constraint.proofs.Library.{ap₂}
use Rattle.row.proofs.stored.apply_clock.Goals as goal

-- a word of the row's numbers
abbrev at : ℕ → List (List ℕ) → ℕ
at k row = get_or (get_or row 1 []) k 0

pub returns-then-row-gt0 : goal.returns-then-row-gt0
unfolding words_of_row row_as_words number_words ends_by
returns-then-row-gt0 c r b e = rw (ap (λ m. ltb 0 (at 19 m)) (sym e) ∙ lt-ltb _ _ c.if-row-gt0.true) e

pub returns-then-row-o : goal.returns-then-row-o
unfolding words_of_row row_as_words number_words ends_by ended_state broken_row
returns-then-row-o c r b e =
    let goes = ap (λ m. ltb 0 (at 19 m)) (sym e) ∙ le-ltb _ _ c.if-row-gt0.false in
    let late = ap (λ m. ltb (at 17 m) c.args.o.time) (sym e) ∙ lt-ltb _ _ c.if-row-o.true in
    let o = c.args.o in let number = c.args.number in
    let row : ended_row o number r ≡ broken_row r o.time o.closes number = rw (goes, late) refl in
    let saves : ended_saves o number r b ≡ saved_at r 0 number = rw (goes, late) refl in
    c.break_for.ensures r b e ∙ ap₂ (λ (x : Row) (y : RowUndo). words_of_row x y) (sym row) (sym saves)

pub returns-then-not-o : goal.returns-then-not-o
unfolding words_of_row row_as_words number_words ends_by
returns-then-not-o c r b e =
    let goes = ap (λ m. ltb 0 (at 19 m)) (sym e) ∙ le-ltb _ _ c.if-row-gt0.false in
    let early = ap (λ m. ltb (at 17 m) c.args.o.time) (sym e) ∙ le-ltb _ _ c.if-row-o.false in
    rw (goes, early, not-true c.args.o.closes c.if-not-o.true) e

pub returns-then-concerns : goal.returns-then-concerns
unfolding words_of_row row_as_words number_words ends_by
returns-then-concerns c r b e =
    let goes = ap (λ m. ltb 0 (at 19 m)) (sym e) ∙ le-ltb _ _ c.if-row-gt0.false in
    let early = ap (λ m. ltb (at 17 m) c.args.o.time) (sym e) ∙ le-ltb _ _ c.if-row-o.false in
    let own = ap (λ m. concerns (parameters_at (get_or m 1 [])) c.args.o.kind) (sym e)
    ∙ ap (λ w. concerns w c.args.o.kind) (sym c.parameters_at.ensures) ∙ sym c.concerns.ensures
    ∙ c.if-concerns.true in
    rw (goes, early, not-false c.args.o.closes c.if-not-o.false, own) e

pub returns-then-row-eq0 : goal.returns-then-row-eq0
unfolding words_of_row row_as_words number_words ends_by ended_state broken_row
returns-then-row-eq0 c r b e =
    let goes = ap (λ m. ltb 0 (at 19 m)) (sym e) ∙ le-ltb _ _ c.if-row-gt0.false in
    let early = ap (λ m. ltb (at 17 m) c.args.o.time) (sym e) ∙ le-ltb _ _ c.if-row-o.false in
    let own = ap (λ m. concerns (parameters_at (get_or m 1 [])) c.args.o.kind) (sym e)
    ∙ ap (λ w. concerns w c.args.o.kind) (sym c.parameters_at.ensures) ∙ sym c.concerns.ensures ∙ c.if-concerns.false in
    let unkept = ap (λ m. eqb (at 18 m) 0) (sym e) ∙ eq-eqb _ _ c.if-row-eq0.true in
    let o = c.args.o in let number = c.args.number in
    let closes = not-false o.closes c.if-not-o.false in
    let row : ended_row o number r ≡ broken_row r o.time o.closes number = rw (goes, early, closes, own, unkept) refl in
    let saves : ended_saves o number r b ≡ saved_at r 0 number = rw (goes, early, closes, own) refl in
    c.break_for-then-row-eq0.ensures r b e ∙ ap₂ (λ (x : Row) (y : RowUndo). words_of_row x y) (sym row) (sym saves)

pub returns : goal.returns
unfolding words_of_row row_as_words number_words ends_by ended_state
returns c r b e =
    let goes = ap (λ m. ltb 0 (at 19 m)) (sym e) ∙ le-ltb _ _ c.if-row-gt0.false in
    let early = ap (λ m. ltb (at 17 m) c.args.o.time) (sym e) ∙ le-ltb _ _ c.if-row-o.false in
    let own = ap (λ m. concerns (parameters_at (get_or m 1 [])) c.args.o.kind) (sym e)
    ∙ ap (λ w. concerns w c.args.o.kind) (sym c.parameters_at.ensures) ∙ sym c.concerns.ensures ∙ c.if-concerns.false in
    let kept = ap (λ m. eqb (at 18 m) 0) (sym e) ∙ ne_eqb _ _ c.if-row-eq0.false in
    rw (goes, early, not-false c.args.o.closes c.if-not-o.false, own, kept)
    (c.save_undo_all.ensures r.parameters r.times r.now (undo_record_of b) e)
