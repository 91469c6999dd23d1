-- A row that may move takes the step where it lies, its own state being its past before, and what is kept of it is read off there.
use Rattle.row.proofs.Names.{RowUndo, State, StepInput, Row, ◌∙◌, ◌≡◌, ap, row_undo_of, moves_by, refl, saved_by, sym, true}
use Rattle.row.proofs.Names.{words_of_row, ℕ}
use Rattle.row.proofs.{UndoComplete.keeps_own, EncodedRow.step_keeps_all, Nothing.undo_is}
use Rattle.row.proofs.Row.saved.Goals as goal

-- what is kept of a row that may move does not depend on what was kept before
moved : (r : Row) (b before : RowUndo) (o : StepInput) (number : ℕ) → moves_by r.parameters r.now o ≡ true
    → saved_by o number r b ≡ saved_by o number r before
unfolding saved_by
moved r b before o number e = rw e refl

-- what is kept of a row with another state
with_state : RowUndo → State → RowUndo
with_state b state = record { state = state; place = b.place; first = b.first; second = b.second; step = b.step }

pub returns-then-not-moves : goal.returns-then-not-moves
unfolding saved_by
returns-then-not-moves c = rw (sym c.moves.ensures ∙ c.if-not-moves.true)

pub returns : goal.returns
unfolding with_state
returns c =
    let a = c.args in
    let own = row_undo_of a.self.now in
    let nothing = undo_is c.default.result c.default.ensures in
    let words = c.encode_row-words.ensures ∙ ap (λ (b : RowUndo). words_of_row a.self (with_state b a.self.now)) nothing in
    c.undo_at.ensures _ _ (c.step.ensures a.self own words)
    ∙ step_keeps_all a.self a.o a.number own (keeps_own a.self own refl)
    ∙ moved a.self own a.before a.o a.number (sym c.moves.ensures ∙ c.if-not-moves.false)
