-- The words that the row is are put back where they lie.
use Rattle.row.proofs.Row.without_step.Goals as goal

pub returns : goal.returns
returns c =
    let a = c.args in
    c.decode_row.ensures _ _ (c.undo_step.ensures a.self a.before c.encode_row-words.ensures)
