-- The dispatch by type makes the row's words those after the event; a broken row stays.
use Rattle.row.proofs.Names.{◌∙◌, applied_keeps, change_by, event_at, undo_record_of, words_of_row}
use Rattle.row.proofs.EncodedRow.{event_words}
use Rattle.row.proofs.stored.event.Goals as goal

pub returns : goal.returns
unfolding words_of_row applied_keeps
returns c r b e =
    let a = c.args in
    c.apply_by_type.ensures r.parameters r.times r.now (undo_record_of b) e
    ∙ event_words r b (change_by r (event_at a.stream a.t)) a.t a.number
