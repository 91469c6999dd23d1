-- The rows of a kind are those of its set, and the number of the step stands at its place.
use Rattle.in_place.proofs.Names.{◌∙◌, ap, dispatched, event_at, rows_in, words_of_lent}
use Rattle.in_place.proofs.{Parts.number_at, Parts.set_at, RowSets.rows_low}
use Rattle.in_place.proofs.rows.dispatch_event.Goals as goal

pub returns : goal.returns
returns c h e s =
    let a = c.args in
    let rows = rows_low _ ∙ ap rows_in (set_at h s a.m.now e a.kind) in
    let number = number_at h s a.m.now e 1 in
    c.dispatch_rows.ensures h e s ∙ (λ k. words_of_lent (dispatched h (rows k) (event_at a.stream a.t) (number k)))
