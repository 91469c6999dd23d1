-- What is read off the past is put in the place of the state, and nothing in that of the past.
use Rattle.row.proofs.Names.{number_words, refl}
use Rattle.row.proofs.{Nothing.undo_is}
use Rattle.row.proofs.stored.restore.Goals as goal

pub returns : goal.returns
unfolding number_words
returns c parameters state past e =
    let stored = c.put_state.ensures parameters state past e in
    let nothing_kept = undo_is c.default.result c.default.ensures in
    rw (c.put_undo.ensures parameters c.state_from-state.result past stored, nothing_kept, c.state_from-state.ensures, e) refl
