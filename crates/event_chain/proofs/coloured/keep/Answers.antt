-- The mark is kept, the ring stays, and the due time is the one that the mark tells.
use Rattle.row_type.proofs.Tests.{bool_number}
use Rattle.constraint.proofs.Library.{[], ap, get_or, refl}
use Rattle.row_type.specs.Words.{changed_words, last_saved, number_words, row_as_words, undo_with}
use Rattle.event_chain.proofs.coloured.keep.Goals as goal

pub returns : goal.returns
unfolding row_as_words number_words changed_words
returns c parameters times state past e =
    let kept = c.save_undo_last.ensures parameters times state past e in
    let stayed = c.stay.ensures parameters times state (undo_with past (last_saved state.registers past.state.registers)) kept in
    rw (c.settle.ensures parameters _ _ (ap (λ m. get_or m 1 []) stayed), c.from.ensures, bool_number, rw e at c.due_marked-due.ensures, stayed) refl
