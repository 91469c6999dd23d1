-- The mark is kept, the words are put, and the new mark and due time are stored.
use Rattle.constraint.proofs.Library.{[], ap, get_or, refl}
use Rattle.row_type.specs.Words.{changed_words, last_saved, number_words, row_as_words, undo_with}
use Rattle.event_chain.proofs.marked.put_marked.Goals as goal

pub returns : goal.returns
unfolding row_as_words number_words changed_words
returns c parameters times state past e =
    let kept = c.save_undo_last.ensures parameters times state past e in
    let stored = c.put_two.ensures parameters times state (undo_with past (last_saved state.registers past.state.registers)) kept in
    rw (c.mark.ensures parameters _ _ (ap (λ m. get_or m 1 []) stored), stored) refl
