-- The marks and the step that broke the row become the past beside the rest.
use Rattle.row_type.proofs.Names.{number_words, refl, row_as_words}
use Rattle.row_type.specs.Words.{UndoRecord, last_saved, undo_with}
use Rattle.row_type.proofs.row_words.save_undo_all.Goals as goal

pub returns : goal.returns
unfolding row_as_words number_words
returns c parameters times state past e =
    let last = c.save_undo_last.ensures parameters times state past e in
    let counts = c.save_undo_counts.ensures parameters times state (undo_with past (last_saved state.registers past.state.registers)) last in
    let whole : UndoRecord =
    record {
      state =
          record {
            registers = state.registers;
            head = past.state.head;
            len = past.state.len;
            due = past.state.due;
            kept = past.state.kept;
            broken = state.broken;
          };
      place = past.place;
      first = past.first;
      second = past.second;
      step = past.step;
    } in
    c.save_undo.ensures parameters times state whole (rw (c.save_word.ensures, counts) refl)
