-- The names of the definitions and laws below this crate that its proofs use, passed on from one place.
pub use Rattle.constraint.proofs.Library.{Bool, List, List·getD-append, [], ◌%◌, ◌*◌, ◌++◌, ◌+◌, ◌-◌, ◌/◌, ◌<◌, ◌^◌, ◌∙◌, ◌∷◌, ◌≡◌, ◌≤◌, add-one, ap}
pub use Rattle.constraint.proofs.Library.{append_assoc, append_snoc, ap₂, arith, cond, drop, drop-cons, drop-length}
pub use Rattle.constraint.proofs.Library.{drop_of_length-le}
pub use Rattle.constraint.proofs.Library.{eqb, eqb-false, eqb-true, false, get_or, get_or_at, get_or-set_other}
pub use Rattle.constraint.proofs.Library.{get_or-set_same}
pub use Rattle.constraint.proofs.Library.{inl, inr, length, length-append, length-drop, length-map, length-replicate, length-set}
pub use Rattle.constraint.proofs.Library.{length-take-le, ltb}
pub use Rattle.constraint.proofs.Library.{ltb-false, ltb-true, map, pow-le-pow_right, pow-suc, refl, replicate}
pub use Rattle.constraint.proofs.Library.{replicate-append-replicate, set}
pub use Rattle.constraint.proofs.Library.{set_at, subst, subst₂, suc, sym, take, take_all, take-append-le, take_at, take-length, take-set-le}
pub use Rattle.constraint.proofs.Library.{take-set-lt, true, zero, zero-add, ℕ}
pub use Rattle.constraint.proofs.Lists.{both, split}
pub use Rattle.constraint.proofs.{Accepted.row_accepted, Judged.judged_all, Judged.never, Refusals.numbered}
pub use Rattle.constraint.specs.Answers.{refusal_number}
pub use Rattle.constraint.specs.Table.{ReadsRows, ReadsTableUpTo, ShapeFits, TableRead, body_at, length_at, no_more, row_refused, row_taken, row_then}
pub use Rattle.constraint.specs.Table.{table_of, table_refused, version_refused, version_taken}
pub use Rattle.constraint.specs.{Accepted.Accepted, Limits.row_limit, Limits.waiting_limit, Questions.Question, Records.filler, Steps.at}
pub use Rattle.constraint.specs.{Answer.Refused, Answer.Taken, Constraint.Constraint, Types.Known}
pub use Rattle.constraint.specs.{Types.TypeKnown, Types.count_of, Types.type_of}
pub use Rattle.fresh.specs.Fresh.{BeginsUpTo, ListsLie, RowsBehind, RowsLie, RowsPut, begun, fresh_lent, refused, with_lists}
pub use Rattle.in_place.proofs.{Blocks.last_written, Blocks.row_lies, Parts.numbers_read, RowSets.in_all}
pub use Rattle.in_place.specs.Contract.{Indexes, FullSound, SoundNumbers, is_of}
pub use Rattle.in_place.specs.Layout.{Lent, Shaped, Words, all_rows, held_rows, kept_at, last_blocks, no_words, number_block, row_at, set_of}
pub use Rattle.row_type.proofs.FitsRow.{words_few}
pub use Rattle.row_type.specs.{Words.parameters_at, declared.Parameters.Parameters}
pub use Rattle.monitor.proofs.{Demand.accepted_few, Demand.accepted_sound, FittingRows.sound_place}
pub use Rattle.monitor.specs.{Machine.no_row, declared.Monitor.Monitor}
pub use Rattle.row.proofs.{UndoComplete.rest_zero_fresh, OwnKinds.concerns_none}
pub use Rattle.row.specs.{Machine.concerns, Machine.no_event, Stored.RestZero, Undo.no_row_undo, declared.RowUndo.RowUndo, declared.Row.Row}
pub use Rattle.table.proofs.{AcceptedRows.rows_accepted, Places.place_taken, Scanning.row_there, Scanning.scan_start, Scanning.scan_step}
pub use Rattle.table_row.proofs.Lines.{known_short}
pub use Rattle.table_row.specs.Records.{row_in}
pub use Rattle.table.specs.{Scan.PlacedAt, declared.scan.Placed.Placed}
unfoldable pub use Rattle.constraint.specs.{Promise.play, Questions.Judged, Table.place_questions}
unfoldable pub use Rattle.fresh.specs.Fresh.{padded, set_from, sets_to}
unfoldable pub use Rattle.in_place.specs.Layout.{is_in, row_blocks, words_of_lent}
unfoldable pub use Rattle.row_type.specs.Words.{number_words, row_as_words}
unfoldable pub use Rattle.monitor.specs.{Contract.after, Machine.monitor_of}
unfoldable pub use Rattle.row.specs.Machine.{row_of}
