-- The names of the definitions and laws below this crate that its proofs use, passed on from one place.
pub use Rattle.constraint.proofs.History.{Accepts, Past, Valid, clock_close, clock_event, clock_tick, closed_close, closed_event, closed_tick}
pub use Rattle.constraint.proofs.History.{own_close, own_other, own_tick, past_of, valid_more}
pub use Rattle.constraint.proofs.Library.{Bool, List, List·getD-eq-default, [], ◌&&◌, ◌++◌, ◌+◌, ◌<◌, ◌||◌, ◌∙◌, ◌∷◌, ◌≡◌, ◌≤◌, ◌⊎◌, ap}
pub use Rattle.constraint.proofs.Library.{append-nil, arith, cond, drop, eq-eqb, eqb, eqb-false, eqb-true, false, get_or, inl, inr, le-ltb, length}
pub use Rattle.constraint.proofs.Library.{length-append, length-drop, length-set, lt-ltb, ltb, ltb-false, ltb-true, ne_eqb, not-false}
pub use Rattle.constraint.proofs.Library.{length-replicate, length-take-le, not-true, refl, replicate, set, subst, suc, sym, take, true, zero, ℕ}
pub use Rattle.constraint.proofs.Library.{◌%◌, min, ⊎_elim}
pub use Rattle.constraint.proofs.{Continuations.continues_closed, Continuations.meets_same, Continuations.open_at_tick, Lists.both, Lists.split}
pub use Rattle.constraint.proofs.{Streams.among_kinds, Streams.among_where, Streams.kind_small, Streams.streams, Verdicts.broken_later}
pub use Rattle.constraint.proofs.Lengths.{few_kinds}
pub use Rattle.constraint.proofs.{Verdicts.broken_now, Verdicts.broken_shut, Verdicts.open_of_meets}
pub use Rattle.constraint.specs.Continuation.{BrokenAt, Open, Reads, reads_broken, reads_kept, reads_open}
pub use Rattle.constraint.specs.Steps.{Step, among, at, clock, close, event, own, tick}
pub use Rattle.constraint.specs.{Accepted.kinds, Limits.last_time, Limits.stream_count, Limits.waiting_limit, Meets.Meets}
pub use Rattle.constraint.specs.{Streams.kind_of, Types.Known, Types.fields_of, Waiting.waiting, Constraint.Constraint, declared.Verdict.Verdict}
pub use Rattle.row_type.proofs.FitsRow.{FitsRow, kind_overflows, fits_none, neither, words_few}
pub use Rattle.row_type.proofs.{FieldNumbers.kinds_are, SeveralKinds.kinds_small}
pub use Rattle.row_type.specs.{Machine.Machine, Machine.no_machine, Parts.no_registers, Parameters.no_kind, Parameters.parameters_of}
pub use Rattle.row_type.specs.{Parameters.waits_in}
pub use Rattle.row_type.specs.Parameters.{constants_of, start_ring, start_word_count, start_words}
pub use Rattle.row_type.specs.{Words.Applies, Words.asked_of}
pub use Rattle.row_type.specs.{Words.parameters_at, declared.Change.Change, declared.Parameters.Parameters, declared.State.State}
pub use Rattle.ring.proofs.{Laws.edit_back, Laws.items_edited, Laws.ring_length, Laws.ring_take, Laws.same_back, Laws.times_edited}
pub use Rattle.ring.specs.Ring.{Ring, changed, drop_ring, edit_place, edited, items, put_back, ring, ring_of, ring_place, second_at, time_at}
pub use Rattle.ring.specs.declared.Edit.{Edit}
pub use Rattle.ring.specs.declared.Edit.TheVariants.{Drop, Push, PushTwo, Store}
pub use Rattle.row.specs.StepParts.{undo_of_event, applied_row, applies_by, change_by, overflows, writes_at}
pub use Rattle.row.specs.Machine.{cause_by}
pub use Rattle.row.specs.Machine.{broken_by_event, broken_state, close_at, concerns, crowding, decide, event_at, items_of, machine_of}
pub use Rattle.row.specs.Machine.{machines, mark, no_event}
pub use Rattle.row.specs.Machine.{moment_by, row_from, stays, tick_at}
pub use Rattle.row.specs.Stored.{Changes, RestZero, Unused, ended_row, ended_saves, event_keeps, event_row, event_saves, kept_at_place}
pub use Rattle.row.specs.Stored.{saved_registers, nothing, undo_record_of, state_at}
pub use Rattle.row.specs.Undo.{row_undo_of, no_row_undo, no_state, saved_at, saved_row}
pub use Rattle.row.specs.{declared.RowUndo.RowUndo, declared.StepInput.StepInput, declared.Row.Row, RowStep.RowStep}
unfoldable pub use Rattle.constraint.specs.{Accepted.KindsSuit, Steps.clock_from, Steps.closed}
unfoldable pub use Rattle.row_type.specs.Words.{changed_words, number_words, row_as_words}
unfoldable pub use Rattle.ring.specs.Ring.{push_ring, put_ring}
unfoldable pub use Rattle.row.specs.StepParts.{crowded_by, ended_state, ends_by, event_overflows, stepped_row, with_change}
unfoldable pub use Rattle.row.specs.Machine.{applied, broken_row, changed_row, row_of, row_step, row_verdict}
unfoldable pub use Rattle.row.specs.Stored.{applied_keeps, step_keeps, words_of_row}
unfoldable pub use Rattle.row.specs.Undo.{back_row, kept_without, moves_by, row_without, saved_by, step_place}
