-- The names of the definitions and laws below this crate that its proofs use, passed on from one place.
pub use Rattle.constraint.proofs.Library.{Bool, List, [], ◌%◌, ◌&&◌, ◌*◌, ◌++◌, ◌+◌, ◌-◌, ◌/◌, ◌<◌, ◌^◌, ◌||◌, ◌∙◌, ◌∷◌, ◌≡◌, ◌≤◌, ◌⊎◌, add-one, ap}
pub use Rattle.constraint.proofs.Library.{append-nil, ap₂}
pub use Rattle.constraint.proofs.Library.{arith, by_cases, cond, drop, drop-set-add, drop-set-lt, eq-eqb, eqb, false, get_or, get_or-append-add}
pub use Rattle.constraint.proofs.Library.{get_or-drop, get_or-set_other, get_or-set_same, get_or-take, inl, inr, le-leb, le-ltb, le_of_suc-le-suc}
pub use Rattle.constraint.proofs.Library.{le_trans}
pub use Rattle.constraint.proofs.Library.{leb, leb-false, length, length-set, lt-leb, lt-ltb, ltb, ltb-false, ltb-true, max, min, ne_eqb}
pub use Rattle.constraint.proofs.Library.{not, not-suc-le-zero, one-le-pow, pow-suc, refl, set, set-get_or, subst, subst₂, suc, suc-add, sym, take}
pub use Rattle.constraint.proofs.Library.{take-set-le, take-set-lt}
pub use Rattle.constraint.proofs.Library.{true, zero, zero-add, ℕ, ℕ_discrete, ⊎_elim}
pub use Rattle.constraint.proofs.{Lists.both, Lists.or_false, Lists.split, Refusals.numbered, Streams.plain_kind, Streams.stream_below}
pub use Rattle.constraint.proofs.{Streams.stream_kind}
pub use Rattle.constraint.specs.{Answers.number_in, Answers.refusal_number, declared.Refusal.Refusal}
pub use Rattle.constraint.specs.Limits.{first_coloured, last_colour, last_count, last_kind, last_time, row_limit, stream_count}
pub use Rattle.constraint.specs.{Run.Request, Run.asks, Run.withdraws, Streams.kind_of, Streams.stream, declared.Call.Call}
pub use Rattle.in_place.specs.Contract.{Indexes, FullSound, SoundNumbers, Takes, is_of, stepped_from}
pub use Rattle.in_place.specs.Layout.{Lent, Shaped, Words, all_rows, due_at, halves, held_rows, kept_at, last_blocks, no_words, number_array}
pub use Rattle.in_place.specs.Layout.{number_block}
pub use Rattle.in_place.specs.Layout.{numbers, row_at, rows_of_kind, set_of}
unfoldable pub use Rattle.in_place.specs.Layout.{is_in, rows_in}
pub use Rattle.in_place.specs.Steps.{OnStream, Stores, answer_to, all_rows_undone, asked_of, rows_undone, deadlines_checked, recorded_monitor}
pub use Rattle.in_place.specs.Steps.{recorded_on, recorded_to, crowded}
pub use Rattle.in_place.specs.Steps.{crowded_at, crowded_on, clock_applied_at, clock_applied, leaves, left_after, left_on, next_number}
pub use Rattle.in_place.specs.Steps.{number_of, rows_expired}
pub use Rattle.in_place.specs.Steps.{kind_refusal, refusal_in, soonest_all, soonest_of, soonest_of_four, restored_monitor, up_to_four}
pub use Rattle.in_place.specs.Steps.{dispatched_to, dispatched, due_counted, full_marked}
pub use Rattle.in_place.specs.Steps.{with_closed, with_full, with_monitor, with_next, with_row, with_soonest, withdrawn_lent, without_asked}
pub use lib.Bits.{bit_and, bit_or}
pub use Rattle.row_type.specs.{Parts.plus, declared.Parameters.Parameters, declared.State.State}
pub use Rattle.monitor.proofs.First.{any_all, map_all, map_behind, without_all, without_next, without_none, zip_all, zip_behind, zip_length, zip_next}
pub use Rattle.monitor.proofs.First.{zip_none}
pub use Rattle.monitor.proofs.Theorem.{step_kept}
pub use Rattle.monitor.specs.Machine.{next_for, next_step, no_row, refuses, stepped_by, takes}
pub use Rattle.monitor.specs.{Contract.Steps, Parts.rows_without, Parts.with_rows, declared.Monitor.Monitor}
pub use Rattle.questions.specs.{Questions.step_input_by, Questions.own_refusal, Questions.place_in, Questions.time_refusal, declared.Undo.Undo}
pub use Rattle.ring.proofs.Shared.{cond_false, cond_true}
pub use Rattle.row.proofs.StepParts.{kept_state, parameters_stays, saved_applied, saved_ended, saved_few, step_applied, step_ended}
pub use Rattle.row.proofs.StepParts.{step_few}
pub use Rattle.row.proofs.StepParts.{without_state}
pub use Rattle.row.proofs.SlotsUsed.{quiet_len, room_free}
pub use Rattle.row.proofs.UndoComplete.{rest_zero_ended, rest_zero_event, rest_zero_keeps, rest_zero_without}
pub use Rattle.row.proofs.{Overflow.crowds, Overflow.full_known, Overflow.step_crowds, Undo.still}
pub use Rattle.row.specs.Machine.{broken_state, close_at, concerns, event_at, no_event, row_from, tick_at}
pub use Rattle.row.specs.Stored.{RestZero, ended_row, ended_saves, event_row, event_saves}
pub use Rattle.row.specs.Undo.{kept_without, no_row_undo, no_state, saved_at, saved_row}
pub use Rattle.row.specs.{StepParts.undo_of_event, StepParts.applied_row, declared.RowUndo.RowUndo, declared.StepInput.StepInput, declared.Row.Row}
unfoldable pub use Rattle.in_place.specs.Layout.{row_blocks, words_of_lent}
unfoldable pub use Rattle.row_type.specs.Words.{number_words, row_as_words}
unfoldable pub use Rattle.monitor.specs.Machine.{any_first, map_first, step_of, taken_call, withdraw_of, withdrawn, zip_first}
unfoldable pub use Rattle.row.specs.Undo.{back_row, moves_by, row_without, saved_by}
unfoldable pub use Rattle.row.specs.{StepParts.ended_state, StepParts.ends_by, Machine.broken_row, Machine.row_step}
