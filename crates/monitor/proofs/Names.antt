-- The names of the definitions and laws below this crate that its proofs use, passed on from one place.
pub use Rattle.constraint.proofs.Counting.{next_above, next_least, next_snoc}
pub use Rattle.constraint.proofs.History.{Accepts, Valid, clock_close, clock_event, clock_tick, closed_close, closed_event, closed_tick, counted_of}
pub use Rattle.constraint.proofs.History.{past_of, times_close, times_other, times_own, times_tick, valid_more, valid_none}
pub use Rattle.constraint.proofs.Library.{Bool, Iff·trans, List, Option, [], ◌&&◌, ◌++◌, ◌+◌, ◌-◌, ◌<◌, ◌||◌, ◌↔◌, ◌∙◌, ◌∷◌, ◌≡◌, ◌≤◌, ◌⊎◌, add-one}
pub use Rattle.constraint.proofs.Library.{ap, append_assoc, append-nil, append_snoc, ap₂, arith, by_cases, cond, dec_lt, drop-cons, eqb, eqb-false}
pub use Rattle.constraint.proofs.Library.{false, get_or, get_or-replicate, get_or-set_other, get_or-set_same, get_elem?, inl, inr, le-ltb, leb}
pub use Rattle.constraint.proofs.Library.{leb-false}
pub use Rattle.constraint.proofs.Library.{leb-true, length, length-append, length-map, length-replicate, length-set, length-take-le, lt-ltb, ltb}
pub use Rattle.constraint.proofs.Library.{ltb-false, ltb-true, map, map-append, min, none, refl, replicate, set, set_at, set_out, set-set}
pub use Rattle.constraint.proofs.Library.{some, subst, subst⁻¹, subst₂, suc, sym, take, take_all, take-suc, true, zero, ℕ, ℕ_discrete, ⊎_elim}
pub use Rattle.constraint.proofs.Lists.{both, get_d_within, or_false, or-true, split}
pub use Rattle.constraint.proofs.Runs.{accepts_taken, broken_exactly, kept_exactly, reads_once, run_valid}
pub use Rattle.constraint.proofs.Withdrawals.{begins_broken, but_last_lem, but_last, calls_keep, keeps_begins}
pub use Rattle.constraint.proofs.{Accepted.rows_room, Judged.judged_once, Judged.never, LastQuestion.judged_but_last, LastQuestion.judged_last}
pub use Rattle.constraint.proofs.{Sanity.run_once, Streams.stream_below}
pub use Rattle.table_row.proofs.Tables.{rows_from, rows_length}
pub use Rattle.constraint.specs.Continuation.{BrokenAt, EventInOrder, Open, Reads, reads_broken}
pub use Rattle.constraint.specs.Limits.{first_coloured, last_colour, last_count, last_kind, last_time, no_limit, row_limit, stream_count}
pub use Rattle.constraint.specs.Limits.{waiting_limit}
pub use Rattle.constraint.specs.Run.{Keeps, Left, Request, Run, asks, done, event_questions, left_by, none_left, request, request_questions, step_for}
pub use Rattle.constraint.specs.Run.{withdraws}
pub use Rattle.constraint.specs.Steps.{Step, at, clock, close, event, tick}
pub use Rattle.constraint.specs.{Accepted.Accepted, Meets.Meets, Promise.Promise, Promise.ReadsRow, Promise.no_row_lem}
pub use Rattle.constraint.specs.{Promise.row}
pub use Rattle.constraint.specs.{Questions.Question, Records.filler, Types.Known, Streams.stream, Waiting.waiting, Answer.Answer}
pub use Rattle.constraint.specs.{Answer.Refused, Answer.Taken, declared.Call.Call}
pub use Rattle.constraint.specs.{Constraint.Constraint, Constraint.Delay, Constraint.Repeat}
pub use Rattle.constraint.specs.{Constraint.Sporadic, declared.Verdict.Verdict}
pub use Rattle.table_row.specs.{Records.row_in, Tables.rows_of, declared.Table.Table, declared.TableRow.TableRow}
pub use Rattle.row_type.specs.{Parts.plus, Parameters.parameters_of}
pub use Rattle.monitor.specs.Beside.{Beside, EachBeside, NoneFull, OtherAt, OwnStream, TakesAll, all_taken, answers_to, closes, no_more, others}
pub use Rattle.monitor.specs.Beside.{place, same_event}
pub use Rattle.monitor.specs.Contract.{Reading, Remains, Steps, VerdictOf, result_of, step, verdict_in}
pub use Rattle.monitor.specs.Machine.{SameBare, crowds, next_for, next_step, no_row, step_input_of, refusal_for, refuses, stepped_by, takes}
pub use Rattle.monitor.specs.Parts.{RowsAfter, place_of, rows_without, stepped_rows, verdict_by, with_rows}
pub use Rattle.monitor.specs.{declared.Monitor.Monitor, Stepped.RowVerdict, Stepped.Stepped}
pub use Rattle.delay_order.proofs.Laws.Delay.{unlimited_delay_open}
pub use Rattle.hidden_points.proofs.Laws.Sporadic.{silent_sporadic_shut}
pub use Rattle.questions.proofs.Places.{place_in_small, place_small, stream_place}
pub use Rattle.questions.specs.Questions.{closed_after, free_after, own_refusal, place_for, place_in, time_refusal}
pub use Rattle.ring.proofs.Shared.{cond_false, cond_true}
pub use Rattle.row.proofs.Steps.{After, Fits, close_calm, fits_reads, fits_room, fits_start, fits_step, seen}
pub use Rattle.row.proofs.{EveryType.every_type_exact, Exact.Exact, Exact.Sound, Independent.event_as_tick, Undo.row_without_lem}
pub use Rattle.row.specs.{Machine.close_at, Machine.row_of, Machine.row_step, Machine.tick_at, Undo.moves_by, Undo.no_row_undo, Undo.row_without}
pub use Rattle.row.specs.{Undo.saved_row, declared.RowUndo.RowUndo, declared.StepInput.StepInput, declared.Row.Row, RowStep.RowStep}
pub use Rattle.repeat_burst.proofs.Laws.Repeat.{silent_repeat_shut}
unfoldable pub use Rattle.constraint.proofs.Counting.{next_free}
unfoldable pub use Rattle.constraint.specs.Steps.{clock_from, closed, times}
unfoldable pub use Rattle.constraint.specs.{Accepted.rows_questions, Promise.play, Questions.Judged, Run.Room, Run.questions}
unfoldable pub use Rattle.monitor.specs.Contract.{after}
unfoldable pub use Rattle.monitor.specs.Machine.{any_first, bare, map_first, monitor_of, step_of, taken_call, verdict_of, withdraw_of, withdrawn}
unfoldable pub use Rattle.monitor.specs.Machine.{zip_first}
unfoldable pub use Rattle.row.specs.{Machine.row_verdict, Undo.kept_without, Undo.saved_by}
