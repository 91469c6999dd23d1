-- The names of the definitions and laws below this crate that its proofs use, passed on from one place.
pub use Rattle.constraint.proofs.History.{Accepts, Past, Valid, clock_tick, closed_tick, counted_of, own_tick, past_of, past_tick}
pub use Rattle.constraint.proofs.History.{valid_more}
pub use Rattle.constraint.proofs.Library.{Bool, List, [], ◌%◌, ◌&&◌, ◌*◌, ◌++◌, ◌+◌, ◌-◌, ◌/◌, ◌<◌, ◌^◌, ◌||◌, ◌∙◌, ◌∷◌, ◌≡◌, ◌≤◌, ◌⊎◌, add-one, ap}
pub use Rattle.constraint.proofs.Library.{ap₂, arith, by_cases, cond, dec_lt, drop, eq-eqb, eqb, false, get_or, get_or-replicate, get_elem?, inl, inr}
pub use Rattle.constraint.proofs.Library.{le-ltb, leb, length, lt-ltb, ltb, ltb-false, ltb-true, min, none, refl, replicate, some}
pub use Rattle.constraint.proofs.Library.{subst, subst₂, suc, sym, true, zero, ℕ, ⊎_elim}
pub use Rattle.constraint.proofs.{Judged.judged_once, Judged.never, Lists.both, Lists.or_false, Lists.split, Refusals.numbered}
pub use Rattle.constraint.specs.{Answers.number_in, Answers.refusal_number, declared.Refusal.Refusal}
pub use Rattle.constraint.proofs.{Streams.stream_below, Streams.streams, Verdicts.broken_shut, Verdicts.open_of_meets}
pub use Rattle.constraint.specs.Limits.{first_coloured, last_colour, last_count, last_kind, last_time, no_limit, row_limit, waiting_limit}
pub use Rattle.constraint.specs.Steps.{Step, clock, closed, own, tick}
pub use Rattle.constraint.specs.{Continuation.Open, Questions.Question, Run.asks, Run.step_for}
pub use Rattle.constraint.specs.{Run.withdraws, Answer.Answer, Answer.Refused}
pub use Rattle.constraint.specs.{Answer.Taken, declared.Call.Call, Constraint.Constraint}
pub use Rattle.in_place.proofs.{Blocks.row_lies, Parts.number_at}
pub use Rattle.in_place.specs.Layout.{Lent, Shaped, Words, held_rows, kept_at, row_at, set_of}
unfoldable pub use Rattle.in_place.specs.Layout.{is_in}
pub use Rattle.in_place.specs.{Contract.HoldsMonitor, Contract.Indexes, Contract.ReadOff, Contract.Takes}
pub use Rattle.in_place.specs.{Steps.refusal_in}
pub use Rattle.row_type.specs.{Parameters.parameters_of, Parameters.waits_in, declared.Parameters.Parameters, declared.State.State}
pub use Rattle.monitor.proofs.StepRefinement.{Follows, seen_is, step_answered, step_is}
pub use Rattle.monitor.proofs.{Demand.has_none, Demand.has_row, FittingRows.FitRows, Withdrawing.after_follows}
pub use Rattle.monitor.specs.Machine.{crowds, next_for, next_step, no_row, step_input_of, refusal_for, refuses, taken_call, takes}
pub use Rattle.monitor.specs.{declared.Monitor.Monitor}
pub use Rattle.questions.specs.Questions.{own_refusal, time_refusal}
pub use Rattle.ring.proofs.Laws.{ring_length}
pub use Rattle.row.proofs.Steps.{After, Broken, Fits, Going, fits_room, fits_step, seen}
pub use Rattle.row.proofs.{Overflow.crowded_known, Overflow.step_crowds, EveryType.every_type_exact, Exact.Exact, Exact.Sound, Exact.Waits}
pub use Rattle.row.specs.Machine.{mark, row_step}
pub use Rattle.row.specs.{StepParts.crowded_by, Stored.RestZero, Undo.no_row_undo, declared.StepInput.StepInput, declared.Row.Row}
pub use Rattle.queries.specs.Contract.{QueryAnswer, AsksBrokenRows, AsksClock, AsksClosed, AsksCrowdedRow, AsksDeadline, AsksRowDeadline}
pub use Rattle.queries.specs.Contract.{AsksSteps}
pub use Rattle.queries.specs.Contract.{AsksWaiting, BrokenRows, CrowdedRow, Crowds, RowWaiting, crowded, none_crowded, open_row, other_row}
pub use Rattle.queries.specs.Deadlines.{Deadline, DeadlineWhileOpen, LeastDeadline, RowDeadline, endless, no_row_lem, over, row, running, until}
pub use Rattle.queries.specs.Numbers.{broken_mark, broken_rows_of, crowded_first, crowded_row_of, deadline_by, deadline_of, there, waiting_by}
pub use Rattle.queries.specs.Numbers.{waiting_of}
pub use Rattle.queries.specs.Zeros.{zero_monitor, zero_row, zeros}
unfoldable pub use Rattle.constraint.specs.{Questions.Judged, Run.questions, Waiting.waiting}
unfoldable pub use Rattle.in_place.specs.Layout.{row_blocks, words_of_lent}
unfoldable pub use Rattle.row_type.specs.Words.{number_words, row_as_words}
unfoldable pub use Rattle.monitor.specs.Machine.{any_first, step_of}
unfoldable pub use Rattle.queries.specs.{Contract.bit, Numbers.broken_marks, Numbers.first_marked, Numbers.least_of}
