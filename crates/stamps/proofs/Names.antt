-- The names of the definitions and laws below this crate that its proofs use, passed on from one place.
pub use Rattle.clock.proofs.Laws.{ReadUpTo, after_clock, after_valid, ticks_on, up_to_end, up_to_more, up_to_refused, up_to_start}
pub use Rattle.clock.specs.{Clock.After, Clock.RefusesRecord, Clock.TakesRecord, Clock.Ticks, Clock.more_ticks, Clock.no_tick}
pub use Rattle.clock.specs.{declared.Clock.Clock}
pub use Rattle.recording.specs.{declared.CallRead.CallRead}
pub use Rattle.constraint.proofs.History.{Accepts, Valid, clock_close, closed_close, past_of, times_close, times_other, times_own, times_tick}
pub use Rattle.constraint.proofs.History.{valid_more, valid_none}
pub use Rattle.constraint.proofs.Judged.{failed, judged_all, judged_no, judged_none, judged_once, judged_yes, never, passed}
pub use Rattle.constraint.proofs.Library.{Bool, List, [], ◌&&◌, ◌++◌, ◌+◌, ◌-◌, ◌<◌, ◌∙◌, ◌∷◌, ◌≡◌, ◌≤◌, ap, arith, by_cases, cond, dec_lt}
pub use Rattle.constraint.proofs.Library.{eqb, eqb-false, eqb-true, ext_get_or, false, get_or-take, get_elem?, inl, inr, length, length-append}
pub use Rattle.constraint.proofs.Library.{length-take, max, min, not, refl, some, subst, suc, sym, take, true, zero, ℕ, ⊎_elim}
pub use Rattle.constraint.proofs.Lists.{Each, at_left, at_next, both, rising_at, split}
pub use Rattle.constraint.proofs.{Runs.accepts_taken, Runs.kept_exactly}
pub use Rattle.constraint.specs.Recording.{ReadsInOrder, ReadsRecording, ReadsRecords, RecordAt, RecordingRead, VersionKnown, call_at, no_more}
pub use Rattle.constraint.specs.Recording.{record_refused, record_taken, recording_of, recording_refused, version_refused, version_taken}
pub use Rattle.constraint.specs.Stamps.{AnswersStampsUpTo, ReadsStamps, RepeatRow, TrueTimes, both_occur, each_meets, no_recording, no_table}
pub use Rattle.constraint.specs.Stamps.{none_meets, not_asked, reads, stamps_questions}
pub use Rattle.constraint.specs.Steps.{Step, at, clock, close, event, tick}
pub use Rattle.constraint.specs.{Continuation.Reads, Continuation.reads_open, Limits.first_coloured, Limits.last_time, Limits.no_limit, Meets.Apart}
pub use Rattle.constraint.specs.{Meets.NotLater, Questions.Judged, Run.event_questions, Run.step_for, Types.lengths, Types.type_of}
pub use Rattle.constraint.specs.{Streams.stream, Table.ReadsTableUpTo, Table.table_of, Answer.Refused}
pub use Rattle.constraint.specs.{Answer.Taken, declared.Call.Call, Constraint.Constraint}
pub use Rattle.constraint.specs.{Constraint.Repeat, Constraint.Sporadic}
pub use Rattle.constraint.specs.{Stamps.StampedAnswer, declared.StampedVerdict.StampedVerdict}
pub use Rattle.constraint.specs.{declared.Verdict.Verdict}
pub use Rattle.row_type.proofs.{Spans.apart_first, Tests.Tells, Tests.fails, Tests.holds, Tests.tells_and, Tests.tells_leb}
pub use Rattle.row_type.specs.{Parts.registers_of, Parts.no_registers, Parts.plus, Parameters.parameters_of, declared.Registers.Registers}
pub use Rattle.row_type.specs.{declared.Parameters.Parameters}
pub use Rattle.monitor.proofs.{Demand.accepted_sound, FittingRows.sound_at}
pub use Rattle.hidden_points.proofs.Laws.Points.{points_first, points_more}
pub use Rattle.hidden_points.proofs.Laws.Sporadic.{Places, PointsOf, first_places, later_place, later_places}
pub use Rattle.hidden_points.specs.Sporadic.{highest, stride}
pub use Rattle.row.proofs.Exact.{Sound}
pub use Rattle.stamps.specs.Machine.{Finds, PassesStamps, call_after, first_stamp, next_high, next_low, stamp_after, stamps_verdict}
pub use Rattle.stamps.specs.{declared.LateRow.LateRow, declared.Stamps.Stamps}
pub use Rattle.table_row.proofs.ByType.{no_type, says}
pub use Rattle.table_row.specs.Records.{row_in}
pub use Rattle.table.proofs.{AcceptedRows.read_accepted, ReadUnique.reads_once}
pub use Rattle.table.specs.{Scan.RowOf}
unfoldable pub use Rattle.constraint.specs.{Accepted.InRange, Accepted.KindsSuit, Meets.Meets, Meets.MeetsRepeat, Meets.SpansApart}
unfoldable pub use Rattle.constraint.specs.{Recording.record_questions, Run.Room, Run.questions, Steps.times}
unfoldable pub use Rattle.table_row.specs.Records.{row_read}
unfoldable pub use Rattle.stamps.specs.Machine.{close_verdict, later_stamp}
