-- The names of the definitions and laws below this crate that its proofs use, passed on from one place.
pub use Rattle.clock.proofs.Laws.{ReadUpTo, ticks_on, up_to_end, up_to_more, up_to_refused, up_to_start}
pub use Rattle.clock.specs.{Clock.After, Clock.RefusesRecord, Clock.TakesRecord, Clock.Ticks, Clock.more_ticks, Clock.no_tick}
pub use Rattle.clock.specs.{declared.Clock.Clock}
pub use Rattle.constraint.proofs.History.{Accepts, AcceptsEvent, Valid, clock_event, clock_tick, closed_event, closed_tick, past_of, times_append}
pub use Rattle.constraint.proofs.History.{valid_more, valid_none}
pub use Rattle.constraint.proofs.Judged.{failed, judged_all, judged_none, judged_yes, never, passed}
pub use Rattle.constraint.proofs.Library.{Bool, List, [], ◌%◌, ◌++◌, ◌+◌, ◌-◌, ◌/◌, ◌<◌, ◌^◌, ◌||◌, ◌∙◌, ◌∷◌, ◌≡◌, ◌≤◌}
pub use Rattle.constraint.proofs.Library.{◌⊎◌, ap, append_assoc, append-nil, append_snoc, arith, cond, drop, drop_at, drop-drop, eq-eqb, eqb}
pub use Rattle.constraint.proofs.Library.{eqb-false, eqb-true, false, get_or-replicate, get_or-set_other, get_or-set_same, inl, inr, le-ltb, leb}
pub use Rattle.constraint.proofs.Library.{leb-false}
pub use Rattle.constraint.proofs.Library.{div-one, get_or, le-leb, leb-true, length, length-append, length-drop, length-replicate, length-set}
pub use Rattle.constraint.proofs.Library.{length-sets, length-take-le}
pub use Rattle.constraint.proofs.Library.{lt-leb, lt-ltb}
pub use Rattle.constraint.proofs.Library.{ltb, ltb-false, ltb-true, max, ne_eqb, not, or-true as either_true, refl}
pub use Rattle.constraint.proofs.Library.{replicate, set, sets, subst, suc, sym, true, ℕ, ⊎_elim}
pub use Rattle.constraint.proofs.Lists.{Rising, both, or_false, or-true, rising_across, split}
pub use Rattle.constraint.proofs.{Runs.accepts_taken, Streams.coloured_kind_lem, Streams.kind_small, Streams.plain_kind, Streams.stream_kind}
pub use Rattle.constraint.specs.Records.{Decides}
pub use Rattle.constraint.specs.Joined.{AnswersJoin, FirstOf, coloured_bytes, event_bytes, here, in_common, is_dropped, joined, joined_bytes}
pub use Rattle.constraint.specs.Joined.{kinds_of}
pub use Rattle.constraint.specs.Joined.{later, no_first, no_second, of_kinds, recording_bytes, tick_bytes, time_of, too_short, written}
pub use Rattle.constraint.specs.Limits.{first_coloured, last_colour, last_count, last_kind, last_time, stream_count}
pub use Rattle.constraint.specs.Recording.{ReadsInOrder, ReadsRecords, RecordingRead, VersionKnown, call_at, call_of, colour_in, no_more}
pub use Rattle.constraint.specs.Recording.{record_taken}
pub use Rattle.constraint.specs.Recording.{recording_of, recording_refused, version_refused, version_taken}
pub use Rattle.constraint.specs.Steps.{Step, among, at, clock, close, event, tick}
pub use Rattle.constraint.specs.{Bytes.number, Bytes.number_at, Questions.Judged, Run.step_for, Streams.kind_of, Streams.stream, Table.body_at}
pub use Rattle.constraint.specs.{Table.length_at, Answer.Taken, declared.Call.Call, Joined.JoinAnswer}
pub use Rattle.join.specs.Held.{Interleaves, no_record, of_first, of_second, times_of}
pub use Rattle.join.specs.Walk.{Behind, Found, Marks, Nexts, Passes, Records, Walks, call_bytes, call_kind}
pub use Rattle.join.specs.Walk.{call_read, first_common, is_marked, left_bytes, left_clock}
pub use Rattle.join.specs.Walk.{marked_with}
pub use Rattle.join.specs.Walk.{HeadAt, KeepsWithin, OutgrowsIn, RecordSize, head_bytes, head_for, head_front, is_kept, more, none}
pub use Rattle.join.specs.{declared.Head.Head, declared.Next.Next, declared.Part.Part, declared.Passed.Passed}
pub use Rattle.big_endian.proofs.{Numbers.number_of_bytes, Stores.stores_append, Stores.stores_front}
pub use Rattle.recording.proofs.Records.{record_judged}
pub use Rattle.recording.specs.{Record.CallAt, Record.ReadsCall, declared.CallRead.CallRead}
pub use Rattle.constraint.specs.{declared.Refusal.Refusal}
unfoldable pub use Rattle.constraint.specs.Joined.{NoneInCommon, merged, step_bytes, steps_bytes, undropped}
unfoldable pub use Rattle.constraint.specs.Steps.{clock_from, closed, times}
unfoldable pub use Rattle.constraint.specs.{Bytes.bytes_of, Bytes.number_behind, Recording.record_questions, Run.Room, Run.questions}
unfoldable pub use Rattle.join.specs.Held.{without}
