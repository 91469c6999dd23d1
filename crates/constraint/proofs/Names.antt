-- The names of the definitions and laws below this crate that its proofs use, passed on from one place.
pub use Rattle.constraint.proofs.Library.{Bool, List, List·getD-append, [], ◌&&◌, ◌*◌, ◌++◌, ◌+◌, ◌-◌}
pub use Rattle.constraint.proofs.Library.{◌/◌, ◌<◌, ◌^◌, ◌||◌, ◌↔◌, ◌∙◌, ◌∷◌, ◌≡◌, ◌≢◌, ◌≤◌, ◌⊎◌, add-zero, ap, append_assoc}
pub use Rattle.constraint.proofs.Library.{append-nil, ap₂, arith, by_cases, cond, dec_lt, drop, drop-cons, eq-eqb, eqb}
pub use Rattle.constraint.proofs.Library.{eqb-false, eqb-true, false, get_or, get_or-append-add, get_elem?, inl, inr, le-ltb, leb}
pub use Rattle.constraint.proofs.Library.{leb-false, leb-true, length, length-append, length-take}
pub use Rattle.constraint.proofs.Library.{lt-ltb, mul-le-mul_left}
pub use Rattle.constraint.proofs.Library.{map, max, ne_eqb, none, not, not-false}
pub use Rattle.constraint.proofs.Library.{or-true as either_true, refl, some, subst, subst⁻¹, subst₂, suc, sym, take}
pub use Rattle.constraint.proofs.Library.{take_all, take-append-le, take-append_seam, true, zero, ℕ, ℕ_discrete, ⊎_elim}
pub use Rattle.constraint.specs.Accepted.{Accepted, AcceptedIn, EachField, FieldInRange, KindClassFits, kinds, kinds_in, row_questions}
pub use Rattle.constraint.specs.Accepted.{row_questions_in}
pub use Rattle.constraint.specs.Constraint.{Age, Arbitrary, Burst, Comparison, Constraint, Delay, ExecutionTime, InputSynchronization, Order}
pub use Rattle.constraint.specs.Constraint.{OutputSynchronization, Pattern, Reaction, Repeat, Repetition, Sporadic, StrongDelay}
pub use Rattle.constraint.specs.Constraint.{StrongSynchronization, Synchronization}
pub use Rattle.constraint.specs.Continuation.{BrokenAt, Continues, EventInOrder, Open, Reads, more, reads_broken, reads_kept, reads_open, stop}
pub use Rattle.constraint.specs.Limits.{first_coloured, last_colour, last_count, last_kind, last_time, no_limit, row_limit, stream_count}
pub use Rattle.constraint.specs.Meets.{Apart, AtLeastApart, Between, Executes, HiddenPoints, NotLater, Recorded, no_event_lem, paused}
pub use Rattle.constraint.specs.Meets.{place_of}
pub use Rattle.constraint.specs.Meets.{started, stopped}
pub use Rattle.constraint.specs.Records.{Absent, Decides, filler}
pub use Rattle.constraint.specs.Run.{Keeps, Left, Request, Room, Run, asks, done, event_questions, left_by, none_left, request, request_questions}
pub use Rattle.constraint.specs.Run.{step_for, withdraws}
pub use Rattle.constraint.specs.Steps.{Step, among, at, clock, close, event, tick}
pub use Rattle.constraint.specs.Table.{ReadsTable, ReadsTableUpTo, TableRead, VersionUpTo, version_refused, version_taken}
pub use Rattle.constraint.specs.Types.{Field, TypeKnown, byte, coloured, count, count_of, entry_sizes, fields_of, kind, kind_fields}
pub use Rattle.constraint.specs.Types.{last_type, left, lengths, lower, offset, offset_fields, pair_fields, plain, right}
pub use Rattle.constraint.specs.Types.{span, time}
pub use Rattle.constraint.specs.Types.{tolerance, type_of, upper, upper_or_none}
pub use Rattle.constraint.specs.{Questions.Question, Streams.kind_of, Streams.stream, Waiting.largest, Waiting.least, Waiting.unanswered}
pub use Rattle.constraint.specs.{Answer.Answer, Answer.Refused, Answer.Taken}
pub use Rattle.constraint.specs.{declared.Call.Call, declared.Verdict.Verdict}
unfoldable pub use Rattle.constraint.specs.Accepted.{InRange, KindsFit, KindsSuit, LowerFirst, rows_questions}
unfoldable pub use Rattle.constraint.specs.Meets.{number_of, point_of}
unfoldable pub use Rattle.constraint.specs.Meets.{Meets, MeetsAge, MeetsArbitrary, MeetsBurst, MeetsDelay, MeetsExecutionTime}
unfoldable pub use Rattle.constraint.specs.Meets.{MeetsInputSynchronization, MeetsOrder, MeetsOutputSynchronization, MeetsPattern}
unfoldable pub use Rattle.constraint.specs.Meets.{MeetsReaction}
unfoldable pub use Rattle.constraint.specs.Meets.{MeetsRepeat, MeetsRepetition, MeetsSporadic, MeetsStrongDelay, MeetsStrongSynchronization}
unfoldable pub use Rattle.constraint.specs.Meets.{MeetsSynchronization, SpansApart}
unfoldable pub use Rattle.constraint.specs.Steps.{clock_from, closed, own, times}
unfoldable pub use Rattle.constraint.specs.{Questions.Judged, Run.questions}
unfoldable pub use Rattle.constraint.specs.{Waiting.answered, Waiting.begun_incomplete, Waiting.waiting}
