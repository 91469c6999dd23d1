-- The names of the definitions and laws below this crate that its proofs use, passed on from one place.
pub use Rattle.constraint.proofs.Continuations.{SameTimes, continues_clock, continues_events, continues_late, events, same_times, times_events}
pub use Rattle.constraint.proofs.Continuations.{times_no_events}
pub use Rattle.constraint.proofs.History.{Accepts, Past, clock_event, clock_tick, times_append, times_other, times_own, times_tick}
pub use Rattle.constraint.proofs.Library.{Bool, List, [], ◌%◌, ◌&&◌, ◌*◌, ◌++◌, ◌+◌, ◌-◌, ◌<◌, ◌||◌, ◌↔◌, ◌∙◌, ◌∷◌, ◌≡◌, ◌≤◌, ◌⊎◌, ap, append-nil}
pub use Rattle.constraint.proofs.Library.{arith, by_cases, cond, dec_lt, drop, eq-eqb, eqb, eqb-false, eqb-true, false, get_or, inl, inr}
pub use Rattle.constraint.proofs.Library.{le-ltb}
pub use Rattle.constraint.proofs.Library.{leb, leb-false, leb-true, length, length-append, length-drop, length-set, lt-ltb, ltb, ltb-false}
pub use Rattle.constraint.proofs.Library.{ltb-true, ne_eqb, refl, replicate, set, subst, subst₂, suc, sym, take, take-take, transport, true}
pub use Rattle.constraint.proofs.Library.{true≢false, zero, ℕ}
pub use Rattle.constraint.proofs.Lists.{Each, Rising, at_left, at_next, each_cons, each_none, rising_by, rising_snoc, split}
pub use Rattle.constraint.proofs.{Lengths.at_most, Streams.streams, Streams.streams_in}
pub use Rattle.constraint.specs.Accepted.{InRange, KindsSuit, LowerFirst, kinds, kinds_in}
pub use Rattle.constraint.specs.Limits.{last_kind, last_time, no_limit, stream_count, waiting_limit}
pub use Rattle.constraint.specs.Meets.{Apart, AtLeastApart, Meets}
pub use Rattle.constraint.specs.Steps.{Step, at, clock, closed, event, own, tick}
pub use Rattle.constraint.specs.Types.{Field, Known, byte, coloured, count, fields_of, jitter, kind, kind_fields, left, len, lower, minimum, offset}
pub use Rattle.constraint.specs.Types.{plain, right, span, time, tolerance, type_of, upper, upper_or_none}
pub use Rattle.constraint.specs.{Continuation.Open, Continuation.stop, Waiting.waiting, Constraint.Constraint}
pub use Rattle.row_type.specs.Machine.{Machine, each_taken, never_overflows, no_machine, none_taken}
pub use Rattle.row_type.specs.Parts.{breaking, continues_with, due_oldest, due_or, far_enough, front, no_registers, none_left, plus}
pub use Rattle.row_type.specs.Parameters.{no_fields, no_kind, parameters_of, start_words, waits_in, with_fields, with_kind}
pub use Rattle.row_type.specs.Parameters.{start_word_count, word_counts}
pub use Rattle.row_type.specs.Words.{counts_saved, first_three_saved, last_saved, none_saved, undo_of}
pub use Rattle.row_type.specs.{declared.Change.Change, declared.Registers.Registers, declared.Parameters.Parameters}
pub use Rattle.ring.proofs.{Laws.place_is, Laws.ring_from, Laws.ring_length, Laws.ring_spent}
pub use Rattle.ring.specs.Ring.{changed, drop_ring, edited, put_ring, ring_of, ring_place}
pub use Rattle.ring.specs.declared.Edit.TheVariants.{Drop, Push, PushTwo, Store}
unfoldable pub use Rattle.constraint.specs.{Accepted.KindsFit, Meets.SpansApart, Steps.times}
unfoldable pub use Rattle.row_type.specs.Words.{changed_words, number_words, row_as_words}
unfoldable pub use Rattle.ring.specs.Ring.{push_ring, ring}
