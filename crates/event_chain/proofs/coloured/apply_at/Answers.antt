-- The words of the event's colour are those of the definition, and so is what the event makes of them, case by case.
use Rattle.event_chain.proofs.Laws.Events.{breaks_event, breaks_short, next_none, notes_next, stays_next}
use Rattle.event_chain.specs.Coloured.{OwesNothing, kind_count, noted, one_new, words_at}
use Rattle.event_chain.specs.Marked.{marking}
use Rattle.constraint.proofs.Library.{List, ◌*◌, ◌+◌, ◌<◌, ◌∙◌, ◌≡◌, ap, ap₂, arith, length, subst, sym, ℕ}
use Rattle.constraint.specs.Steps.{at}
use Rattle.row_type.specs.{Words.changed_words, Words.last_saved, Words.number_words, Words.row_as_words, declared.Change.Change}
use Rattle.ring.proofs.Laws.{ring_length}
use Rattle.ring.specs.Ring.{ring}
use Rattle.event_chain.proofs.coloured.apply_at.Goals as goal

pub returns-then-times-lt-WORDS : goal.returns-then-times-lt-WORDS
unfolding row_as_words number_words changed_words
returns-then-times-lt-WORDS g c parameters times state past e =
    let s = c.args in
    let t = g.T.Synchronization in
    let words = ring times state.head state.len in
    let few : length words < 40 =
    rw (ring_length times state.head state.len) (rw (c.times-times.ensures.len, e) at c.if-times-lt-WORDS.true) in
    c.break_at.ensures parameters times state past e
    ∙ ap (λ (x : Change). changed_words last_saved parameters times state past x s.t s.number)
    (sym (breaks_short (t.owed s.kinds.count s.kinds.tolerance) (t.breaks s.kinds.count)
    (λ w j y. t.next s.kinds.count (at w j) j y) state.registers words s.place.colour s.place.kind s.t few))

pub returns-then-breaks : goal.returns-then-breaks
unfolding row_as_words number_words changed_words
returns-then-breaks g c parameters times state past e =
    let s = c.args in
    let t = g.T.Synchronization in
    let words = ring times state.head state.len in
    let test : c.breaks.result ≡ t.breaks s.kinds.count (words_at words s.place.colour) s.place.kind s.t =
    rw (c.times-times.ensures.times, e) at c.breaks.ensures in
    c.break_at-then-breaks.ensures parameters times state past e
    ∙ ap (λ (x : Change). changed_words last_saved parameters times state past x s.t s.number)
    (sym (breaks_event (t.owed s.kinds.count s.kinds.tolerance) (t.breaks s.kinds.count)
    (λ w j y. t.next s.kinds.count (at w j) j y) state.registers words s.place.colour s.place.kind s.t (sym test ∙ c.if-breaks.true)))

pub returns-then-value-old : goal.returns-then-value-old
unfolding row_as_words number_words changed_words
returns-then-value-old g c parameters times state past e =
    let s = c.args in
    let t = g.T.Synchronization in
    let at-row = rw e at c.times-times.ensures.times in
    c.keep.ensures parameters times state past e
    ∙ ap (λ (x : Change). changed_words last_saved parameters times state past x s.t s.number)
    (sym (stays_next (t.owed s.kinds.count s.kinds.tolerance) (t.breaks s.kinds.count) (t.next s.kinds.count) state.registers
    (ring times state.head state.len) s.place.colour s.place.kind s.t s.place.in_row.1
    (rw (ring_length times state.head state.len) (rw (c.times-times.ensures.len, e) at c.if-times-lt-WORDS.false))
    (sym (rw at-row at c.breaks.ensures) ∙ c.if-breaks.false) _ _ (rw at-row at c.at-old.ensures) c.next-value.ensures c.if-value-old.true))

pub returns-then-quiet : goal.returns-then-quiet
unfolding row_as_words number_words changed_words
returns-then-quiet g c parameters times state past e =
    let s = c.args in
    let t = g.T.Synchronization in
    let words = ring times state.head state.len in
    let at-row = rw e at c.times-times.ensures.times in
    let f = t.owed s.kinds.count s.kinds.tolerance in
    let none : OwesNothing f (words_at words s.place.colour) s.place.kind =
    subst (λ (ws : List ℕ). OwesNothing f (words_at ws s.place.colour) s.place.kind) at-row (c.quiet.ensures c.if-quiet.true) in
    c.put_word.ensures parameters times state past e
    ∙ ap (λ (x : ℕ). changed_words last_saved parameters times state past
    (marking (one_new (5 * s.place.colour + s.place.kind) c.next-value.result words) state.registers x) s.t s.number)
    (rw e at c.due_marked-due.ensures ∙ next_none _ _ _ _ (omega arith) none.0 (none.1 c.next-value.result))
    ∙ ap (λ (x : Change). changed_words last_saved parameters times state past x s.t s.number)
    (sym (notes_next f (t.breaks s.kinds.count) (t.next s.kinds.count) state.registers words s.place.colour s.place.kind s.t s.place.in_row.1
    (rw (ring_length times state.head state.len) (rw (c.times-times.ensures.len, e) at c.if-times-lt-WORDS.false))
    (sym (rw at-row at c.breaks.ensures) ∙ c.if-breaks.false) _ _ (rw at-row at c.at-old.ensures) c.next-value.ensures c.if-value-old.false))

pub returns : goal.returns
unfolding row_as_words number_words changed_words
returns g c parameters times state past e =
    let s = c.args in
    let t = g.T.Synchronization in
    let words = ring times state.head state.len in
    let at-row = rw e at c.times-times.ensures.times in
    let count : kind_count parameters ≡ s.kinds.count = sym (rw e at c.requires.count) in
    let tolerance : parameters.upper ≡ s.kinds.tolerance = sym (rw e at c.requires.tolerance) in
    c.note.ensures parameters times state past e
    ∙ ap₂ (λ (n x : ℕ). changed_words last_saved parameters times state past
    (noted (t.owed n x) state.registers words s.place.colour s.place.kind c.next-value.result) s.t s.number) count tolerance
    ∙ ap (λ (x : Change). changed_words last_saved parameters times state past x s.t s.number)
    (sym (notes_next (t.owed s.kinds.count s.kinds.tolerance) (t.breaks s.kinds.count) (t.next s.kinds.count) state.registers words
    s.place.colour s.place.kind s.t s.place.in_row.1
    (rw (ring_length times state.head state.len) (rw (c.times-times.ensures.len, e) at c.if-times-lt-WORDS.false))
    (sym (rw at-row at c.breaks.ensures) ∙ c.if-breaks.false) _ _ (rw at-row at c.at-old.ensures) c.next-value.ensures c.if-value-old.false))
