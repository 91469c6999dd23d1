-- The offsets, the number behind and the due time are those of the definition, and so are the three tests.
use Rattle.constraint.proofs.Library.{List, ◌&&◌, ◌∙◌, ◌≡◌, ap, false, le-leb, leb, lt-leb, refl, true, ℕ}
use Rattle.constraint.specs.Steps.{at}
use Rattle.row_type.specs.Parts.{breaking, continues_with, plus}
use Rattle.row_type.specs.Words.{UndoRecord, changed_words, counts_saved, number_words, row_as_words}
use Rattle.row_type.specs.{declared.Change.Change, declared.Parameters.Parameters, declared.Registers.Registers, declared.State.State}
use Rattle.patterns.specs.Pattern.{due_then, number_after, placed_in, step_to}
use Rattle.ring.specs.{Ring.ring, declared.Edit.TheVariants.Drop}
use Rattle.patterns.proofs.pattern.place.Goals as goal
use Rattle.patterns.proofs.pattern.place.Goals.{After-saturating_add-due}
use Rattle.patterns.proofs.pattern.place.Goals.{else-offset-t-via-then-offset-t+then-low-high+else-t-due}
use Rattle.patterns.proofs.pattern.place.Goals.{else-offset-t-via-then-offset-t+else-low-high, else-offset-t-via-else-offset-t}

-- the change by the three tests, whatever the code calls its numbers
module _ (n period jitter minimum : ℕ) (offset : ℕ → ℕ) (registers : Registers) (t low high o next due : ℕ) (o_is : o ≡ offset registers.first)
    (next_is : next ≡ number_after n registers.first)
    (due_is : due ≡ due_then n period jitter minimum offset t registers.first high) where
  goes : leb o t ≡ true → leb low high ≡ true → leb t due ≡ true → (later : ℕ) → later ≡ plus t 1
      → continues_with (Drop 0) (record { last = registers.last; first = next; second = low; third = high; fourth = later }) due true
      ≡ placed_in n period jitter minimum offset registers t registers.first low high
  unfolding placed_in
  goes a b c later later-is = rw (next_is, later-is, ← o_is, ← due_is, a, b, c) refl

  stops : (leb o t && (leb low high && leb t due)) ≡ false
      → breaking ≡ placed_in n period jitter minimum offset registers t registers.first low high
  unfolding placed_in
  stops e = rw (← o_is, ← due_is, e) refl

due_is : (parameters : Parameters) (times : List ℕ) (state : State) (past : UndoRecord) (c : After-saturating_add-due)
    → c.args.row.now ≡ row_as_words parameters times state past
    → c.saturating_add-due.result
    ≡ due_then parameters.span parameters.upper parameters.jitter parameters.minimum (at (ring times state.head state.len)) c.args.t
    state.registers.first c.args.high
unfolding row_as_words number_words
due_is parameters times state past c e =
    let next : c.number_after-next.result ≡ number_after parameters.span state.registers.first = rw e at c.number_after-next.ensures in
    let step : c.step_to-step.result ≡ step_to parameters.upper c.number_after-next.result = rw e at c.step_to-step.ensures in
    let after : c.word-after.result ≡ at (ring times state.head state.len) c.number_after-next.result =
    rw (c.times-times.ensures.times, e) at c.word-after.ensures in
    c.saturating_add-due.ensures ∙ rw (c.saturating_add-2.ensures, c.saturating_add.ensures, after, step, next, e) refl

pub returns-then-t-due : goal.returns-then-t-due
unfolding row_as_words number_words changed_words
returns-then-t-due c parameters times state past e =
    let a = c.args in
    let words : List ℕ = ring times state.head state.len in
    let offset : c.word-offset.result ≡ at words state.registers.first = rw (c.times-times.ensures.times, e) at c.word-offset.ensures in
    let next : c.number_after-next.result ≡ number_after parameters.span state.registers.first = rw e at c.number_after-next.ensures in
    let due = due_is parameters times state past (goal.at.returns-then-t-due c).After-saturating_add-due e in
    c.go_on.ensures parameters times state past e
    ∙ ap (λ (change : Change). changed_words counts_saved parameters times state past change a.t a.number)
    (goes parameters.span parameters.upper parameters.jitter parameters.minimum (at words) state.registers a.t a.low a.high
    c.word-offset.result
    c.number_after-next.result c.saturating_add-due.result offset next due (le-leb _ _ c.if-offset-t.true) (le-leb _ _ c.if-low-high.true)
    (le-leb _ _ c.if-t-due.true)
    c.saturating_add-then-t-due.result c.saturating_add-then-t-due.ensures)

pub returns : goal.returns
unfolding row_as_words number_words changed_words
returns c parameters times state past e =
    let a = c.args in
    let words : List ℕ = ring times state.head state.len in
    let offset : c.word-offset.result ≡ at words state.registers.first = rw (c.times-times.ensures.times, e) at c.word-offset.ensures in
    let next : c.number_after-next.result ≡ number_after parameters.span state.registers.first = rw e at c.number_after-next.ensures in
    let due = due_is parameters times state past (goal.at.returns c).After-saturating_add-due e in
    let failed : (leb c.word-offset.result a.t && (leb a.low a.high && leb a.t c.saturating_add-due.result)) ≡ false =
    elim c.else-offset-t.branch [
      | else-offset-t-via-then-offset-t+then-low-high+else-t-due x ↦
          rw (le-leb _ _ x.if-offset-t.true, le-leb _ _ x.if-low-high.true, lt-leb _ _ x.if-t-due.false) refl
      | else-offset-t-via-then-offset-t+else-low-high x ↦ rw (le-leb _ _ x.if-offset-t.true, lt-leb _ _ x.if-low-high.false) refl
      | else-offset-t-via-else-offset-t x ↦ rw (lt-leb _ _ x.if-offset-t.false) refl
    ] in
    c.break_at.ensures parameters times state past e
    ∙ ap (λ (change : Change). changed_words counts_saved parameters times state past change a.t a.number)
    (stops parameters.span parameters.upper parameters.jitter parameters.minimum (at words) state.registers a.t a.low a.high
    c.word-offset.result
    c.number_after-next.result c.saturating_add-due.result offset next due failed)
