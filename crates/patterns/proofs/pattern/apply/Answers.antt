-- Where the event's point can be is what the definition says, of the first event and of a later one.
use Rattle.constraint.proofs.Library.{List, ◌&&◌, ◌-◌, ◌||◌, ◌∙◌, ◌≡◌, ap, eq-eqb, eqb, false, ltb, ne_eqb, refl, sym, true, ℕ}
use Rattle.constraint.specs.Steps.{at}
use Rattle.row_type.specs.Parts.{breaking, far_enough, plus}
use Rattle.row_type.specs.Words.{changed_words, counts_saved, number_words, row_as_words}
use Rattle.row_type.specs.{declared.Change.Change, declared.Registers.Registers}
use Rattle.patterns.specs.Pattern.{decide_in_words, decide_pattern, high_after, later_pattern, low_after, placed_in, step_to}
use Rattle.ring.specs.Ring.{ring}
use Rattle.patterns.proofs.pattern.apply.Goals as goal

-- the decision by its tests, whatever the code calls its numbers
module _ (n period jitter minimum : ℕ) (offset : ℕ → ℕ) (registers : Registers) (t low high : ℕ) where
  first : eqb registers.fourth 0 ≡ true → low ≡ t - plus (offset registers.first) jitter → high ≡ t - offset registers.first
      → placed_in n period jitter minimum offset registers t registers.first low high ≡ decide_pattern n period jitter minimum offset registers t
  unfolding decide_pattern
  first none low_is high_is = rw (low_is, high_is, none) refl

  later : eqb registers.fourth 0 ≡ false → (far_enough minimum registers.fourth t && (ltb 0 registers.first || ltb 0 period)) ≡ true
      → low ≡ low_after n period jitter minimum offset registers t → high ≡ high_after n period jitter minimum offset registers t
      → placed_in n period jitter minimum offset registers t registers.first low high ≡ decide_pattern n period jitter minimum offset registers t
  unfolding decide_pattern later_pattern
  later some follows low_is high_is = rw (low_is, high_is, follows, some) refl

  stops : eqb registers.fourth 0 ≡ false → (far_enough minimum registers.fourth t && (ltb 0 registers.first || ltb 0 period)) ≡ false
      → breaking ≡ decide_pattern n period jitter minimum offset registers t
  unfolding decide_pattern later_pattern
  stops some follows = rw (follows, some) refl

pub returns-then-last-eq0 : goal.returns-then-last-eq0
unfolding row_as_words number_words decide_in_words
returns-then-last-eq0 c parameters times state past e =
    let a = c.args in
    let words : List ℕ = ring times state.head state.len in
    let offset : c.word-offset.result ≡ at words state.registers.first = rw (c.times-times.ensures.times, e) at c.word-offset.ensures in
    let near : c.saturating_sub-near.result ≡ a.t - plus (at words state.registers.first) parameters.jitter =
    c.saturating_sub-near.ensures ∙ rw (c.saturating_add.ensures, offset, e) refl in
    let far : c.saturating_sub-far.result ≡ a.t - at words state.registers.first = c.saturating_sub-far.ensures ∙ rw offset refl in
    c.place.ensures parameters times state past e
    ∙ ap (λ (change : Change). changed_words counts_saved parameters times state past change a.t a.number)
    (first parameters.span parameters.upper parameters.jitter parameters.minimum (at words) state.registers a.t c.saturating_sub-near.result
    c.saturating_sub-far.result
    (eq-eqb _ _ (rw e at c.if-last-eq0.true)) near far)

pub returns-then-may_follow : goal.returns-then-may_follow
unfolding row_as_words number_words decide_in_words
returns-then-may_follow c parameters times state past e =
    let a = c.args in
    let words : List ℕ = ring times state.head state.len in
    let offset : c.word-offset.result ≡ at words state.registers.first = rw (c.times-times.ensures.times, e) at c.word-offset.ensures in
    let near : c.saturating_sub-near.result ≡ a.t - plus (at words state.registers.first) parameters.jitter =
    c.saturating_sub-near.ensures ∙ rw (c.saturating_add.ensures, offset, e) refl in
    let far : c.saturating_sub-far.result ≡ a.t - at words state.registers.first = c.saturating_sub-far.ensures ∙ rw offset refl in
    let step : c.step_to-step.result ≡ step_to parameters.upper state.registers.first = rw e at c.step_to-step.ensures in
    let low : c.max-low.result
    ≡ low_after parameters.span parameters.upper parameters.jitter parameters.minimum (at words) state.registers a.t =
    c.max-low.ensures ∙ rw (c.saturating_add-2.ensures, step, near, e) refl in
    let high : c.min-high.result
    ≡ high_after parameters.span parameters.upper parameters.jitter parameters.minimum (at words) state.registers a.t =
    c.min-high.ensures ∙ rw (c.saturating_add-3.ensures, step, far, e) refl in
    let follows : c.may_follow.result
    ≡ (far_enough parameters.minimum state.registers.fourth a.t && (ltb 0 state.registers.first || ltb 0 parameters.upper)) =
    rw e at c.may_follow.ensures in
    c.place-then-may_follow.ensures parameters times state past e
    ∙ ap (λ (change : Change). changed_words counts_saved parameters times state past change a.t a.number)
    (later parameters.span parameters.upper parameters.jitter parameters.minimum (at words) state.registers a.t c.max-low.result
    c.min-high.result
    (ne_eqb _ _ (rw e at c.if-last-eq0.false)) (sym follows ∙ c.if-may_follow.true) low high)

pub returns : goal.returns
unfolding row_as_words number_words changed_words decide_in_words
returns c parameters times state past e =
    let a = c.args in
    let words : List ℕ = ring times state.head state.len in
    let follows : c.may_follow.result
    ≡ (far_enough parameters.minimum state.registers.fourth a.t && (ltb 0 state.registers.first || ltb 0 parameters.upper)) =
    rw e at c.may_follow.ensures in
    c.break_at.ensures parameters times state past e
    ∙ ap (λ (change : Change). changed_words counts_saved parameters times state past change a.t a.number)
    (stops parameters.span parameters.upper parameters.jitter parameters.minimum (at words) state.registers a.t 0 0
    (ne_eqb _ _ (rw e at c.if-last-eq0.false)) (sym follows ∙ c.if-may_follow.false))
