-- The first event may have its point anywhere within its jitter; a later one goes on where the three tests hold.
use Rattle.constraint.proofs.Library.{Bool, List, ◌&&◌, ◌∙◌, ◌≡◌, ap, eq-eqb, eqb, false, le-leb, leb, lt-leb, ne_eqb, refl, sym, ℕ}
use Rattle.std.proofs.lemmas.Bool.{and_left, and_right}
use Rattle.ring.specs.Ring.{ring}
use Rattle.row_type.specs.{Parts.breaking, Parts.far_enough, declared.Parameters.Parameters, declared.Registers.Registers}
use Rattle.row_type.specs.Words.{changed_words, number_words, row_as_words}
use Rattle.hidden_points.specs.Sporadic.{decide_sporadic, highest, later_sporadic, lowest, stride}
use Rattle.hidden_points.proofs.sporadic.apply.Goals as goal
use Rattle.hidden_points.proofs.sporadic.apply.Goals.{then-stride-upper+then-far_enough+else-low-high, else-stride-upper}
use Rattle.hidden_points.proofs.sporadic.apply.Goals.{else-stride-upper-via-then-stride-upper+else-far_enough}
use Rattle.hidden_points.proofs.sporadic.apply.Goals.{else-stride-upper-via-else-stride-upper}

-- the three tests of a later event
abbrev goes : Parameters → Registers → ℕ → Bool
goes parameters registers t =
    far_enough parameters.minimum registers.last t &&
    (leb (stride parameters.lower) parameters.upper && leb (lowest parameters registers t) (highest parameters registers t))

breaks : (parameters : Parameters) (registers : Registers) (kept : List ℕ) (stream t : ℕ) → eqb registers.last 0 ≡ false
    → goes parameters registers t ≡ false → decide_sporadic parameters registers kept stream t ≡ breaking
unfolding decide_sporadic later_sporadic
breaks parameters registers kept stream t later stops = rw (stops, later) refl

pub returns-then-last-eq0 : goal.returns-then-last-eq0
unfolding row_as_words number_words decide_sporadic
returns-then-last-eq0 c parameters times state past e =
    rw (c.place.ensures parameters times state past e, rw e at c.saturating_sub-near.ensures, eq-eqb _ _ (rw e at c.if-last-eq0.true)) refl

pub returns-then-low-high : goal.returns-then-low-high
unfolding row_as_words number_words decide_sporadic later_sporadic
returns-then-low-high c parameters times state past e =
    let a = c.args in
    let strides : c.stride-stride.result ≡ stride parameters.lower = rw e at c.stride-stride.ensures in
    let low : c.max-low.result ≡ lowest parameters state.registers a.t = c.max-low.ensures
    ∙ rw (c.saturating_add.ensures, strides, c.saturating_sub-near.ensures, e) refl in
    let high : c.latest-high.result ≡ highest parameters state.registers a.t = rw e at c.latest-high.ensures in
    rw (
      c.place-then-low-high.ensures parameters times state past e,
      ← rw e at c.far_enough.ensures,
      ne_eqb _ _ (rw e at c.if-last-eq0.false),
      ← low,
      ← high,
      c.if-far_enough.true,
      ← strides,
      le-leb _ _ (rw e at c.if-stride-upper.true),
      le-leb _ _ c.if-low-high.true,
    )
    refl

pub returns : goal.returns
unfolding row_as_words number_words changed_words
returns c parameters times state past e =
    let a = c.args in
    let strides : c.stride-stride.result ≡ stride parameters.lower = rw e at c.stride-stride.ensures in
    let far = far_enough parameters.minimum state.registers.last a.t in
    let wide = leb (stride parameters.lower) parameters.upper in
    let room = leb (lowest parameters state.registers a.t) (highest parameters state.registers a.t) in
    let stops : goes parameters state.registers a.t ≡ false =
    elim c.if-stride-upper.branch [
      | then-stride-upper+then-far_enough+else-low-high w ↦
          let low : w.max-low.result ≡ lowest parameters state.registers a.t = w.max-low.ensures
          ∙ rw (w.saturating_add.ensures, strides, c.saturating_sub-near.ensures, e) refl in
          let high : w.latest-high.result ≡ highest parameters state.registers a.t = rw e at w.latest-high.ensures in
          let none : room ≡ false = rw (← low, ← high) (lt-leb _ _ w.if-low-high.false) in
          and_right far (wide && room) (and_right wide room none)
      | else-stride-upper v ↦ elim v.else-stride-upper.branch [
        | else-stride-upper-via-then-stride-upper+else-far_enough w ↦
            and_left far (wide && room) (sym (rw e at w.far_enough.ensures) ∙ w.if-far_enough.false)
        | else-stride-upper-via-else-stride-upper w ↦
            and_right far (wide && room)
            (and_left wide room (ap (λ (x : ℕ). leb x parameters.upper) (sym strides) ∙ lt-leb _ _ (rw e at w.if-stride-upper.false)))
      ]
    ] in
    let kept = ring times state.head state.len in
    let decided = breaks parameters state.registers kept a.stream a.t (ne_eqb _ _ (rw e at c.if-last-eq0.false)) stops in
    rw (c.break_at.ensures parameters times state past e, decided) refl
