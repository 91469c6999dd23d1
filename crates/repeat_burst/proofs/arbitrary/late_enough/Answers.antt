-- The loop goes from pair to pair: where t is too early for one of them it is so for all of them.
use Rattle.constraint.proofs.Library.{List, ◌+◌, ◌<◌, ◌≡◌, add-one, arith, by_cases, false, refl, suc, sym, zero, ℕ, ℕ_discrete}
use Rattle.ring.specs.Ring.{times_of}
use Rattle.repeat_burst.specs.Arbitrary.{late_enough, lower_in}
use Rattle.repeat_burst.proofs.arbitrary.late_enough.Goals as goal

module _ (lower : ℕ → ℕ) (next : ℕ) (words : List ℕ) (t : ℕ) where
  too_early : (n i : ℕ) → i < n → late_enough (i + 1) lower 16 next words t ≡ false → late_enough n lower 16 next words t ≡ false
  unfolding late_enough
  too_early zero i h early = absurd (omega arith)
  too_early (suc n) i h early =
      by_cases (ℕ_discrete i n) (λ same. let last : i + 1 ≡ suc n = omega arith in rw last at early)
      (λ other. rw (too_early n i (omega arith) early))

pub loop-i-init : goal.loop-i-init
unfolding late_enough
loop-i-init c = (omega arith, refl)

pub loop-i-preserved : goal.loop-i-preserved
unfolding late_enough
loop-i-preserved c = (
  omega arith,
  rw (
    add-one c.loop-i.i,
    c.loop-i.invariant.1,
    ← c.word-lower.ensures,
    ← c.newest-last.ensures,
    ← c.far_enough.ensures,
    c.if-not-far_enough.false,
  ),
)

pub returns-then-not-far_enough : goal.returns-then-not-far_enough
unfolding late_enough
returns-then-not-far_enough c =
    let a = c.args in let words : List ℕ = times_of a.times in
    let early : late_enough (c.loop-i.i + 1) (lower_in words) 16 a.next words a.t ≡ false =
    rw (
      add-one c.loop-i.i,
      c.loop-i.invariant.1,
      ← c.word-lower.ensures,
      ← c.newest-last.ensures,
      ← c.far_enough.ensures,
      c.if-not-far_enough.true,
    ) in
    sym (too_early (lower_in words) a.next words a.t a.n c.loop-i.i (omega arith) early)

pub returns : goal.returns
returns c =
    let end : c.loop-i.i ≡ c.args.n = omega arith in
    rw (← end, c.loop-i.invariant.1)
