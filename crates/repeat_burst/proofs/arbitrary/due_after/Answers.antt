-- The loop goes from pair to pair: the due time so far is that of those passed.
use Rattle.constraint.proofs.Library.{◌≡◌, add-one, arith, refl}
use Rattle.repeat_burst.specs.Arbitrary.{due_after}
use Rattle.repeat_burst.proofs.arbitrary.due_after.Goals as goal

pub loop-i-init : goal.loop-i-init
unfolding due_after
loop-i-init c = (omega arith, refl)

pub loop-i-preserved : goal.loop-i-preserved
unfolding due_after
loop-i-preserved c = (
  omega arith,
  rw (
    add-one c.loop-i.i,
    c.min-due.ensures,
    c.saturating_add.ensures,
    c.time_after-from.ensures,
    c.word-upper.ensures,
    ← c.loop-i.invariant.1,
  ),
)

pub returns : goal.returns
returns c =
    let end : c.loop-i.i ≡ c.args.n = omega arith in
    rw (c.loop-i.invariant.1, end)
