-- The loop reads record after record and keeps what each is, as long as there is room.
use Rattle.constraint.proofs.{Judged.failed, Judged.passed, Library.ap, Library.arith, Library.not}
use Rattle.constraint.specs.Recording.{version_refused}
use Rattle.stretch.proofs.Gathering.{gather_end, gather_more, gather_refused, gather_start}
use Rattle.stretch.proofs.gather.Goals as goal

pub returns-then-not-version_known : goal.returns-then-not-version_known
returns-then-not-version_known c = version_refused (failed c.version_known.result c.version_known.ensures (ap not c.if-not-version_known.true))

pub loop-place-init : goal.loop-place-init
loop-place-init c =
    gather_start c.args.bytes.now c.args.records.now
    (passed c.version_known.result c.version_known.ensures (ap not c.if-not-version_known.false))
    c.start-clock.result c.start-clock.ensures.0 c.requires

pub returns-in-Err : goal.returns-in-Err
returns-in-Err c =
    gather_refused c.args.bytes.now c.loop-place.records c.loop-place.clock c.loop-place.count c.loop-place.place c.loop-place.invariant
    c.loop-place-test.true _ _ (rw c.in-Err.is at c.read.ensures)

pub loop-place-preserved : goal.loop-place-preserved
loop-place-preserved c =
    gather_more c.args.bytes.now c.loop-place.records c.loop-place.clock c.loop-place.count c.loop-place.place c.loop-place.invariant
    c.loop-place-test.true _ _ (rw c.in-Ok.is at c.read.ensures) _ _ (rw (← c.step_input.ensures) c.append-count.ensures)

pub loop-place-smaller : goal.loop-place-smaller
loop-place-smaller c =
    let found = rw c.in-Ok.is at c.read.ensures in
    omega (arith, found.next_is.0, found.next_is.1)

pub returns : goal.returns
returns c =
    let inv = c.loop-place.invariant in (
      inv.steps,
      gather_end c.args.bytes.now c.loop-place.records c.loop-place.clock c.loop-place.count c.loop-place.place inv c.loop-place-test.false,
      inv.counted,
      inv.kept,
    )
