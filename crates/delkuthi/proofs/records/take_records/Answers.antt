-- What is taken from the next record on, after this one, is what is taken from the first on.
use Rattle.delkuthi.proofs.Names.{ap, arith, failed, passed}
use Rattle.constraint.proofs.Library.{not}
use Rattle.delkuthi.proofs.TakenRecords.{to_end, to_more, to_refused, to_start}
use Rattle.delkuthi.specs.TakingRecords.{no_version}
use Rattle.delkuthi.proofs.records.take_records.Goals as goal

pub returns-then-not-version_known : goal.returns-then-not-version_known
returns-then-not-version_known c =
    no_version (failed c.version_known.result c.version_known.ensures (ap not c.if-not-version_known.true))

pub loop-place-init : goal.loop-place-init
loop-place-init c =
    let args = c.args in
    to_start args.bytes.now args.m.now (passed c.version_known.result c.version_known.ensures (ap not c.if-not-version_known.false))

pub returns-in-Err : goal.returns-in-Err
returns-in-Err c =
    let args = c.args in
    to_refused args.bytes.now args.m.now _ c.loop-place.place c.loop-place.invariant c.loop-place-test.true _ _ c.in-Err.ensures

pub loop-place-smaller : goal.loop-place-smaller
loop-place-smaller c = let next = c.in-Ok.ensures.1 in omega (arith, next, c.loop-place-test.true)

pub loop-place-preserved : goal.loop-place-preserved
loop-place-preserved c =
    let args = c.args in
    to_more args.bytes.now args.m.now _ c.loop-place.place c.loop-place.invariant c.loop-place-test.true _ _ c.in-Ok.ensures

pub returns : goal.returns
returns c =
    let args = c.args in
    to_end args.bytes.now args.m.now _ c.loop-place.place c.loop-place.invariant c.loop-place-test.false
