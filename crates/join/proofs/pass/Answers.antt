-- The loop reads record after record: the kinds of those read are marked, and the first one to avoid is kept.
use Rattle.constraint.specs.Answers.{refusal_number}
use Rattle.join.proofs.Names.{ap, arith, failed, not, passed, ticks_on, version_refused}
use Rattle.join.proofs.Passing.{pass_end, pass_more, pass_refused, pass_start, pass_ticks}
use Rattle.join.proofs.pass.Goals as goal

pub returns-then-not-version_known : goal.returns-then-not-version_known
returns-then-not-version_known c =
    version_refused (failed c.version_known.result c.version_known.ensures (ap not c.if-not-version_known.true))

pub loop-place-init : goal.loop-place-init
loop-place-init c =
    let args = c.args in
    pass_start args.bytes.now args.avoid.now (passed c.version_known.result c.version_known.ensures (ap not c.if-not-version_known.false))
    c.start-clock.result c.start-clock.ensures.0

pub returns-in-Err : goal.returns-in-Err
returns-in-Err c =
    let l = c.loop-place in
    pass_refused c.args.bytes.now c.args.avoid.now l.clock l.kinds l.common l.place l.invariant c.loop-place-test.true
    (refusal_number c.in-Err.refusal) _ c.in-Err.ensures

pub loop-place-smaller : goal.loop-place-smaller
loop-place-smaller c = let next = c.in-Ok.ensures.next_is in omega (arith, next.0, next.1, ticks_on c.ticks-place.ensures.takes)

pub loop-place-preserved : goal.loop-place-preserved
loop-place-preserved c =
    let l = c.loop-place in
    pass_ticks c.args.bytes.now c.args.avoid.now _ _ c.ticks-place.ensures.takes
    (rw (c.mark.ensures, c.first_common-common.ensures, c.is_marked.ensures)
    (pass_more c.args.bytes.now c.args.avoid.now l.clock l.kinds l.common l.place l.invariant c.loop-place-test.true c.in-Ok.read _ c.in-Ok.ensures
    c.kind_of-kind.result c.kind_of-kind.ensures))

pub returns : goal.returns
returns c =
    let l = c.loop-place in
    pass_end c.args.bytes.now c.args.avoid.now l.clock l.kinds l.common l.place l.invariant c.loop-place-test.false
