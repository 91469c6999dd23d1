-- Row after row: before the turn of number i it is the least deadline of the first i.
use Rattle.queries.proofs.Names.{◌∙◌, arith, sym}
use Rattle.queries.proofs.RowPresent.{is_there, least_all, least_next, least_none}
use Rattle.queries.proofs.{Places.held_lies, Theorem.deadline_asked}
use Rattle.queries.proofs.ffi.delkuthi_deadline.Goals as goal

pub loop-i-init : goal.loop-i-init
loop-i-init c n holds = sym (least_none n)

pub loop-i-preserved : goal.loop-i-preserved
loop-i-preserved c n holds =
    let i = c.loop-i.i in
    let held = held_lies c.args.m.now n holds _ c.held-i-end.ensures.1 in
    rw (
      c.min-least.ensures,
      c.loop-i.invariant n holds,
      c.deadline_at.ensures n holds,
      least_next n i,
      is_there i n.len (omega (arith, held, c.loop-i-test.true)),
    )

pub returns : goal.returns
returns c n holds =
    let loop = c.loop-i in
    let held = held_lies c.args.m.now n holds _ c.held-i-end.ensures.1 in
    deadline_asked n (loop.invariant n holds ∙ least_all n loop.i (omega (arith, held, c.loop-i-test.false, loop.auto.i-end)))
