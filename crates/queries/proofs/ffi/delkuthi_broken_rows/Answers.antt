-- From the last row to the first, each adds its bit below those behind it.
use Rattle.queries.proofs.Names.{◌-◌, ◌≡◌, arith, row_limit, sym}
use Rattle.queries.proofs.RowPresent.{bits_next, marks_next, marks_none, power_some}
use Rattle.queries.proofs.{Places.held_lies, Theorem.broken_rows_asked}
use Rattle.queries.proofs.ffi.delkuthi_broken_rows.Goals as goal

pub loop-i-init : goal.loop-i-init
loop-i-init c = (
  power_some (32 - c.held-i.result),
  λ n holds.
      let all = held_lies c.args.m.now n holds _ c.held-i.ensures.1 in
      sym (marks_none n (row_limit - c.held-i.result) c.held-i.result (omega (arith, all))),
)

pub loop-i-preserved : goal.loop-i-preserved
loop-i-preserved c =
    let l = c.loop-i in (
      bits_next l.i l.mask c.broken_at.result c.loop-i-test.true (omega (arith, l.auto.i, c.held-i.ensures.0)) l.invariant.0 c.broken_at.ensures.0,
      λ n holds.
          let all = held_lies c.args.m.now n holds _ c.held-i.ensures.1 in
          marks_next n l.i _ _ c.loop-i-test.true (omega (arith, l.auto.i, all)) (l.invariant.1 n holds) (c.broken_at.ensures.1 n holds),
    )

pub returns : goal.returns
returns c n holds =
    let l = c.loop-i in
    let none_left : l.i ≡ 0 = omega (arith, c.loop-i-test.false) in
    broken_rows_asked n (rw none_left at (l.invariant.1 n holds))
