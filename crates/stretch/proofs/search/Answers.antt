-- The loop goes through the stretches one by one and counts them, so its counter is the place.
use Rattle.constraint.proofs.Library.{◌<◌, arith, rules}
use Rattle.stretch.proofs.Places.{search_end, search_found, search_longer, search_on, search_start}
use Rattle.stretch.proofs.search.Goals as goal

pub overflow_add-tried : goal.overflow_add-tried
overflow_add-tried c =
    let inv = c.loop-size.invariant in
    omega (arith, c.requires, inv.small, inv.size_small, inv.inside c.loop-size-test.true, inv.positive)

pub offset_bounds-need-first : goal.offset_bounds-need-first
offset_bounds-need-first c =
    let inv = c.loop-size.invariant in
    let small : c.loop-size.first < 256 = omega (arith, c.requires, inv.inside c.loop-size-test.true, inv.positive) in
    search rules

pub bounds-need-first : goal.bounds-need-first
bounds-need-first c =
    let inv = c.loop-size.invariant in
    let small : c.loop-size.first < 256 = omega (arith, c.requires, inv.inside c.loop-size-test.true, inv.positive) in
    search rules

pub returns-then-need-first : goal.returns-then-need-first
returns-then-need-first c =
    search_found c.args.count c.args.need.now _ _ _ c.loop-size.invariant c.loop-size-test.true c.if-need-first.true

pub overflow_add-first : goal.overflow_add-first
overflow_add-first c =
    omega (arith, c.requires, c.loop-size.invariant.inside c.loop-size-test.true)

pub overflow_add-first-then-first-size : goal.overflow_add-first-then-first-size
overflow_add-first-then-first-size c =
    omega (arith, c.requires, c.loop-size.invariant.inside c.loop-size-test.true)

pub loop-size-smaller-then-first-size : goal.loop-size-smaller-then-first-size
loop-size-smaller-then-first-size c =
    omega (
      arith,
      c.requires,
      c.loop-size.invariant.inside c.loop-size-test.true,
      c.loop-size-test.true,
    )

pub loop-size-preserved-then-first-size : goal.loop-size-preserved-then-first-size
loop-size-preserved-then-first-size c =
    search_on c.args.count c.args.need.now _ _ _ c.loop-size.invariant c.loop-size-test.true
    c.if-need-first.false c.if-first-size.true

pub overflow_add-size : goal.overflow_add-size
overflow_add-size c =
    omega (arith, c.requires, c.loop-size.invariant.inside c.loop-size-test.true)

pub loop-size-smaller : goal.loop-size-smaller
loop-size-smaller c =
    omega (
      arith,
      c.requires,
      c.loop-size.invariant.inside c.loop-size-test.true,
      c.loop-size-test.true,
    )

pub loop-size-preserved : goal.loop-size-preserved
loop-size-preserved c =
    search_longer c.args.count c.args.need.now _ _ _ c.loop-size.invariant c.loop-size-test.true
    c.if-need-first.false c.requires c.if-first-size.false

pub returns : goal.returns
returns c = search_end c.args.count c.args.need.now _ _ _ c.loop-size.invariant c.loop-size-test.false

pub loop-size-init : goal.loop-size-init
loop-size-init c = search_start _ _
