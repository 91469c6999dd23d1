-- After each turn the lines of the rows so far are stored, and the place is behind them.
use Rattle.constraint.proofs.Library.{◌+◌, ◌∙◌, ◌≡◌, ap, arith, length, length-sets, refl, sets, subst, ℕ}
use Rattle.constraint.specs.{Page.page_lines}
use Rattle.page.proofs.{Pages.heading_length, Pages.row_stored}
use Rattle.page.specs.Sheet.{types_of, verdicts_of}
use Rattle.page.proofs.put_rows.Goals as goal

pub loop-i-init : goal.loop-i-init
unfolding page_lines
loop-i-init c = (refl, refl, refl)

pub put_line-requires : goal.put_line-requires
put_line-requires c =
    (omega (arith, c.put_heading-behind.ensures.behind, heading_length c.loop-i.i), omega arith)

pub overflow_add-place : goal.overflow_add-place
overflow_add-place c =
    omega (arith, c.put_heading-behind.ensures.behind, heading_length c.loop-i.i)

pub loop-i-preserved : goal.loop-i-preserved
loop-i-preserved c =
    let loop = c.loop-i in let start = c.args in
    let types = types_of start.rows.now in
    let verdicts = verdicts_of start.closed start.rows.now in
    let buffer = start.buffer.now in
    let next =
    row_stored types verdicts buffer loop.buffer c.put_heading-behind.new.buffer c.put_line.new.buffer loop.place c.put_heading-behind.result
    loop.i (omega arith) loop.invariant.1 loop.invariant.2 c.put_heading-behind.ensures.stored c.put_heading-behind.ensures.behind
    (rw (← c.verdict.ensures) c.put_line.ensures) in
    (ap length next.1 ∙ length-sets buffer 0 (page_lines types verdicts (loop.i + 1)), next.0, next.1)

pub returns : goal.returns
returns c =
    let loop = c.loop-i in let start = c.args in
    let all : loop.i ≡ length start.rows.now = omega arith in
    subst (λ (n : ℕ). loop.buffer ≡ sets start.buffer.now 0
    (page_lines (types_of start.rows.now) (verdicts_of start.closed start.rows.now) n)) all
    loop.invariant.2
