-- Row after row: before the turn of number i none of the first i has the mark.
use Rattle.queries.proofs.Names.{Bool, HoldsMonitor, Monitor, StepInput, Row, Words, ◌+◌, ◌-◌, ◌<◌, ◌∙◌, ◌≡◌, ◌≤◌, arith, cond, crowded_by, drop}
use Rattle.queries.proofs.Names.{first_marked}
use Rattle.queries.proofs.Names.{kept_at, row_at, sym, ℕ}
use Rattle.queries.proofs.{Places.block_lies, Places.rows_there, RowPresent.first_here, RowPresent.first_none}
use Rattle.queries.proofs.ffi.first_crowded.Goals as goal

abbrev test : StepInput → Row → Bool
test o r = crowded_by r.parameters r.now o

-- the test of row i, and what is found from there on
found : (m : Words) (rows : ℕ) (o : StepInput) (i : ℕ) (b : Bool) (n : Monitor) → HoldsMonitor m n → i < rows → rows ≤ 32
    → b ≡ test o (row_at n i)
    → first_marked rows (test o) 0 n.rows ≡ first_marked (rows - i) (test o) i (drop i n.rows)
    → first_marked rows (test o) 0 n.rows ≡ cond b i (first_marked (rows - (i + 1)) (test o) (i + 1) (drop (i + 1) n.rows))
found m rows o i b n holds below few is so_far =
    rw is (so_far ∙ first_here (test o) rows i n.rows below (omega (arith, rows_there m n holds)))

pub loop-i-preserved : goal.loop-i-preserved
loop-i-preserved c n holds =
    let a = c.args in
    let m = a.m.now in
    let i = c.loop-i.i in
    let below : i < a.rows = c.loop-i-test.true in
    rw c.if-step_overflows.false at (found m a.rows a.o i c.step_overflows.result n holds below c.requires
    (c.step_overflows.ensures (row_at n i) (kept_at n i) (block_lies m n holds i (omega (arith, below, c.requires)))) (c.loop-i.invariant n holds))

pub returns-then-step_overflows : goal.returns-then-step_overflows
returns-then-step_overflows c =
    let a = c.args in
    let m = a.m.now in
    let i = c.loop-i.i in
    let below : i < a.rows = c.loop-i-test.true in (
      omega (arith, below, c.requires),
      λ n holds. sym (rw c.if-step_overflows.true at (found m a.rows a.o i c.step_overflows.result n holds below c.requires
          (c.step_overflows.ensures (row_at n i) (kept_at n i) (block_lies m n holds i (omega (arith, below, c.requires))))
          (c.loop-i.invariant n holds))),
    )

pub returns : goal.returns
returns c =
    let a = c.args in let l = c.loop-i in
    let at_end : a.rows ≤ l.i = c.loop-i-test.false in
    (omega arith, λ n holds. sym (l.invariant n holds ∙ first_none (test a.o) a.rows l.i n.rows at_end))
