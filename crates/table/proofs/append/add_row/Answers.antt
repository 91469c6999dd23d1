-- The first bytes of the buffer are judged with the body, and the row is stored behind them.
use Rattle.table.proofs.Names.{Bytes, rules}
use Rattle.constraint.proofs.Refusals.{exit_is}
use Rattle.table.proofs.Appending.{adds_none, adds_one}
use Rattle.table.proofs.append.add_row.Goals as goal

pub returns-in_err-count : goal.returns-in_err-count
returns-in_err-count c =
    let a = c.args in
    rw (exit_is c.from_residual.result _ c.from_residual.ensures.1)
    (adds_none a.buffer.now a.size c.min-place.result a.body.now c.min-place.ensures _ _ c.in_err-count.ensures)

pub returns : goal.returns
unfolding Bytes
returns c =
    let a = c.args in
    adds_one a.buffer.now a.size c.min-place.result a.body.now c.min-place.ensures _ _ c.in_ok-count.ensures c.put_row.ensures (λ i h. search rules)
