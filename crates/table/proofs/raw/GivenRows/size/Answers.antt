-- The loop adds row after row: the size so far and the bytes of the rows left are the whole.
use Rattle.table.proofs.Names.{Bytes, ◌+◌, ◌∙◌, ap, arith, length, rows_bytes}
use Rattle.table.proofs.RawRows.{body_is, left_size, rows_all, rows_end}
use Rattle.table.proofs.raw.GivenRows.size.Goals as goal

-- a body has at most as many bytes as a row is given
pub loop-i-preserved : goal.loop-i-preserved
unfolding Bytes
loop-i-preserved c =
    let i = c.loop-i.i in let a = c.args in let bytes = a.self.bytes.now in
    let next = left_size a.self.edition bytes i a.count a.self.each_fits c.requires (omega arith) in
    let known = c.requires.known i (omega arith) in
    let long = ap length c.body.ensures ∙ body_is a.self.edition bytes i known (omega (arith, c.requires.whole)) in
    (omega (arith, known.1, long), omega (arith, next, long))

pub returns : goal.returns
unfolding rows_bytes
returns c =
    let a = c.args in
    omega (arith, rw (rows_end a.self.bytes.now c.loop-i.i a.count (omega arith)) at c.loop-i.invariant.1)

pub loop-i-init : goal.loop-i-init
loop-i-init c = (
  omega arith,
  ap (λ (rows : _). 1 + length (rows_bytes rows)) (rows_all c.args.self.bytes.now c.args.count),
)
