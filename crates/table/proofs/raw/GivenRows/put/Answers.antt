-- The loop stores row after row: storing those left in what there is now gives the whole.
use Rattle.table.proofs.Names.{Bytes, ◌+◌, ◌∙◌, ap, arith, length, refl, rows_bytes, sets, sym}
use Rattle.table.proofs.RawRows.{left_size, left_stored, rows_all, rows_end}
use Rattle.table.proofs.raw.GivenRows.put.Goals as goal

pub loop-i-init : goal.loop-i-init
loop-i-init c =
    let a = c.args in let all = rows_all a.self.bytes.now a.count in
    (refl, ap (λ rows. 1 + length (rows_bytes rows)) all, ap (λ rows. sets a.buffer.now 1 (rows_bytes rows)) all)

pub put_row-place-requires : goal.put_row-place-requires
unfolding Bytes
put_row-place-requires c =
    let a = c.args in
    let size = left_size a.self.edition a.self.bytes.now c.loop-i.i a.count a.self.each_fits c.requires.0 (omega arith) in
    ((c.requires.0.known _ (omega arith), omega (arith, c.requires.0.whole)), omega (arith, size, c.requires.1))

pub loop-i-preserved : goal.loop-i-preserved
unfolding Bytes
loop-i-preserved c =
    let a = c.args in
    let size = left_size a.self.edition a.self.bytes.now c.loop-i.i a.count a.self.each_fits c.requires.0 (omega arith) in
    let loop = c.loop-i in let put = c.put_row-place in (
      put.auto.buffer ∙ loop.invariant.0,
      omega (arith, size, put.ensures.behind),
      rw (put.ensures.stored, put.ensures.behind)
          (sym (left_stored a.self.edition a.self.bytes.now loop.i a.count a.self.each_fits c.requires.0 (omega arith) loop.buffer loop.place)
          ∙ loop.invariant.2),
    )

pub returns : goal.returns
unfolding rows_bytes
returns c =
    let a = c.args in let loop = c.loop-i in
    sym (ap (λ rows. sets loop.buffer loop.place (rows_bytes rows)) (rows_end a.self.bytes.now loop.i a.count (omega arith)))
    ∙ loop.invariant.2
