-- Row after row: before the turn of number i what is said is said of the first i rows of the monitor that lies there.
use Rattle.delkuthi.proofs.Names.{◌<◌, ◌≡◌, arith}
use Rattle.delkuthi.proofs.WordsRead.{broken_read, closed_read, count_read, tag_read, len_read, rows_there}
use Rattle.delkuthi.proofs.{Summaries.front_all, Summaries.front_next}
use Rattle.delkuthi.proofs.report.summary_of.Goals as goal

pub loop-i-preserved : goal.loop-i-preserved
loop-i-preserved c n holds =
    let m = c.args.m.now in
    let i = c.loop-i.i in
    let small : i < 32 = omega arith in
    rw (c.loop-i.invariant n holds, tag_read m n holds i small, broken_read m n holds i small) (front_next n.rows (rows_there m n holds) i small)

pub returns : goal.returns
returns c n holds =
    let m = c.args.m.now in
    let all : c.loop-i.i ≡ 32 = omega arith in
    let last = rw all at (c.loop-i.invariant n holds) in
    rw (
      last,
      front_all n.rows (rows_there m n holds),
      len_read m n holds _ c.held.ensures.1,
      count_read m n holds,
      closed_read m n holds _ c.closed.ensures,
    )
