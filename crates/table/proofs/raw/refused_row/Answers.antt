-- The loop asks row after row, and stops at the first that is not taken.
use Rattle.table.proofs.Names.{ap, not, passed}
use Rattle.table.proofs.{RawRows.taken_more}
use Rattle.table.proofs.raw.refused_row.Goals as goal

pub loop-i-preserved : goal.loop-i-preserved
loop-i-preserved c =
    let test = c.is_taken in
    taken_more c.args.edition c.args.bytes.now c.loop-i.i c.loop-i.invariant (passed test.result test.ensures (ap not c.if-not-is_taken.false)).1
