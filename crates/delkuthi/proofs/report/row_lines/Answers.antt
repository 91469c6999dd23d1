-- Line after line: putting the lines of the rows that are left behind what there is now gives the whole.
use Rattle.delkuthi.proofs.Names.{◌∙◌, arith, drop_of_length-le, extended, row_lines, verdict_said}
use Rattle.delkuthi.proofs.{Reports.lines_next}
use Rattle.delkuthi.proofs.report.row_lines.Goals as goal

pub loop-i-preserved : goal.loop-i-preserved
loop-i-preserved c =
    let args = c.args in let loop = c.loop-i in
    rw (c.row_line.ensures, c.verdict.ensures)
    (lines_next (verdict_said args.closed) args.rows.now loop.i loop.text (omega arith) ∙ loop.invariant)

pub returns : goal.returns
unfolding row_lines extended
returns c =
    let loop = c.loop-i in
    rw (drop_of_length-le c.args.rows.now {i = loop.i} (omega arith)) at loop.invariant
