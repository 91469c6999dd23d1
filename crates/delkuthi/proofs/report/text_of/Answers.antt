-- The lines are those of the answer, behind an empty text.
use Rattle.delkuthi.proofs.{Reports.holds_closed, Reports.holds_refusal}
use Rattle.delkuthi.proofs.report.text_of.Goals as goal

pub returns-in-Ok : goal.returns-in-Ok
returns-in-Ok c =
    rw c.in-Ok.is
    (holds_closed c.args.summary.now c.closed_line.new.self c.row_lines.new.text
    (rw (← c.new-text.ensures) c.closed_line.ensures) (rw (← c.rows.ensures) c.row_lines.ensures))

pub returns-in-Err : goal.returns-in-Err
returns-in-Err c =
    rw c.in-Err.is
    (holds_refusal _ _ c.refused_line.new.self (rw (← c.new-text.ensures, ← c.from.ensures) c.refused_line.ensures))
