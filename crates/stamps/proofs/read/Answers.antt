-- Each answer is that of the first "no"; where there is none the pass has read what the row reads.
use Rattle.std.proofs.lemmas.Result.{err_from_is_err_and}
use Rattle.stamps.proofs.{Answers.answer_range, Answers.answer_reads, Answers.answer_recording, Answers.answer_row}
use Rattle.constraint.specs.Answers.{refused_number}
use Rattle.stamps.proofs.Names.{no_table}
use Rattle.stamps.proofs.read.Goals as goal

pub returns-in_err-row_numbered : goal.returns-in_err-row_numbered
returns-in_err-row_numbered c =
    let p = err_from_is_err_and c.from_residual.result c.from_residual.ensures.1 in
    rw (p.1, p.2) (no_table _ _ c.in_err-row_numbered.ensures)

pub returns-in_err-verdict : goal.returns-in_err-verdict
returns-in_err-verdict c =
    let a = c.args in let found = c.in_ok-row_numbered.ensures in let refused = c.in_err-verdict.field-0.0 in
    let p = err_from_is_err_and c.from_residual-in_err-verdict.result c.from_residual-in_err-verdict.ensures.1 in
    rw (p.1, p.2) (answer_recording a.table.now a.recording.now a.row a.late found.rows found.reads c.in_ok-row_numbered.field-0 found.is
    (refused_number refused) refused.place c.in_err-verdict.ensures)

pub returns-in-Err : goal.returns-in-Err
returns-in-Err c =
    let a = c.args in let found = c.in_ok-row_numbered.ensures in
    answer_row a.table.now a.recording.now a.row a.late found.rows found.reads c.in_ok-row_numbered.field-0 found.is
    c.unwrap_or_default.result c.in_ok-verdict.verdict c.in_ok-verdict.ensures c.in-Err.refusal c.in-Err.ensures

pub returns-then-late-gt-LAST_TIME : goal.returns-then-late-gt-LAST_TIME
returns-then-late-gt-LAST_TIME c =
    let a = c.args in let found = c.in_ok-row_numbered.ensures in
    let same = rw c.in_default.is at c.unwrap_or_default.ensures in
    answer_range a.table.now a.recording.now a.row a.late found.rows found.reads c.in_ok-row_numbered.field-0 found.is
    c.unwrap_or_default.result c.in_ok-verdict.verdict c.in_ok-verdict.ensures (rw same c.in_default.ensures) c.if-late-gt-LAST_TIME.true

pub returns : goal.returns
returns c =
    let a = c.args in let found = c.in_ok-row_numbered.ensures in
    let same = rw c.in_default.is at c.unwrap_or_default.ensures in
    answer_reads a.table.now a.recording.now a.row a.late found.rows found.reads c.in_ok-row_numbered.field-0 found.is
    c.unwrap_or_default.result c.in_ok-verdict.verdict c.in_ok-verdict.ensures (rw same c.in_default.ensures) c.if-late-gt-LAST_TIME.false
