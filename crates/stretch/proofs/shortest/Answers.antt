-- Each answer is that of the first "no": the table's, the recording's, 22, and then the row's.
use Rattle.constraint.proofs.{Accepted.row_accepted, Judged.judged_all}
use Rattle.std.proofs.lemmas.Result.{err_from_is_err_and}
use Rattle.constraint.specs.{Stretches.answers, Stretches.no_recording, Stretches.no_table}
use Rattle.table.proofs.AcceptedRows.{read_accepted}
use Rattle.stretch.proofs.{Answers.no_such_row, Answers.row_tried, Answers.run_of, Answers.too_many}
use Rattle.stretch.proofs.shortest.Goals as goal

pub returns-in_err-found : goal.returns-in_err-found
returns-in_err-found c =
    let exit = err_from_is_err_and c.from_residual.result c.from_residual.ensures.1 in
    rw (exit.1, exit.2) (no_table _ _ c.in_err-found.ensures)

pub returns-in_err-count : goal.returns-in_err-count
returns-in_err-count c =
    let exit = err_from_is_err_and c.from_residual-in_err-count.result c.from_residual-in_err-count.ensures.1 in
    rw (exit.1, exit.2) (no_recording _ _ _ c.in_ok-found.ensures.reads c.in_err-count.ensures)

pub returns-then-count-gt-RECORD_LIMIT : goal.returns-then-count-gt-RECORD_LIMIT
returns-then-count-gt-RECORD_LIMIT c =
    let found = c.in_ok-found.ensures in let taken = c.in_ok-count.ensures in
    rw c.refused.ensures (answers _ taken.0 found.reads taken.1 (too_many _ taken.0 _ _ taken.2 c.if-count-gt-RECORD_LIMIT.true))

pub returns-in-None : goal.returns-in-None
returns-in-None c =
    let found = c.in_ok-found.ensures in let taken = c.in_ok-count.ensures in let few = c.if-count-gt-RECORD_LIMIT.false in
    rw c.refused-in-None.ensures (answers _ taken.0 found.reads taken.1
    (no_such_row found.rows taken.0 _ _ _ few (run_of c.args.recording.now _ taken.0 _ taken.1 taken.2 taken.3 few) (rw c.in-None.is at found.is)))

pub try_row-requires : goal.try_row-requires
try_row-requires c =
    let found = c.in_ok-found.ensures in let is : _ = rw c.in-Some.is at found.is in (
      c.if-count-gt-RECORD_LIMIT.false,
      (_, (judged_all 4 _ _ (row_accepted _ 0 found.rows found.accepted _ _ is.1)).0),
    )

pub returns-in-Some : goal.returns-in-Some
returns-in-Some c =
    let found = c.in_ok-found.ensures in let taken = c.in_ok-count.ensures in let few = c.if-count-gt-RECORD_LIMIT.false in
    let is : _ = rw c.in-Some.is at found.is in
    answers _ taken.0 found.reads taken.1
    (row_tried found.rows taken.0 _ _ _ few (run_of c.args.recording.now _ taken.0 _ taken.1 taken.2 taken.3 few) _ is.0 is.1
    (_, read_accepted c.args.table.now found.rows found.reads) _ c.try_row.ensures)
