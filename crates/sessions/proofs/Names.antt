-- The names of the definitions and laws below this crate that its proofs use, passed on from one place.
pub use Rattle.constraint.proofs.Library.{List, Option, [], ◌++◌, ◌+◌, ◌-◌, ◌<◌, ◌∙◌, ◌∷◌, ◌≡◌, ◌≤◌, ap, ap₂, append_assoc, append-nil, arith}
pub use Rattle.constraint.proofs.Library.{drop, get_or, get_elem?}
pub use Rattle.constraint.proofs.Library.{length, map, none, refl, some, subst, subst₂, suc, sym, take, take_all, true, zero, ℕ}
pub use Rattle.constraint.proofs.{Judged.never, Sanity.run_once}
pub use Rattle.constraint.specs.Run.{Keeps, Left, Request, Run, asks, done, left_by, none_left, request, request_questions, step_for}
pub use Rattle.constraint.specs.Steps.{Step, at, close}
pub use Rattle.constraint.specs.{Accepted.Accepted, Page.Pages, Promise.ReadsRow, Questions.Judged}
pub use Rattle.constraint.specs.Table.{ReadsTableUpTo, table_of, table_refused}
pub use Rattle.constraint.specs.{Answer.Answer, Answer.Refused, Answer.Taken}
pub use Rattle.constraint.specs.{declared.Call.Call, Constraint.Constraint, declared.Verdict.Verdict}
pub use Rattle.delkuthi.proofs.Hosts.{follows, follows_fresh, untouched_all}
pub use Rattle.delkuthi.proofs.Reports.{begun_with as fresh_holds, reported_as_recorded}
pub use Rattle.delkuthi.specs.Host.{Host, Memory, asked, none_refused, over}
pub use Rattle.delkuthi.specs.{Lent.StepOfVerdict, Lent.word_of}
pub use Rattle.delkuthi.specs.Reporting.{LeftBy, ReportsSteps, unused, used}
pub use Rattle.delkuthi.specs.Taking.{RecordingTakenAs}
pub use Rattle.fresh.specs.Fresh.{Begins, BeginsUpTo, begun, fresh_lent, refused}
pub use Rattle.in_place.proofs.{Blocks.row_read, Lists.SameLists, Lists.lists_stay}
pub use Rattle.in_place.proofs.Parts.{coloured_read, numbers_read, spare_read}
pub use Rattle.in_place.specs.Contract.{HoldsMonitor, Indexes, ReadOff, Takes, answer_from}
pub use Rattle.in_place.specs.{Layout.Lent, Layout.Shaped, Layout.halves, Layout.kept_at, Layout.row_at, Layout.words_of_lent, Steps.leaves}
pub use Rattle.monitor.proofs.Independent.{answers_alike, other_rows_alike, rows_apart}
pub use Rattle.monitor.proofs.Theorem.{monitor_is_exact, struck_out}
pub use Rattle.monitor.specs.Beside.{EachBeside, NoneFull, TakesAll, all_taken}
pub use Rattle.monitor.specs.Contract.{step, step_in}
pub use Rattle.monitor.specs.{Machine.SameBare, Machine.no_row, declared.Monitor.Monitor, Stepped.Stepped}
pub use Rattle.row.specs.{declared.Row.Row}
pub use Rattle.sessions.specs.LentExact.{LentExact, LentExactUpTo, ReadsRecorded, cut, whole}
pub use Rattle.sessions.specs.Monitors.{Monitors, SameButUndo, SameNumbers, SameRow}
pub use Rattle.sessions.specs.{Apart.ReadsAlike, Readers.ReadsAs}
pub use Rattle.queries.specs.Contract.{QueryAnswer}
pub use Rattle.table.proofs.{AcceptedRows.read_accepted, ReadUnique.reads_once}
pub use Rattle.table.specs.ReadAnswer.{ReadAnswer}
unfoldable pub use Rattle.constraint.specs.{Promise.play}
unfoldable pub use Rattle.row_type.specs.Words.{number_words, row_as_words}
unfoldable pub use Rattle.monitor.specs.{Contract.after, Machine.bare, Machine.verdict_of}
unfoldable pub use Rattle.sessions.specs.LentExact.{leaves_all}
