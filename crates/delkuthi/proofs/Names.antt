-- The names of the definitions and laws below this crate that its proofs use, passed on from one place.
pub use Rattle.constraint.proofs.Judged.{failed, judged_all, judged_no, judged_none, judged_once, judged_parts, judged_yes, never, passed}
pub use Rattle.constraint.proofs.Library.{Bool, List, List·getD-map, Option, [], ◌&&◌, ◌*◌, ◌++◌, ◌+◌, ◌-◌, ◌<◌, ◌↔◌, ◌∙◌, ◌∷◌, ◌≡◌, ◌≤◌}
pub use Rattle.constraint.proofs.Library.{add-one, ap, append-nil, append_snoc, ap₂, arith, by_cases, cond, dec_lt, drop, drop-cons}
pub use Rattle.constraint.proofs.Library.{drop_of_length-le}
pub use Rattle.constraint.proofs.Library.{eqb, eqb-true, false, get_or, inl, inr, length, length-append, length-map}
pub use Rattle.constraint.proofs.Library.{length-take, length-take-le, lt-ltb, ltb, ltb-true, map, min}
pub use Rattle.constraint.proofs.Library.{none, refl, replicate, set, set_at, some, subst, suc, sym, take, take_all, take-suc, true, zero, ℕ}
pub use Rattle.constraint.proofs.{Accepted.rows_room, Accepted.rows_then, Editions.reads_same, History.Valid, History.closed_close, History.count_of}
pub use Rattle.constraint.proofs.{History.valid_none, Lists.both, Lists.get_d_within, Lists.split, Runs.run_valid, Sanity.run_once}
pub use Rattle.constraint.specs.Continuation.{Reads, reads_broken, reads_kept, reads_open}
pub use Rattle.constraint.specs.Joined.{AnswersJoin, in_common, no_first, no_second, too_short, written}
pub use Rattle.constraint.specs.Page.{PageOf, Pages, name_of, page_of, page_too_short, page_written, page_text, verdict_at}
pub use Rattle.constraint.specs.Recording.{ReadsInOrder, ReadsRecording, ReadsRecords, RecordAt, RecordingRead, VersionKnown, call_at, no_more}
pub use Rattle.constraint.specs.Recording.{record_refused, record_taken, recording_of, recording_refused, version_refused, version_taken}
pub use Rattle.constraint.specs.Report.{EachReads, ReportOfUpTo, Reports, ReportsUpTo, all_taken_lem, closed_text, no_recording, no_table}
pub use Rattle.constraint.specs.Report.{refused_text}
pub use Rattle.constraint.specs.Report.{row_reads}
pub use Rattle.constraint.specs.Run.{Left, Request, asks, done, step_for}
pub use Rattle.constraint.specs.Stamps.{AnswersStampsUpTo, RepeatRow, not_asked, stamps_questions}
pub use Rattle.constraint.specs.Table.{ReadsRows, ReadsTableUpTo, TableRead, body_at, row_body, row_bytes, row_then, table_of, table_refused}
pub use Rattle.constraint.specs.Table.{writer_questions}
pub use Rattle.constraint.specs.{Accepted.Accepted, Accepted.row_questions_in, Bytes.Bytes, Limits.last_count, Limits.row_limit, Promise.ReadsRow}
pub use Rattle.constraint.specs.{Promise.no_row_lem, Promise.row}
pub use Rattle.constraint.specs.{Questions.Question, Steps.Step, Steps.at, Steps.close, Types.last_type, Types.type_of, Answer.Answer}
pub use Rattle.constraint.specs.{Answer.Refused, Answer.Taken, declared.Call.Call}
pub use Rattle.constraint.specs.{Constraint.Constraint, Constraint.Repeat, Joined.JoinAnswer}
pub use Rattle.constraint.specs.{Stamps.StampedAnswer, declared.Verdict.Verdict}
pub use Rattle.delkuthi.specs.Decoded.{Decodes, join_rest, join_second, number_in, read_refusal, read_rest, rest_in, second_in, stamped_refusal}
pub use Rattle.delkuthi.specs.Decoded.{stamped_rest, table_rest, told_of}
pub use Rattle.delkuthi.specs.Lent.{KnownWord, NumberOfRows, NumberOfVerdict, StepOfVerdict, WordOfVerdict, word_of}
pub use Rattle.delkuthi.specs.Host.{Host, Memory, Untouched, asked, none_refused, over}
pub use Rattle.delkuthi.specs.Printed.{WritesPage, broken_in, printed, printed_rows, type_in}
pub use Rattle.delkuthi.specs.Reporting.{LeftBy, ReportsOf, ReportsOn, ReportsOnUpTo, ReportsSteps, reported, unclosed, unused, used}
pub use Rattle.delkuthi.specs.Taking.{RecordingLeaves, RecordingTakenAs, StepsBefore, TakesRecords, at_first, at_version, behind}
pub use Rattle.delkuthi.specs.{Joining.NumbersJoin, Joining.join_number, Joining.join_questions, Joining.join_refusal, Program.fits}
pub use Rattle.delkuthi.specs.{Program.too_large, Stamps.NumbersStamps, Stamps.NumbersStampsUpTo, Stamps.stamped_number}
pub use Rattle.delkuthi.specs.{Summary.report_text, Summary.row_summary, Summary.summary_of, Summary.verdicts_in, Tables.MakesTableIn}
pub use Rattle.delkuthi.specs.{Tables.table_number}
pub use Rattle.fresh.specs.Fresh.{Begins, BeginsUpTo, begun, fresh_lent, refused}
pub use Rattle.in_place.proofs.{Blocks.row_lies, Laws.takes_of, Parts.number_at}
pub use Rattle.in_place.specs.Layout.{Lent, Shaped, Words, held_rows, kept_at, row_at, words_of_lent}
pub use Rattle.in_place.specs.{Contract.HoldsMonitor, Contract.ReadOff, Contract.Takes, Contract.answer_from, Contract.stepped_from, Steps.leaves}
pub use Rattle.row_type.proofs.FieldNumbers.{tag_is}
pub use Rattle.monitor.proofs.Withdrawing.{after_call, after_follows, remains_follows, takes_more}
pub use Rattle.monitor.proofs.{Demand.has_row, FittingRows.FitRows, FittingRows.fit_reads, StepRefinement.Follows, RowVerdicts.place_small}
pub use Rattle.monitor.proofs.{RowVerdicts.verdict_kept}
pub use Rattle.monitor.specs.Contract.{Reading, Remains, Steps, result_of, step, step_in, verdict_in}
pub use Rattle.monitor.specs.{Beside.TakesAll, Beside.all_taken, Machine.no_row, Parts.place_of, Parts.verdict_by}
pub use Rattle.monitor.specs.{declared.Monitor.Monitor, Stepped.RowVerdict, Stepped.Stepped}
pub use Rattle.page.proofs.{Pages.same_rows, ReadBack.StepFits, ReadBack.equal_pages, ReadBack.page_reads_back}
pub use Rattle.page.specs.Sheet.{row_of, text_of, types_of, verdict_for, verdict_said, verdicts_of}
pub use Rattle.page.specs.{ReadBack.line_read, declared.RowSummary.RowSummary, declared.Summary.Summary}
pub use Rattle.recording.proofs.Records.{record_judged, record_refused as record-not-there, unclosed_more}
pub use Rattle.recording.specs.{Record.CallAt}
pub use Rattle.row.proofs.{EveryType.every_type_exact, Steps.fits_reads}
pub use Rattle.row.specs.declared.Row.{Row}
pub use Rattle.stamps.proofs.{Agreement.order_once, Agreement.stamped_of, Agreement.stamps_agree, Answers.within}
pub use Rattle.table.proofs.{AcceptedRows.read_accepted, RoundTripCode.raw_read, ReadUnique.reads_once, RawRoundTrip.raw_write}
pub use Rattle.table_row.proofs.{Accepting.write_then_read as write-back, Judging.row_bytes_long, Lines.known_short}
pub use Rattle.table.specs.Raw.{FirstRefused, RawRows, WritesRaw, all_read, raw_size, stopped_at}
pub use Rattle.table.specs.{Writing.Writes, Writing.answer_in, ReadAnswer.ReadAnswer, WriteAnswer.WriteAnswer}
pub use Rattle.text.proofs.Reports.{closed_append, closed_length, copied_reports, refused_length, report_limit, rows_more}
pub use Rattle.text.proofs.Texts.{extended_append, holds_all}
pub use Rattle.text.specs.{Content.Copied, Content.HoldsText, Content.empty_text, Lines.closed_line, Lines.row_line, declared.Text.Text}
unfoldable pub use Rattle.constraint.specs.{Accepted.rows_questions, Promise.play, Questions.Judged, Recording.record_questions, Report.row_lines}
unfoldable pub use Rattle.constraint.specs.{Run.questions, Steps.closed, Table.place_questions, Table.rows_bytes, Table.table_bytes_in}
unfoldable pub use Rattle.row_type.specs.Words.{number_words, row_as_words}
unfoldable pub use Rattle.monitor.specs.{Contract.after, Machine.verdict_of}
unfoldable pub use Rattle.row.specs.Machine.{row_verdict}
unfoldable pub use Rattle.text.specs.Content.{extended}
