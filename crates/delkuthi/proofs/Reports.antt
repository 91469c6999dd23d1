-- The report's text follows from what reading the table and the recording gave, and there is room for all of it.
use Rattle.delkuthi.proofs.Names.{BeginsUpTo, Bool, Call, Constraint, HoldsText, Copied, EachReads, HoldsMonitor, LeftBy, List, Monitor, ReadAnswer}
use Rattle.delkuthi.proofs.Names.{ReadsRecording, ReadsTableUpTo, RecordingTakenAs, ReportOfUpTo, ReportsOf, ReportsOnUpTo, ReportsSteps}
use Rattle.delkuthi.proofs.Names.{ReportsUpTo, RowSummary, Step, Summary, TakesRecords, Text, Verdict, Words, [], ◌*◌, ◌++◌, ◌+◌, ◌<◌, ◌∙◌, ◌∷◌}
use Rattle.delkuthi.proofs.Names.{◌≡◌, ◌≤◌, add-one, after, all_taken_lem, ap, ap₂, arith, asks, at, begun, close, closed_append, closed_close}
use Rattle.delkuthi.proofs.Names.{closed_length, closed_line, closed_text, cond, copied_reports, drop, drop-cons, empty_text, extended}
use Rattle.delkuthi.proofs.Names.{extended_append}
use Rattle.delkuthi.proofs.Names.{false, fresh_lent, holds_all, length, ltb, map, never, no_recording, no_table, over, read_accepted}
use Rattle.delkuthi.proofs.Names.{reads_once, recording_of, refl, refused, refused_length, refused_text, report_limit, report_text}
use Rattle.delkuthi.proofs.Names.{reported, row_of, row_reads, row_line, row_lines, rows_more, rows_room, subst, suc, summary_of, sym, table_of}
use Rattle.delkuthi.proofs.Names.{unclosed}
use Rattle.delkuthi.proofs.Names.{true, unused, used, verdicts_in, words_of_lent, ℕ}
use Rattle.std.specs.Prelude.{Result, Ok, Err, ◌^◌}
use Rattle.constraint.proofs.Refusals.{numbered}
use Rattle.constraint.specs.Answers.{refused_number}
use Rattle.constraint.specs.Report.{no_row_lem}
use Rattle.constraint.specs.declared.RefusedAt.{RefusedAt}
use Rattle.delkuthi.specs.TakingRecords.{taken_number}
use Rattle.fresh.proofs.Refusals.{refused_small}
use Rattle.fresh.specs.Fresh.{table_code}
use Rattle.table.specs.ReadAnswer.{read_answer_of}
use Rattle.delkuthi.proofs.{Hosts.follows_fresh, Taking.took_follows}
use Rattle.delkuthi.proofs.Summaries.{each_summarized, made_follows, verdicts_few}
use Rattle.table.specs.ReadAnswer.{Accepted, Refused}

-- ---- the text

-- the lines of the rows from row i on, behind a text: first that of row i
pub lines_next : (f : RowSummary → Verdict) (l : List RowSummary) (i : ℕ) (text : Text) → i < length l
    → extended (row_lines (i + 1) (map f (drop (i + 1) l))) (extended (row_line i (f (row_of l i))) text)
    ≡ extended (row_lines i (map f (drop i l))) text
lines_next f l i text there =
    rw (
      drop-cons l i (record { tag = 0; broken = 0 }) there,
      rows_more i (f (row_of l i)) (map f (drop (suc i) l)),
      extended_append (row_line i (f (row_of l i))) (row_lines (i + 1) (map f (drop (suc i) l))) text,
      add-one i,
    )

-- §7.4
pub holds_closed : (summary : Summary) (before text : Text) → before ≡ extended (closed_line summary.count) empty_text
    → text ≡ extended (row_lines 0 (verdicts_in summary)) before → HoldsText text (closed_text summary.count (verdicts_in summary))
holds_closed summary before text line lines =
    rw (lines, line, ← extended_append (closed_line summary.count) (row_lines 0 (verdicts_in summary)) empty_text)
    (rw (← closed_append summary.count (verdicts_in summary)) (holds_all (closed_text summary.count (verdicts_in summary))
    (omega (arith, closed_length summary.count (verdicts_in summary) (verdicts_few summary)))))

-- §7.5
pub holds_refusal : (n place : ℕ) (text : Text) → text ≡ extended (refused_text n place) empty_text → HoldsText text (refused_text n place)
holds_refusal n place text e = rw e (holds_all (refused_text n place) (omega (arith, refused_length n place)))

-- ---- what is left by a table and a recording

module _ {newest : ℕ} (table : List ℕ) (before : Words) where
  -- the number 0 says that the monitor was begun
  pub begun_over : (number : ℕ) (words : Words) → BeginsUpTo newest table before number words → number ≡ 0
      → (rows : List Constraint) × ReadsTableUpTo newest table (table_of rows) × HoldsMonitor words (after rows [])
  begun_over number words (begun rows read accepted indexes) e =
      (rows, read, record { lent = fresh_lent rows; words_are = refl; indexes = indexes; monitor_is = refl })
  begun_over number words (refused n place read above below) e = absurd (omega (arith, e, above))

  -- over the rows that the table holds
  pub begun_with : (rows : List Constraint) (words : Words) → ReadsTableUpTo newest table (table_of rows) → BeginsUpTo newest table before 0 words
      → HoldsMonitor words (after rows [])
  begun_with rows words read begins =
      let over = begun_over 0 words begins refl in
      let both = reads_once table over.1 read in
      let same : over.0 ≡ rows = cc in
      subst (λ (r : List Constraint). HoldsMonitor words (after r [])) same over.2

  module _ (recording : List ℕ) where
    pub left_used : (number : ℕ) (words : Words) → BeginsUpTo newest table before number words → number ≡ 0 → (answer : ReadAnswer) (last : Words)
        → TakesRecords words recording answer last → LeftBy newest before table recording answer last
    left_used number words (begun rows read accepted indexes) e answer last takes =
        let fresh = begun rows read accepted indexes in
        used rows answer last read fresh (takes rows accepted (begun_with rows (words_of_lent (fresh_lent rows)) read fresh))
    left_used number words (refused n place read above below) e answer last takes = absurd (omega (arith, e, above))

    -- another number is the refusal's
    unused_by : (number m at : ℕ) (words : Words) → number ≡ at * 256 + m → 0 < m → m < 256 → BeginsUpTo newest table before number words
        → LeftBy newest before table recording (Refused m at) words
    unused_by number m at words e above' below' (begun rows read accepted indexes) = absurd (omega (arith, e, above'))
    unused_by number m at words e above' below' (refused n place read above below) =
        let number_is : n ≡ m = omega (arith, e, below, below') in
        let place_is : place ≡ at = omega (arith, e, below, below') in
        subst (λ (answer : ReadAnswer). LeftBy newest before table recording answer before) (ap₂ Refused number_is place_is) (unused n place read)

    pub left_unused : (refused_at : RefusedAt) (words : Words) → BeginsUpTo newest table before (table_code {T = Unit {0}} (Err refused_at)) words
        → LeftBy newest before table recording (Refused (refused_number refused_at) refused_at.place) words
    left_unused refused_at words begins =
        let small = numbered refused_at.refusal in
        unused_by _ (refused_number refused_at) refused_at.place words refl small.0 (omega (arith, small.1)) begins

  -- the place of a refusal is small, so the number that is answered has it
  small_code : (number : ℕ) (words : Words) → BeginsUpTo newest table before number words → number < 2 ^ 56
  small_code number words (begun rows read accepted indexes) = omega arith
  small_code number words (refused n place read above below) = omega (arith, below, (refused_small table n place read).1)

  pub fresh_number : (taken : Result (Unit {0}) RefusedAt) (words : Words) → BeginsUpTo newest table before (table_code taken) words
      → taken_number (read_answer_of taken) ≡ table_code taken
  fresh_number (Ok x) words begins = refl
  fresh_number (Err refused_at) words begins = omega (arith, small_code _ words begins)

-- ---- the report

-- what is said of the summary is the report: by the answer to the recording
said_of : {newest : ℕ} (table recording : List ℕ) (rows : List Constraint) (answer : ReadAnswer) (calls : List Call)
    → ReadsTableUpTo newest table (table_of rows) → RecordingTakenAs rows recording answer calls
    → ReportOfUpTo newest table recording (report_text answer (summary_of (after rows (map asks calls))))
said_of table recording rows Accepted calls read (steps, reads, taken) =
    let m = after rows (map asks calls) in
    let f = took_follows rows (steps ++ (close ∷ [])) calls (_, read_accepted table rows read) taken in
    rw f.count_is (all_taken_lem rows steps (verdicts_in (summary_of m)) read reads (each_summarized rows (steps ++ (close ∷ [])) m f))
said_of table recording rows (Refused n place) calls read (steps, reads, before, taken) = no_recording rows n place read reads

-- §9.10
pub summary_report : {newest : ℕ} {before after : Words} {table recording : List ℕ} {answer : ReadAnswer} (summary : Summary)
    → LeftBy newest before table recording answer after → ((m : Monitor) → HoldsMonitor after m → summary ≡ summary_of m)
    → ReportOfUpTo newest table recording (report_text answer summary)
summary_report summary (unused n place read) is = no_table n place read
summary_report {before = before} {table = table} {recording = recording} summary (used rows answer end read begins left) is =
    rw (is _ (follows_fresh rows (begun_with table before rows _ read begins) left.host))
    (said_of table recording rows answer left.calls read left.taken)

-- and what is written of it, on a lent monitor
pub reports_on : {newest : ℕ} {before after : Words} {table recording : List ℕ} {answer : ReadAnswer} (summary : Summary)
    {buffer : List ℕ} {number : ℕ} {written : List ℕ} → LeftBy newest before table recording answer after
    → ((m : Monitor) → HoldsMonitor after m → summary ≡ summary_of m)
    → Copied (report_text answer summary) buffer number written → ReportsOnUpTo newest before table recording buffer number written after
reports_on summary {buffer} {number} {written} left is copied =
    record { reports = copied_reports _ _ _ buffer number written (summary_report summary left is) copied; answer = _; left_by = left }

-- a text without bytes is copied by writing nothing
pub copied_none : (before : List ℕ) → Copied [] before 0 before
copied_none before = record { fits = λ fits. (refl, refl); too_short = λ short. absurd (omega arith) }

-- of a monitor that was stepped call by call: before the close nothing is written
pub reports_unclosed : (m : Monitor) (before : List ℕ) → ltb 0 m.closed ≡ false → ReportsOf m before 0 before
reports_unclosed m before not_yet =
    record {
      equals = rw not_yet (copied_none before);
      means = λ rows requests accepted made.
          let a = made_follows rows requests accepted made in (a.0, a.1, unclosed (sym a.2.closed_is ∙ not_yet));
    }

pub reports_closed : (m : Monitor) (before : List ℕ) (answer : ℕ) (written : List ℕ) → ltb 0 m.closed ≡ true
    → Copied (report_text Accepted (summary_of m)) before answer written → ReportsOf m before answer written
reports_closed m before answer written shut copied =
    record {
      equals = subst (λ (b : Bool). Copied (cond b (report_text Accepted (summary_of m)) []) before answer written) (sym shut) copied;
      means = λ rows requests accepted made.
          let a = made_follows rows requests accepted made in
          let f = a.2 in (
            a.0,
            a.1,
            reported (verdicts_in (summary_of m)) (sym f.closed_is ∙ shut) (each_summarized rows a.0.steps m f)
                (rw f.count_is at copied),
          );
    }

-- which is that of a recording of the same steps
pub reported_as_recorded : {newest : ℕ} (table recording : List ℕ) (rows : List Constraint) (steps : List Step) (buffer : List ℕ) (number : ℕ)
    (written : List ℕ) → ReadsTableUpTo newest table (table_of rows) → ReadsRecording rows recording (recording_of steps)
    → ReportsSteps rows (steps ++ (close ∷ [])) buffer number written → ReportsUpTo newest table recording buffer number written
reported_as_recorded table recording rows steps buffer number written read taken (unclosed still) = let shut = closed_close steps in never (cc)
reported_as_recorded table recording rows steps buffer number written read taken (reported verdicts shut each copied) =
    copied_reports table recording (closed_text (length (steps ++ (close ∷ []))) verdicts) buffer number written
    (all_taken_lem rows steps verdicts read taken each) copied

-- each row has a verdict
each_length : {steps : List Step} {rows : List Constraint} {verdicts : List Verdict} → EachReads steps rows verdicts → length verdicts ≡ length rows
each_length no_row_lem = refl
each_length (row_reads reads later) = ap suc (each_length later)

-- §7.9: a report has at most 1,024 bytes
pub report_length : {newest : ℕ} (table recording text : List ℕ) → ReportOfUpTo newest table recording text → length text ≤ report_limit
report_length table recording text (no_table n place read) = refused_length n place
report_length table recording text (no_recording rows n place read reads) = refused_length n place
report_length table recording text (all_taken_lem rows accepted verdicts read reads each) =
    closed_length (length (accepted ++ (close ∷ []))) verdicts
    (omega (arith, each_length each, rows_room (at table 0) 0 rows (omega arith) (read_accepted table rows read)))
