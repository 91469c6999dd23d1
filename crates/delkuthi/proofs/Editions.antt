-- §16.6: of a table of the first edition the calls for both editions promise just what those for the first do, since they read it alike.
use Rattle.delkuthi.proofs.Names.{AnswersStampsUpTo, Begins, BeginsUpTo, LeftBy, List, NumbersStamps, NumbersStampsUpTo, ReadAnswer}
use Rattle.delkuthi.proofs.Names.{ReadsTableUpTo, ReportOfUpTo, Reports, ReportsOn, ReportsOnUpTo, ReportsUpTo, StampedAnswer, TableRead}
use Rattle.delkuthi.proofs.Names.{Words, ◌↔◌, ◌≡◌, ◌≤◌, after, all_taken_lem, arith, at, begun, no_recording, no_table, reads_same, refused}
use Rattle.delkuthi.proofs.Names.{unused, used, ℕ}
use Rattle.constraint.specs.Report.{too_short, written}
use Rattle.constraint.specs.Stamps as Stamps

module _ (one other : ℕ) (table : List ℕ) (known : at table 0 ≤ one) (known' : at table 0 ≤ other) where
  same : {read : TableRead} → ReadsTableUpTo one table read → ReadsTableUpTo other table read
  same = reads_same one other table known known'

  begins_same : {entry : Words} {number : ℕ} {exit : Words} → BeginsUpTo one table entry number exit → BeginsUpTo other table entry number exit
  begins_same (begun rows read accepted indexes) = begun rows (same read) accepted indexes
  begins_same (refused n place read above below) = refused n place (same read) above below

  text_same : {recording text : List ℕ} → ReportOfUpTo one table recording text → ReportOfUpTo other table recording text
  text_same (no_table n place read) = no_table n place (same read)
  text_same (no_recording rows n place read records) = no_recording rows n place (same read) records
  text_same (all_taken_lem rows accepted verdicts read records each) = all_taken_lem rows accepted verdicts (same read) records each

  reports_same : {recording before : List ℕ} {number : ℕ} {after : List ℕ} → ReportsUpTo one table recording before number after
      → ReportsUpTo other table recording before number after
  reports_same (written text report room) = written text (text_same report) room
  reports_same (too_short text report short) = too_short text (text_same report) short

  left_same : {before : Words} {recording : List ℕ} {answer : ReadAnswer} {after : Words} → LeftBy one before table recording answer after
      → LeftBy other before table recording answer after
  left_same (unused n place read) = unused n place (same read)
  left_same (used rows answer after read begins left) = used rows answer after (same read) (begins_same begins) left

  on_same : {before : Words} {recording buffer : List ℕ} {number : ℕ} {text : List ℕ} {after : Words}
      → ReportsOnUpTo one before table recording buffer number text after → ReportsOnUpTo other before table recording buffer number text after
  on_same on = record { reports = reports_same on.reports; answer = on.answer; left_by = left_same on.left_by }

  stamps_same : {recording : List ℕ} {i e : ℕ} {answer : StampedAnswer} → Stamps.AnswersStampsUpTo one table recording i e answer
      → Stamps.AnswersStampsUpTo other table recording i e answer
  stamps_same (Stamps.no_table n place read) = Stamps.no_table n place (same read)
  stamps_same (Stamps.no_recording rows n place read records) = Stamps.no_recording rows n place (same read) records
  stamps_same (Stamps.not_asked rows steps n read records judged) = Stamps.not_asked rows steps n (same read) records judged
  stamps_same (Stamps.reads rows steps k lower upper v read records row small says) =
      Stamps.reads rows steps k lower upper v (same read) records row small says

  numbers_same : {recording : List ℕ} {i e number : ℕ} → NumbersStampsUpTo one table recording i e number
      → NumbersStampsUpTo other table recording i e number
  numbers_same numbers =
      record { answer = numbers.answer; answers = stamps_same numbers.answers; equals = numbers.equals; small = numbers.small }

-- the calls that make a monitor fresh, report, and judge late stamps
module _ (table : List ℕ) (first : at table 0 ≡ 1) where
  to_1 : at table 0 ≤ 1
  to_1 = omega (arith, first)

  to_2 : at table 0 ≤ 2
  to_2 = omega (arith, first)

  -- §16.6
  pub fresh_as_before : (entry : Words) (number : ℕ) (exit : Words) → BeginsUpTo 2 table entry number exit ↔ Begins table entry number exit
  fresh_as_before entry number exit = (begins_same 2 1 table to_2 to_1, begins_same 1 2 table to_1 to_2)

  -- §16.6
  pub report_as_before : (recording before : List ℕ) (number : ℕ) (after : List ℕ)
      → ReportsUpTo 2 table recording before number after ↔ Reports table recording before number after
  report_as_before recording before number after = (reports_same 2 1 table to_2 to_1, reports_same 1 2 table to_1 to_2)

  -- §16.6
  pub report_on_as_before : (before : Words) (recording buffer : List ℕ) (number : ℕ) (text : List ℕ) (after : Words)
      → ReportsOnUpTo 2 before table recording buffer number text after ↔ ReportsOn before table recording buffer number text after
  report_on_as_before before recording buffer number text after = (on_same 2 1 table to_2 to_1, on_same 1 2 table to_1 to_2)

  -- §16.6
  pub stamps_as_before : (recording : List ℕ) (i e number : ℕ)
      → NumbersStampsUpTo 2 table recording i e number ↔ NumbersStamps table recording i e number
  stamps_as_before recording i e number = (numbers_same 2 1 table to_2 to_1, numbers_same 1 2 table to_1 to_2)
