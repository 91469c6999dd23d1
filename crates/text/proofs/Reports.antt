-- A report's text line by line, its length, and what copying it out says of the report.
use Rattle.constraint.proofs.Library.{List, [], ◌*◌, ◌++◌, ◌+◌, ◌<◌, ◌∷◌, ◌≡◌, ◌≤◌, add-zero, ap, append_assoc, arith, dec_lt, length, length-append}
use Rattle.constraint.proofs.Library.{suc, ℕ}
use Rattle.constraint.specs.Report.{ReportOfUpTo, ReportsUpTo, closed_text, refused_text, row_lines, too_short, verdict_text, written}
use Rattle.constraint.specs.declared.Verdict.TheVariants.{Broken, Kept, Open}
use Rattle.constraint.specs.{Limits.row_limit, declared.Verdict.Verdict}
use Rattle.text.proofs.Decimals.{decimal_few, decimal_length}
use Rattle.text.specs.{Content.Copied, Lines.closed_line, Lines.row_line}

-- Line by line

-- the first row's line, and those of the rows behind it
pub rows_more : (i : ℕ) (v : Verdict) (later : List Verdict) → row_lines i (v ∷ later) ≡ row_line i v ++ row_lines (i + 1) later
unfolding row_lines
rows_more i v later = simp append_assoc

-- the lines of some rows, and those of the rows behind them
pub rows_append : (i : ℕ) (first later : List Verdict) → row_lines i (first ++ later) ≡ row_lines i first ++ row_lines (i + length first) later
unfolding row_lines
rows_append i [] later = rw add-zero
rows_append i (v ∷ first) later =
    let next : i + 1 + length first ≡ i + suc (length first) = omega arith in
    rw (rows_append (i + 1) first later, next) (simp append_assoc)

pub closed_append : (count : ℕ) (verdicts : List Verdict) → closed_text count verdicts ≡ closed_line count ++ row_lines 0 verdicts
closed_append count verdicts = simp append_assoc

-- Its length

verdict_length : (v : Verdict) → length (verdict_text v) ≤ 27
verdict_length Open = omega arith
verdict_length Kept = omega arith
verdict_length (Broken n) = omega (arith, decimal_length n)

row_length : (i : ℕ) (v : Verdict) → i < row_limit → length (row_line i v) ≤ 31
row_length i v few = simp length-append (omega (arith, decimal_few 1 i (omega arith), verdict_length v))

rows_length : (i : ℕ) (verdicts : List Verdict) → i + length verdicts ≤ row_limit → length (row_lines i verdicts) ≤ 31 * length verdicts
unfolding row_lines
rows_length i [] few = omega arith
rows_length i (v ∷ verdicts) few =
    omega (
      arith,
      ap length (rows_more i v verdicts),
      length-append (row_line i v) (row_lines (i + 1) verdicts),
      row_length i v (omega arith),
      rows_length (i + 1) verdicts (omega arith),
    )

-- the longest report
abbrev pub report_limit : ℕ
report_limit = 1024

pub closed_length : (count : ℕ) (verdicts : List Verdict) → length verdicts ≤ row_limit → length (closed_text count verdicts) ≤ report_limit
closed_length count verdicts few = simp length-append (omega (arith, decimal_length count, rows_length 0 verdicts (omega arith)))

pub refused_length : (n place : ℕ) → length (refused_text n place) ≤ report_limit
refused_length n place = simp length-append (omega (arith, decimal_length n, decimal_length place))

-- Copied out

-- a report's text that is copied to a buffer is reported
pub copied_reports : {newest : ℕ} (table recording text before : List ℕ) (answer : ℕ) (after : List ℕ)
    → ReportOfUpTo newest table recording text → Copied text before answer after → ReportsUpTo newest table recording before answer after
copied_reports {newest} table recording text before answer after report copied = go (dec_lt (length before) (length text))
  where
    go : Dec (length before < length text) → ReportsUpTo newest table recording before answer after
    go (yes short) = rw ((copied.too_short short).0, (copied.too_short short).1) (too_short text report short)
    go (no long) =
        let fits : length text ≤ length before = omega arith in
        rw ((copied.fits fits).0, (copied.fits fits).1) (written text report fits)
