-- The summary of a monitor, and what a report says of it.
use Rattle.std.specs.Prelude.{ℕ, min, List, map, take, ltb}
use Rattle.constraint.specs.Limits.{row_limit}
use Rattle.constraint.specs.Report.{closed_text, refused_text}
use Rattle.constraint.specs.declared.Verdict.{Verdict}
use Rattle.text.specs.Content.{HoldsText}
use Rattle.text.specs.declared.Text.{Text}
use Rattle.monitor.specs.declared.Monitor.{Monitor}
use Rattle.page.specs.Sheet.{verdict_said}
use Rattle.page.specs.declared.RowSummary.{RowSummary}
use Rattle.page.specs.declared.Summary.{Summary}
use Rattle.row.specs.declared.Row.{Row}
use Rattle.table.specs.ReadAnswer.{ReadAnswer}

-- ---- the summary

-- of a row
abbrev pub row_summary : Row → RowSummary
row_summary r = record { tag = r.parameters.tag; broken = r.now.broken }

-- of a monitor
abbrev pub summary_of : Monitor → Summary
summary_of m = record { rows = map row_summary m.rows; len = m.len; count = m.count; closed = ltb 0 m.closed }

-- what each row reads
abbrev pub verdicts_in : Summary → List Verdict
verdicts_in summary = map (verdict_said summary.closed) (take (min summary.len row_limit) summary.rows)

-- ---- the text

-- §7.4, §7.5: of a recording that was accepted the steps counted and the rows' lines, or the refusal
abbrev pub report_text : ReadAnswer → Summary → List ℕ
report_text ReadAnswer.Accepted summary = closed_text summary.count (verdicts_in summary)
report_text (ReadAnswer.Refused n place) summary = refused_text n place

-- the text holds bytes of which something is said
pub record Tells (Said : List ℕ → Type 0) (text : Text) : Type 0 where
  pub bytes : List ℕ
  pub said : Said bytes
  pub holds : HoldsText text bytes
