-- What the page of a summary is, and what the parts of its text are.
use Rattle.std.specs.Prelude.{ℕ, ◌+◌, min, ◌≡◌, Bool, cond, List, length, get_or, ltb}
use Rattle.std.proofs.lemmas.List.Edits.{sets}
use Rattle.constraint.specs.Limits.{row_limit}
use Rattle.constraint.specs.Page.{page_text, heading}
use Rattle.constraint.specs.declared.Verdict.{Verdict}
use Rattle.constraint.specs.declared.Verdict.TheVariants.{Open, Kept, Broken}
use Rattle.page.specs.declared.RowSummary.{RowSummary}
use Rattle.page.specs.declared.Summary.{Summary}

-- the verdict of a row: broken at a step or (0) not broken, closed or not
abbrev pub verdict_if : Bool → ℕ → Verdict
verdict_if closed step = cond (ltb 0 step) (Broken step) (cond closed Kept Open)

-- the same by the number that marks the close
abbrev pub verdict_for : ℕ → ℕ → Verdict
verdict_for closed step = verdict_if (ltb 0 closed) step

-- the verdict of a row of which something is said
abbrev pub verdict_said : Bool → RowSummary → Verdict
verdict_said closed row = verdict_if closed row.broken

-- what is said of row i
abbrev pub row_of : List RowSummary → ℕ → RowSummary
row_of rows i = get_or rows i (record { tag = 0; broken = 0 })

-- the type of row i
abbrev pub types_of : List RowSummary → ℕ → ℕ
types_of rows i = (row_of rows i).tag

-- the verdict of row i
abbrev pub verdicts_of : Bool → List RowSummary → ℕ → Verdict
verdicts_of closed rows i = verdict_said closed (row_of rows i)

-- the page's bytes; it has no more than 32 rows
abbrev pub text_of : Summary → List ℕ
text_of summary = page_text (types_of summary.rows) (verdicts_of summary.closed summary.rows) (min summary.len row_limit)

-- the heading of a row, if it has one, put at a place of a buffer; the answer is the place behind it
pub record Headed (before : List ℕ) (place i answer : ℕ) (after : List ℕ) : Type 0 where
  pub stored : after ≡ sets before place (heading i)
  pub behind : answer ≡ place + length (heading i)
