-- What the program prints (§7.10, §8.17; 01, report).
use Rattle.std.specs.Prelude.{ℕ, ◌≤◌, List, length}
use Rattle.constraint.specs.Report.{refused_text, ReportOf}

-- §8.17; 01, questions: how many bytes the program's table has at most
abbrev pub table_size_limit : ℕ
table_size_limit = 2048

-- §8.17; 01, questions: and its recording
abbrev pub recording_size_limit : ℕ
recording_size_limit = 61440

-- §7.10, §8.17, §9.9; 01, report: what the program prints; 17 (§8.17) with the place 0
pub data Prints (table recording : List ℕ) : List ℕ → Type 0 where
  too_large : ¬ ((length table ≤ table_size_limit) × (length recording ≤ recording_size_limit)) → Prints table recording (refused_text 17 0)
  fits : {text : List ℕ} → length table ≤ table_size_limit → length recording ≤ recording_size_limit → ReportOf table recording text
      → Prints table recording text
