-- The lines of a report, each by itself.
use Rattle.std.specs.Prelude.{ℕ, List, [], ◌∷◌, ◌++◌}
use Rattle.constraint.specs.Report.{decimal, blank, line_end, closed_word, verdict_text}
use Rattle.constraint.specs.declared.Verdict.{Verdict}

-- §7.4: the number of steps
abbrev pub closed_line : ℕ → List ℕ
closed_line count = closed_word ++ blank ∷ decimal count ++ line_end ∷ []

-- §7.4: a row's line, its number and its verdict
abbrev pub row_line : ℕ → Verdict → List ℕ
row_line i verdict = decimal i ++ blank ∷ verdict_text verdict ++ line_end ∷ []
