-- The report's bytes (§7.3 to §7.8; 01, recording and report).
use Rattle.std.specs.Prelude.{ℕ, zero, suc, ◌+◌, ◌/◌, ◌%◌, ◌≤◌, ◌<◌, cond, List, [], ◌∷◌, ◌++◌, length, drop, ltb}
use Rattle.constraint.specs.Steps.{Step, close}
use Rattle.constraint.specs.Continuation.{Reads}
use Rattle.constraint.specs.Table.{ReadsTableUpTo, table_of, table_refused}
use Rattle.constraint.specs.Recording.{ReadsRecording, recording_of, recording_refused}
use Rattle.constraint.specs.Constraint.{Constraint}
use Rattle.constraint.specs.declared.Verdict.{Verdict}
use Rattle.constraint.specs.declared.Verdict.TheVariants.{Open, Kept, Broken}

-- §7.7; 01, report: the decimal digits of a number below 10 ^ n
unfoldable pub digits : ℕ → ℕ → List ℕ
digits zero x = []
digits (suc n) x = cond (ltb x 10) [] (digits n (x / 10)) ++ ((48 + x % 10) ∷ [])

-- §7.7; 01, report: a number in ASCII, without leading zeros. Every number in a report is below 10 ^ 20
abbrev pub decimal : ℕ → List ℕ
decimal x = digits 20 x

-- §7.7; 01, report: the byte between the parts of a line
abbrev pub blank : ℕ
blank = 32

-- §7.7; 01, report: the byte at the end of a line
abbrev pub line_end : ℕ
line_end = 10

-- §7.4; 01, report: the word closed
abbrev pub closed_word : List ℕ
closed_word = 99 ∷ 108 ∷ 111 ∷ 115 ∷ 101 ∷ 100 ∷ []

-- §7.4; 01, report: the word kept
abbrev pub kept_word : List ℕ
kept_word = 107 ∷ 101 ∷ 112 ∷ 116 ∷ []

-- §7.4; 01, report: the word broken
abbrev pub broken_word : List ℕ
broken_word = 98 ∷ 114 ∷ 111 ∷ 107 ∷ 101 ∷ 110 ∷ []

-- §7.5; 01, report: the word refused
abbrev pub refused_word : List ℕ
refused_word = 114 ∷ 101 ∷ 102 ∷ 117 ∷ 115 ∷ 101 ∷ 100 ∷ []

-- §7.4; 01, report: kept, or broken and the step. After the close no row is open
abbrev pub verdict_text : Verdict → List ℕ
verdict_text Open = []
verdict_text Kept = kept_word
verdict_text (Broken n) = broken_word ++ blank ∷ decimal n

-- §7.4; 01, report: a line for each row: its number and its verdict
unfoldable pub row_lines : ℕ → List Verdict → List ℕ
row_lines i [] = []
row_lines i (v ∷ verdicts) = decimal i ++ blank ∷ verdict_text v ++ line_end ∷ row_lines (i + 1) verdicts

-- §7.4; 01, report: the report on an accepted recording: the number of steps, then the rows' lines
abbrev pub closed_text : ℕ → List Verdict → List ℕ
closed_text count verdicts = closed_word ++ blank ∷ decimal count ++ line_end ∷ row_lines 0 verdicts

-- §7.5; 01, report: the report on a refusal: its number and its place
abbrev pub refused_text : ℕ → ℕ → List ℕ
refused_text n place = refused_word ++ blank ∷ decimal n ++ blank ∷ decimal place ++ line_end ∷ []

-- §2.4 to §2.6, §7.4, §7.14; 01, time: what each row reads
pub data EachReads (after : List Step) : List Constraint → List Verdict → Type 0 where
  no_row_lem : EachReads after [] []
  row_reads : {c : Constraint} {rows : List Constraint} {v : Verdict} {verdicts : List Verdict} → Reads c after v → EachReads after rows verdicts
      → EachReads after (c ∷ rows) (v ∷ verdicts)

-- §7.3, §9.10; 01, report: the report's text, if the call takes tables up to the edition `newest`
pub data ReportOfUpTo (newest : ℕ) (table recording : List ℕ) : List ℕ → Type 0 where
  no_table : (n place : ℕ) → ReadsTableUpTo newest table (table_refused n place) → ReportOfUpTo newest table recording (refused_text n place)
  no_recording : (rows : List Constraint) (n place : ℕ) → ReadsTableUpTo newest table (table_of rows)
      → ReadsRecording rows recording (recording_refused n place) → ReportOfUpTo newest table recording (refused_text n place)
  all_taken_lem : (rows : List Constraint) (accepted : List Step) (verdicts : List Verdict) → ReadsTableUpTo newest table (table_of rows)
      → ReadsRecording rows recording (recording_of accepted) → EachReads (accepted ++ (close ∷ [])) rows verdicts
      → ReportOfUpTo newest table recording (closed_text (length (accepted ++ (close ∷ []))) verdicts)

-- §7.8, §16.3; 01, report: the answer, and what the buffer holds afterwards
pub data ReportsUpTo (newest : ℕ) (table recording before : List ℕ) : ℕ → List ℕ → Type 0 where
  written : (text : List ℕ) → ReportOfUpTo newest table recording text → length text ≤ length before
      → ReportsUpTo newest table recording before (length text) (text ++ drop (length text) before)
  too_short : (text : List ℕ) → ReportOfUpTo newest table recording text → length before < length text
      → ReportsUpTo newest table recording before 0 before

-- §7.3, §7.9, §9.10; 01, report: the report's text for a table of the first edition
abbrev pub ReportOf : List ℕ → List ℕ → List ℕ → Type 0
ReportOf = ReportOfUpTo 1

-- §7.3, §7.8; 01, report: the answer and the buffer for a table of the first edition
abbrev pub Reports : List ℕ → List ℕ → List ℕ → ℕ → List ℕ → Type 0
Reports = ReportsUpTo 1
