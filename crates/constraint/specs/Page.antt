-- The printed page (§7.14 to §7.19; CR 5).
use Rattle.std.specs.Prelude.{ℕ, zero, suc, ◌-◌, ◌%◌, ◌≤◌, ◌<◌, cond, List, [], ◌∷◌, ◌++◌, map, length, get_or, drop, replicate, eqb}
use Rattle.constraint.specs.Steps.{Step, at}
use Rattle.constraint.specs.Types.{type_of, unknown_name, type_names}
use Rattle.constraint.specs.Report.{decimal, blank, line_end, kept_word, broken_word, EachReads}
use Rattle.constraint.specs.Constraint.{Constraint}
use Rattle.constraint.specs.declared.Verdict.{Verdict}
use Rattle.constraint.specs.declared.Verdict.TheVariants.{Open, Kept, Broken}

-- ---- a line

-- §7.16; CR 5: text left-aligned in a width, with blanks after it
abbrev pub left_in : ℕ → List ℕ → List ℕ
left_in width text = text ++ replicate (width - length text) blank

-- §7.16; CR 5: text right-aligned in a width, with blanks before it
abbrev pub right_in : ℕ → List ℕ → List ℕ
right_in width text = replicate (width - length text) blank ++ text

-- §7.16; CR 5: the name of a type
abbrev pub name_of : ℕ → List ℕ
name_of type = get_or type_names type unknown_name

-- §7.16; CR 5: the word open, beside the report's kept and broken
abbrev pub open_word : List ℕ
open_word = 111 ∷ 112 ∷ 101 ∷ 110 ∷ []

-- §7.16; CR 5: the word for a verdict
abbrev pub verdict_word : Verdict → List ℕ
verdict_word Open = open_word
verdict_word Kept = kept_word
verdict_word (Broken n) = broken_word

-- §7.16; CR 5: the step that broke the row; no text for any other verdict
abbrev pub step_text : Verdict → List ℕ
step_text Open = []
step_text Kept = []
step_text (Broken n) = decimal n

-- §7.15; CR 5: the number of bytes in a line, without its end
abbrev pub page_width : ℕ
page_width = 72

-- §7.16; CR 5: the columns of a row's line: the number right-aligned in 3, two blanks, the name left-aligned in 24, the verdict left-aligned in 8,
-- the step right-aligned in 20, and blanks up to 72
unfoldable pub line_text : ℕ → ℕ → Verdict → List ℕ
line_text i type v =
    left_in page_width
    (right_in 3 (decimal i) ++ replicate 2 blank ++ left_in 24 (name_of type) ++ left_in 8 (verdict_word v) ++ right_in 20 (step_text v))

-- §7.15; CR 5: a row's line with its end
abbrev pub page_line : ℕ → ℕ → Verdict → List ℕ
page_line i type v = line_text i type v ++ line_end ∷ []

-- ---- the page

-- §7.17; CR 5: a heading: 72 hyphens
unfoldable pub hyphens : List ℕ
hyphens = replicate page_width 45 ++ line_end ∷ []

-- §7.17; CR 5: the number of rows under one heading
abbrev pub page_group : ℕ
page_group = 16

-- §7.17; CR 5: the text before row i's line: a heading before every sixteenth row, starting with row 0
abbrev pub heading : ℕ → List ℕ
heading i = cond (eqb (i % page_group) 0) hyphens []

-- §7.17; CR 5: the lines of the first n rows. `types` and `verdicts` give each row's type and verdict by its number
unfoldable pub page_lines : (ℕ → ℕ) → (ℕ → Verdict) → ℕ → List ℕ
page_lines types verdicts zero = []
page_lines types verdicts (suc i) = page_lines types verdicts i ++ heading i ++ page_line i (types i) (verdicts i)

-- §7.14, §7.17; CR 5: the page of n rows. With no rows it is one heading
abbrev pub page_text : (ℕ → ℕ) → (ℕ → Verdict) → ℕ → List ℕ
page_text types verdicts zero = hyphens
page_text types verdicts (suc n) = page_lines types verdicts (suc n)

-- ---- the call

-- §7.14: the i-th verdict, counted from 0
abbrev pub verdict_at : List Verdict → ℕ → Verdict
verdict_at verdicts i = get_or verdicts i Open

-- §7.14; CR 5: the page of a table's rows: what each reads after the steps, closed or not
pub data PageOf (rows : List Constraint) (steps : List Step) : List ℕ → Type 0 where
  page_of : (verdicts : List Verdict) → EachReads steps rows verdicts
      → PageOf rows steps (page_text (at (map type_of rows)) (verdict_at verdicts) (length rows))

-- §7.19; CR 5: the answer is the page's length, and bytes after the page stay. If the buffer is too short, the answer is 0 and nothing is written
pub data Pages (rows : List Constraint) (steps : List Step) (before : List ℕ) : ℕ → List ℕ → Type 0 where
  page_written : (page : List ℕ) → PageOf rows steps page → length page ≤ length before
      → Pages rows steps before (length page) (page ++ drop (length page) before)
  page_too_short : (page : List ℕ) → PageOf rows steps page → length before < length page → Pages rows steps before 0 before
