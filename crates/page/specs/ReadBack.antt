-- The lines of a page, and what is read off them (§7.15, §7.18; CR 5).
use Rattle.std.specs.Prelude.{ℕ, suc, ◌+◌, ◌*◌, ◌/◌, ◌<◌, max, ◌≡◌, Bool, true, false, cond, ◌&&◌, List, [], ◌∷◌, ◌++◌, length, take, drop, eqb}
use Rattle.std.proofs.Math.Option.{Option, none, some}
use Rattle.constraint.specs.Steps.{at}
use Rattle.constraint.specs.Report.{blank, line_end, kept_word, broken_word}
use Rattle.constraint.specs.Page.{open_word, page_width, page_group}
use Rattle.constraint.specs.declared.Verdict.{Verdict}
use Rattle.constraint.specs.declared.Verdict.TheVariants.{Open, Kept, Broken}
use Rattle.text.specs.Content.{number_from}

-- §7.15; CR 5: how many lines the page of n rows has: theirs, and one for each 16 or fewer (`page_width_lem`)
abbrev pub lines_of : ℕ → ℕ
lines_of n = n + max 1 ((n + 15) / page_group)

-- §7.15; CR 5: how many bytes (`page_length_lem`)
abbrev pub page_length : ℕ → ℕ
page_length n = 73 * lines_of n

-- §7.15; CR 5: n lines, each of 72 bytes and byte 10
pub data Lines : ℕ → List ℕ → Type 0 where
  no_line : Lines 0 []
  one_more : {n : ℕ} (line later : List ℕ) → length line ≡ page_width → ((k : ℕ) → k < length line → ¬ (at line k ≡ line_end)) → Lines n later
      → Lines (suc n) (line ++ line_end ∷ later)

-- §7.18; CR 5: where row i's line begins: behind the lines of the rows before it, and the headings
abbrev pub line_start : ℕ → ℕ
line_start i = 73 * (i + i / page_group + 1)

-- §7.18; CR 5: the bytes in some columns of row i's line
abbrev pub columns : List ℕ → ℕ → ℕ → ℕ → List ℕ
columns page i from width = take width (drop (line_start i + from) page)

-- §7.18; CR 5: a text up to its first blank
unfoldable pub word_from : List ℕ → List ℕ
word_from [] = []
word_from (byte ∷ later) = cond (eqb byte blank) [] (byte ∷ word_from later)

-- §7.18: the same bytes
unfoldable pub same : List ℕ → List ℕ → Bool
same [] [] = true
same [] (y ∷ ys) = false
same (x ∷ xs) [] = false
same (x ∷ xs) (y ∷ ys) = eqb x y && same xs ys

-- §7.18; CR 5: the verdict of a word and a step; none where it is no verdict's word
abbrev pub verdict_from : List ℕ → ℕ → Option Verdict
verdict_from word step =
    cond (same word open_word) (some Open) (cond (same word kept_word) (some Kept) (cond (same word broken_word) (some (Broken step)) none))

-- §7.18; CR 5: what a row's line says: the row's number, its type's name, its verdict
pub record LineRead : Type 0 where
  pub number : ℕ
  pub name : List ℕ
  pub verdict : Option Verdict

-- §7.18; CR 5: row i's line, by its columns (`page_reads_back`)
unfoldable pub line_read : List ℕ → ℕ → LineRead
line_read page i =
    record {
      number = number_from 0 (columns page i 0 3);
      name = word_from (columns page i 5 24);
      verdict = verdict_from (word_from (columns page i 29 8)) (number_from 0 (columns page i 37 20));
    }
