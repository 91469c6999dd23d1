-- The page line after line: row i's line stands behind i lines and a heading for each 16 of them, so its place and the page's length follow from the
-- number of rows alone; and each line has 72 bytes, none of them a line end.
use Rattle.constraint.proofs.Library.{List, [], ◌%◌, ◌*◌, ◌++◌, ◌+◌, ◌-◌, ◌/◌, ◌<◌, ◌∙◌, ◌∷◌, ◌≡◌, ◌≤◌, add-one, ap, append_assoc, append-nil, arith}
use Rattle.constraint.proofs.Library.{by_cases, cond, dec_lt, eqb, eqb-false, eqb-true, get_or-replicate, get_or-take, length, length-append}
use Rattle.constraint.proofs.Library.{length-take-le, min, refl, replicate}
use Rattle.constraint.proofs.Library.{sets, subst, suc, suc-add, sym, take, zero, zero-add, ℕ}
use Rattle.constraint.proofs.Lists.{split}
use Rattle.constraint.specs.Page.{heading, hyphens, line_text, page_line, page_lines, page_text, page_width}
use Rattle.constraint.specs.{Limits.row_limit, Report.line_end, declared.Verdict.Verdict}
use Rattle.page.proofs.Lines.{line_length, stored, text_length, text_printed}
use Rattle.page.specs.ReadBack.{Lines, line_start, lines_of, no_line, one_more, page_length}
use Rattle.page.specs.Sheet.{row_of, text_of, types_of, verdict_said, verdicts_of}
use Rattle.page.specs.{declared.RowSummary.RowSummary, declared.Summary.Summary}
use Rattle.text.proofs.Texts.{copied_all, copied_none}
use Rattle.text.specs.Content.{Copied}

-- ---- headings

-- 1 for a row that is headed, else 0
abbrev pub headings : ℕ → ℕ
headings i = (i + 16) / 16 - (i + 15) / 16

-- by cases on whether a row is headed
by_heading : (P : List ℕ → Type 0) (i : ℕ) → (headings i ≡ 1 → P hyphens) → (headings i ≡ 0 → P []) → P (heading i)
by_heading P i headed plain =
    split (eqb (i % 16) 0) (λ b. P (cond b hyphens [])) (λ e. headed (omega (arith, eqb-true (i % 16) 0 e)))
    (λ e. plain (by_cases (dec_lt 0 (i % 16)) (λ h. omega arith) (λ h. absurd (eqb-false (i % 16) 0 e (omega arith)))))

pub hyphens_length : length hyphens ≡ 73
unfolding hyphens
hyphens_length = refl

pub heading_length : (i : ℕ) → length (heading i) ≡ 73 * headings i
heading_length i = by_heading (λ text. length text ≡ 73 * headings i) i (λ e. omega (arith, hyphens_length)) (λ e. omega arith)

-- ---- lines one after the other

lines_append : {a b : ℕ} (x y : List ℕ) → Lines a x → Lines b y → Lines (a + b) (x ++ y)
lines_append {b = b} x y no_line more = rw (zero-add b) more
lines_append {b = b} x y (one_more {n} line later wide free some) more =
    rw (suc-add n b, append_assoc line (line_end ∷ later) y) (one_more line (later ++ y) wide free (lines_append later y some more))

hyphens_line : Lines 1 hyphens
unfolding hyphens
hyphens_line =
    one_more (replicate page_width 45) [] refl (λ k h e. let same : 45 ≡ line_end = rw (get_or-replicate {A = ℕ} 72 k 45 0 h) at e in
    omega arith) no_line

heading_lines : (i : ℕ) → Lines (headings i) (heading i)
heading_lines i = by_heading (λ text. Lines (headings i) text) i (λ e. rw e hyphens_line) (λ e. rw e no_line)

-- ---- rows

module _ (types others : ℕ → ℕ) (verdicts more : ℕ → Verdict) where
  same_lines : (n : ℕ) → ((i : ℕ) → i < n → types i ≡ others i) → ((i : ℕ) → i < n → verdicts i ≡ more i)
      → page_lines types verdicts n ≡ page_lines others more n
  unfolding page_lines
  same_lines zero e f = refl
  same_lines (suc n) e f = rw (same_lines n (λ i h. e i (omega arith)) (λ i h. f i (omega arith)), e n (omega arith), f n (omega arith))

  -- a page of n rows is that of their types and verdicts alone
  pub same_rows : (n : ℕ) → ((i : ℕ) → i < n → types i ≡ others i) → ((i : ℕ) → i < n → verdicts i ≡ more i)
      → page_text types verdicts n ≡ page_text others more n
  same_rows zero e f = refl
  same_rows (suc n) e f = same_lines (suc n) e f

module _ (types : ℕ → ℕ) (verdicts : ℕ → Verdict) where
  abbrev line : ℕ → List ℕ
  line i = page_line i (types i) (verdicts i)

  -- ---- how long

  pub lines_length : (n : ℕ) → n ≤ 1000 → length (page_lines types verdicts n) ≡ 73 * (n + (n + 15) / 16)
  unfolding page_lines
  lines_length zero few = refl
  lines_length (suc i) few =
      omega (
        arith,
        length-append (page_lines types verdicts i ++ heading i) (line i),
        length-append (page_lines types verdicts i) (heading i),
        lines_length i (omega arith),
        heading_length i,
        line_length i (types i) (verdicts i) (omega arith),
      )

  -- §7.15: the length in closed form
  pub page_length_lem : (n : ℕ) → n ≤ 1000 → length (page_text types verdicts n) ≡ page_length n
  page_length_lem zero few = hyphens_length
  page_length_lem (suc n) few = omega (arith, lines_length (suc n) few)

  -- ---- how wide

  rows_lines : (n : ℕ) → n ≤ 1000 → Lines (n + (n + 15) / 16) (page_lines types verdicts n)
  unfolding page_lines
  rows_lines zero few = no_line
  rows_lines (suc i) few =
      let count : i + (i + 15) / 16 + headings i + 1 ≡ suc i + (suc i + 15) / 16 = omega arith in
      let text = line_text i (types i) (verdicts i) in
      let one : Lines 1 (line i) =
      one_more text [] (text_length i (types i) (verdicts i) (omega arith))
      (λ k h e. omega (arith, text_printed i (types i) (verdicts i) (omega arith) k h)) no_line in
      subst (λ (k : ℕ). Lines k (page_lines types verdicts i ++ heading i ++ line i)) count
      (lines_append (page_lines types verdicts i ++ heading i) (line i)
      (lines_append (page_lines types verdicts i) (heading i) (rows_lines i (omega arith)) (heading_lines i)) one)

  -- §7.15, §7.17: each line has 72 bytes before the line end
  pub page_width_lem : (n : ℕ) → n ≤ 1000 → Lines (lines_of n) (page_text types verdicts n)
  page_width_lem zero few = hyphens_line
  page_width_lem (suc n) few =
      let count : suc n + (suc n + 15) / 16 ≡ lines_of (suc n) = omega arith in
      subst (λ (k : ℕ). Lines k (page_lines types verdicts (suc n))) count (rows_lines (suc n) few)

  -- ---- where a row's line stands

  -- what stands before row i's line, and behind it
  pub record Standing (page : List ℕ) (i : ℕ) : Type 0 where
    pub before : List ℕ
    pub behind : List ℕ
    pub parts : page ≡ before ++ line i ++ behind
    pub start : length before ≡ line_start i

  last_standing : (n : ℕ) → n < 1000 → Standing (page_lines types verdicts n ++ heading n ++ line n) n
  last_standing n few =
      record {
        before = page_lines types verdicts n ++ heading n;
        behind = [];
        parts = rw (append-nil (page_lines types verdicts n ++ heading n ++ line n));
        start = omega (arith, length-append (page_lines types verdicts n) (heading n), lines_length n (omega arith), heading_length n);
      }

  longer_standing : (rows more : List ℕ) (i : ℕ) → Standing rows i → Standing (rows ++ more) i
  longer_standing rows more i s =
      record {
        before = s.before;
        behind = s.behind ++ more;
        parts = ap (λ (all : List ℕ). all ++ more) s.parts ∙ append_assoc (s.before ++ line i) s.behind more;
        start = s.start;
      }

  rows_standing : (n i : ℕ) → n ≤ 1000 → i < n → Standing (page_lines types verdicts n) i
  unfolding page_lines
  rows_standing zero i few there = absurd (omega arith)
  rows_standing (suc n) i few there =
      by_cases (dec_lt i n)
      (λ h. rw (append_assoc (page_lines types verdicts n) (heading n) (line n))
      (longer_standing (page_lines types verdicts n) (heading n ++ line n) i (rows_standing n i (omega arith) h)))
      (λ h. let same : i ≡ n = omega arith in rw same (last_standing n (omega arith)))

  pub row_standing : (n i : ℕ) → n ≤ 1000 → i < n → Standing (page_text types verdicts n) i
  row_standing zero i few there = absurd (omega arith)
  row_standing (suc n) i few there = rows_standing (suc n) i few there

  -- ---- in a buffer

  -- a row's heading and line, stored behind the lines of the rows before it; and the place behind them
  pub row_stored : (l buffer middle last : List ℕ) (place behind i : ℕ) → i < 1000 → place ≡ 73 * (i + (i + 15) / 16)
      → buffer ≡ sets l 0 (page_lines types verdicts i) → middle ≡ sets buffer place (heading i) → behind ≡ place + length (heading i)
      → last ≡ sets middle behind (line i) → (behind + 73 ≡ 73 * (i + 1 + (i + 1 + 15) / 16)) × (last ≡ sets l 0 (page_lines types verdicts (i + 1)))
  unfolding page_lines
  row_stored l buffer middle last place behind i few place_is so_far headed behind-is put =
      let before : length (page_lines types verdicts i) ≡ place = omega (arith, lines_length i (omega arith)) in
      let all : length (page_lines types verdicts i ++ heading i) ≡ behind = omega (
        arith,
        length-append (page_lines types verdicts i) (heading i),
      ) in (
        omega (arith, heading_length i),
        rw (add-one i)
            (stored l 0 behind (page_lines types verdicts i ++ heading i) (line i) middle last all
            (stored l 0 place (page_lines types verdicts i) (heading i) buffer middle before so_far (rw (zero-add place) headed))
            (rw (zero-add behind) put)),
      )

-- ---- written

-- a page of some rows is their lines
pub some_rows : (types : ℕ → ℕ) (verdicts : ℕ → Verdict) (n : ℕ) → ¬ (n ≡ 0) → page_text types verdicts n ≡ page_lines types verdicts n
some_rows types verdicts zero some = absurd (some refl)
some_rows types verdicts (suc n) some = refl

module _ (page : Summary) (before : List ℕ) (size : ℕ) (rows : List RowSummary) (whole : length page.rows ≡ row_limit)
    (kept : rows ≡ take (min page.len row_limit) page.rows) (counted : size ≡ page_length (length rows)) where
  rows_count : length rows ≡ min page.len row_limit
  rows_count = ap length kept ∙ length-take-le (min page.len row_limit) page.rows (omega arith)

  row_kept : (i : ℕ) → i < min page.len row_limit → row_of rows i ≡ row_of page.rows i
  row_kept i h = rw kept (get_or-take (min page.len row_limit) page.rows i _ h)

  text_kept : page_text (types_of rows) (verdicts_of page.closed rows) (length rows) ≡ text_of page
  text_kept =
      rw rows_count
      (same_rows (types_of rows) (types_of page.rows) (verdicts_of page.closed rows) (verdicts_of page.closed page.rows) (min page.len row_limit)
      (λ i h. ap (λ (r : RowSummary). r.tag) (row_kept i h)) (λ i h. ap (verdict_said page.closed) (row_kept i h)))

  text_size : length (text_of page) ≡ size
  text_size =
      omega (arith, rows_count, page_length_lem (types_of page.rows) (verdicts_of page.closed page.rows) (min page.len row_limit) (omega arith))

  -- the buffer is too short
  pub copied_nothing : length before < size → Copied (text_of page) before 0 before
  copied_nothing short = copied_none (text_of page) before (omega (arith, text_size))

  -- the answer is some length just where there is room
  pub room_short : length before < size → ¬ (length (text_of page) ≤ length before)
  room_short short long = omega (arith, text_size, short, long)

  pub room_held : size ≤ length before → (length (text_of page) ≤ length before) × (size ≡ length (text_of page))
  room_held long = (omega (arith, text_size, long), sym text_size)

  copied_text : (after : List ℕ) → size ≤ length before → after ≡ sets before 0 (text_of page) → Copied (text_of page) before size after
  copied_text after long put = rw (put, ← text_size) (copied_all (text_of page) before (omega (arith, text_size)))

  -- the page is stored
  pub copied_heading : (after : List ℕ) → size ≤ length before → length rows ≡ 0 → after ≡ sets before 0 hyphens
      → Copied (text_of page) before size after
  copied_heading after long none put =
      copied_text after long
      (put ∙ ap (λ (text : List ℕ). sets before 0 text) (rw none at text_kept))

  pub copied_page : (after : List ℕ) → size ≤ length before → ¬ (length rows ≡ 0)
      → after ≡ sets before 0 (page_lines (types_of rows) (verdicts_of page.closed rows) (length rows)) → Copied (text_of page) before size after
  copied_page after long some put =
      copied_text after long
      (put ∙ ap (λ (text : List ℕ). sets before 0 text)
      (sym (some_rows (types_of rows) (verdicts_of page.closed rows) (length rows) some) ∙ text_kept))
