-- What is read off a page is what was put there: a row's line stands where the reader looks, each column holds its text between blanks, and neither a
-- word nor a number has a blank in it. So two pages with the same bytes say the same verdicts.
use Rattle.constraint.proofs.Library.{List, [], ◌++◌, ◌-◌, ◌<◌, ◌^◌, ◌∙◌, ◌∷◌, ◌≡◌, ◌≤◌, ap, append_assoc, arith, drop-append-add, drop_at, length}
use Rattle.constraint.proofs.Library.{ne_eqb, refl, replicate, some, suc, sym, take_at, zero, ℕ}
use Rattle.constraint.proofs.Lists.{Each, each_tail}
use Rattle.constraint.specs.Page.{left_in, name_of, page_text, right_in, step_text, verdict_word}
use Rattle.constraint.specs.declared.Verdict.TheVariants.{Broken, Kept, Open}
use Rattle.constraint.specs.{Report.blank, Report.decimal, declared.Verdict.Verdict}
use Rattle.page.proofs.Lines.{Fits, Letter, at_gap, at_name, at_step, at_word, end, gap, left_length, line_is, name, name_fits, number}
use Rattle.page.proofs.Lines.{right_length, step, step_fits, word, word_fits}
use Rattle.page.proofs.Pages.{page_length_lem, row_standing}
use Rattle.page.specs.ReadBack.{LineRead, columns, line_read, same, verdict_from, word_from}
use Rattle.text.proofs.Decimals.{decimal_value}
use Rattle.text.specs.Content.{number_from}

-- ---- out of its columns

word_behind : (text : List ℕ) (n : ℕ) → Each Letter text → word_from (text ++ replicate n blank) ≡ text
unfolding word_from
word_behind [] zero letters = refl
word_behind [] (suc n) letters = refl
word_behind (byte ∷ text) n letters =
    rw (ne_eqb byte blank (λ e. omega (arith, letters 0 (omega arith))))
    (ap (λ (later : List ℕ). byte ∷ later) (word_behind text n (each_tail Letter byte text letters)))

-- a left-aligned text is read back
word_read : (width : ℕ) (text : List ℕ) → Fits width text → word_from (left_in width text) ≡ text
word_read width text fit = word_behind text (width - length text) fit.letters

-- a right-aligned number is read back
number_behind : (n : ℕ) (text : List ℕ) → number_from 0 (replicate n blank ++ text) ≡ number_from 0 text
unfolding number_from
number_behind zero text = refl
number_behind (suc n) text = number_behind n text

number_read : (width x : ℕ) → x < 10 ^ 20 → number_from 0 (right_in width (decimal x)) ≡ x
number_read width x fits = number_behind (width - length (decimal x)) (decimal x) ∙ decimal_value x fits

-- every step below 10 ^ 20
abbrev pub StepFits : Verdict → Type 0
StepFits Open = Unit {0}
StepFits Kept = Unit {0}
StepFits (Broken n) = n < 10 ^ 20

verdict_read : (v : Verdict) → StepFits v → verdict_from (verdict_word v) (number_from 0 (right_in 20 (step_text v))) ≡ some v
unfolding same
verdict_read Open fits = refl
verdict_read Kept fits = refl
verdict_read (Broken n) fits = rw (number_read 20 n fits)

-- ---- off the page

module _ (types : ℕ → ℕ) (verdicts : ℕ → Verdict) (n i : ℕ) (few : n ≤ 1000) (there : i < n) (fits : StepFits (verdicts i)) where
  abbrev type : ℕ
  type = types i

  abbrev v : Verdict
  v = verdicts i

  small : i < 1000
  small = omega arith

  -- some columns of row i's line, by what stands before and behind them there
  column : (from width : ℕ) (b c d : List ℕ) → number i ++ gap ++ name type ++ word v ++ step v ++ end ≡ b ++ c ++ d → length b ≡ from
      → length c ≡ width → columns (page_text types verdicts n) i from width ≡ c
  column from width b c d e f g =
      let s = row_standing types verdicts n i few there in
      let parts : page_text types verdicts n ≡ s.before ++ (b ++ (c ++ (d ++ s.behind))) =
      s.parts ∙ rw (line_is i type v small, e) (simp append_assoc) in
      rw (parts, ← s.start, drop-append-add s.before (b ++ (c ++ (d ++ s.behind))) from, drop_at b (c ++ (d ++ s.behind)) from f)
      (take_at c (d ++ s.behind) width g)

  -- §7.18: the fields read off row i's line are its number, the name of its type, and its verdict
  pub page_reads_back : line_read (page_text types verdicts n) i ≡ record { number = i; name = name_of type; verdict = some v }
  unfolding line_read
  page_reads_back =
      let start = at_gap i type v small in
      rw (
        column 0 3 [] (number i) (gap ++ name type ++ word v ++ step v ++ end) (simp append_assoc) refl start,
        column 5 24 (number i ++ gap) (name type) (word v ++ step v ++ end) (simp append_assoc) (at_name i type v small)
            (left_length 24 (name_of type) (name_fits type)),
        column 29 8 (number i ++ gap ++ name type) (word v) (step v ++ end) (simp append_assoc) (at_word i type v small)
            (left_length 8 (verdict_word v) (word_fits v)),
        column 37 20 (number i ++ gap ++ name type ++ word v) (step v) end refl (at_step i type v small)
            (right_length 20 (step_text v) (step_fits v)),
        number_read 3 i (omega arith),
        word_read 24 (name_of type) (name_fits type),
        word_read 8 (verdict_word v) (word_fits v),
        verdict_read v fits,
      )

-- ---- equal pages

-- a page says how many rows it has
rows_read : (types more : ℕ → ℕ) (verdicts others : ℕ → Verdict) (n k : ℕ) → n ≤ 1000 → k ≤ 1000
    → page_text types verdicts n ≡ page_text more others k
    → n ≡ k
rows_read types more verdicts others n k few few' e = omega (
  arith,
  ap length e,
  page_length_lem types verdicts n few,
  page_length_lem more others k few',
)

-- §7.18: two pages with the same bytes have as many rows, and say the same verdict of each
pub equal_pages : (types more : ℕ → ℕ) (verdicts others : ℕ → Verdict) (n k : ℕ) → n ≤ 1000 → k ≤ 1000
    → ((i : ℕ) → i < n → StepFits (verdicts i)) → ((i : ℕ) → i < k → StepFits (others i))
    → page_text types verdicts n ≡ page_text more others k → (n ≡ k) × ((i : ℕ) → i < n → verdicts i ≡ others i)
equal_pages types more verdicts others n k few few' fits fits' e = (rows, each)
  where
    rows : n ≡ k
    rows = rows_read types more verdicts others n k few few' e

    each : (i : ℕ) → i < n → verdicts i ≡ others i
    each i h =
        let there : i < k = omega (arith, rows) in
        let one = page_reads_back types verdicts n i few h (fits i h) in
        let other = page_reads_back more others k i few' there (fits' i there) in
        let said : some (verdicts i) ≡ some (others i) = ap (λ (r : LineRead). r.verdict)
        (sym one ∙ ap (λ (page : List ℕ). line_read page i) e ∙ other) in
        cc
