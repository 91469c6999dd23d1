-- A line of the page, column by column: each text fits its columns, whatever the type, the verdict and the step, and none has a blank or a line end
-- in it.
use Rattle.constraint.proofs.Library.{Bool, List, [], ◌&&◌, ◌++◌, ◌+◌, ◌-◌, ◌<◌, ◌∙◌, ◌∷◌, ◌≡◌, ◌≤◌, ap, append_assoc, arith, drop, drop_at, false}
use Rattle.constraint.proofs.Library.{get_or, get_or-replicate, leb, leb-true, length, length-append, length-replicate, ltb, ltb-true, refl}
use Rattle.constraint.proofs.Library.{replicate}
use Rattle.constraint.proofs.Library.{replicate-append-replicate, sets, suc, true, zero, ℕ}
use Rattle.constraint.proofs.Lists.{Each, each_append, each_cons, each_none}
use Rattle.constraint.specs.Page.{left_in, line_text, name_of, page_line, page_width, right_in, step_text, verdict_word}
use Rattle.constraint.specs.{Report.blank, Report.decimal, Report.line_end, Types.type_names, Types.unknown_name, declared.Verdict.Verdict}
use Rattle.constraint.specs.{declared.Verdict.TheVariants.Broken, declared.Verdict.TheVariants.Kept, declared.Verdict.TheVariants.Open}
use Rattle.big_endian.proofs.Stores.{stores_append}
use Rattle.text.proofs.Decimals.{decimal_each, decimal_few, decimal_length}

-- ---- texts

-- a byte of a text, and one of a line
abbrev pub Letter : ℕ → Type 0
Letter byte = blank < byte

abbrev pub Printed : ℕ → Type 0
Printed byte = blank ≤ byte

-- a text that fits some columns
pub record Fits (width : ℕ) (text : List ℕ) : Type 0 where
  pub short : length text ≤ width
  pub letters : Each Letter text

-- the same by a test that computes
letters? : List ℕ → Bool
letters? [] = true
letters? (byte ∷ text) = ltb blank byte && letters? text

fits? : ℕ → List ℕ → Bool
fits? width text = leb (length text) width && letters? text

and_true : (a b : Bool) → (a && b) ≡ true → (a ≡ true) × (b ≡ true)
and_true true b e = (refl, e)
and_true false b e = absurd (let z : ◌≡◌ {A = ℕ} 0 1 = cc in omega arith)

all_letters : (text : List ℕ) → letters? text ≡ true → Each Letter text
unfolding letters?
all_letters [] e = each_none Letter
all_letters (byte ∷ text) e =
    let both = and_true (ltb blank byte) (letters? text) e in
    each_cons Letter byte text (ltb-true blank byte both.0) (all_letters text both.1)

fits : (width : ℕ) (text : List ℕ) → fits? width text ≡ true → Fits width text
unfolding fits?
fits width text e =
    let both = and_true (leb (length text) width) (letters? text) e in
    record { short = leb-true (length text) width both.0; letters = all_letters text both.1 }

-- every text of a table fits, by one test over the table
all-fit? : ℕ → List (List ℕ) → Bool
all-fit? width [] = true
all-fit? width (text ∷ texts) = fits? width text && all-fit? width texts

any_fits : (width : ℕ) (texts : List (List ℕ)) (other : List ℕ) → all-fit? width texts ≡ true → Fits width other → (i : ℕ)
    → Fits width (get_or texts i other)
unfolding all-fit?
any_fits width [] other e f i = f
any_fits width (text ∷ texts) other e f zero = fits width text (and_true (fits? width text) (all-fit? width texts) e).0
any_fits width (text ∷ texts) other e f (suc i) = any_fits width texts other (and_true (fits? width text) (all-fit? width texts) e).1 f i

-- §7.16
pub name_fits : (type : ℕ) → Fits 24 (name_of type)
unfolding all-fit? fits? letters?
name_fits type = any_fits 24 type_names unknown_name refl (fits 24 unknown_name refl) type

-- §7.16
pub word_fits : (v : Verdict) → Fits 8 (verdict_word v)
unfolding fits? letters?
word_fits Open = fits 8 (verdict_word Open) refl
word_fits Kept = fits 8 (verdict_word Kept) refl
word_fits (Broken n) = fits 8 (verdict_word (Broken n)) refl

-- §7.16
pub step_fits : (v : Verdict) → Fits 20 (step_text v)
step_fits Open = record { short = omega arith; letters = each_none Letter }
step_fits Kept = record { short = omega arith; letters = each_none Letter }
step_fits (Broken n) = record { short = (decimal_length n).1; letters = decimal_each n }

-- a row's number has three digits at most
pub number_fits : (i : ℕ) → i < 1000 → Fits 3 (decimal i)
number_fits i few = record { short = decimal_few 2 i few; letters = decimal_each i }

-- ---- columns

blanks_printed : (n : ℕ) → Each Printed (replicate n blank)
blanks_printed n i h = rw (get_or-replicate n i blank 0 (omega (arith, length-replicate n blank))) (omega arith)

printed : (text : List ℕ) → Each Letter text → Each Printed text
printed text letters i h = omega (arith, letters i h)

module _ (width : ℕ) (text : List ℕ) (fit : Fits width text) where
  pub left_length : length (left_in width text) ≡ width
  left_length = omega (arith, length-append text (replicate (width - length text) blank), length-replicate (width - length text) blank)

  pub right_length : length (right_in width text) ≡ width
  right_length = omega (arith, length-append (replicate (width - length text) blank) text, length-replicate (width - length text) blank)

  left_printed : Each Printed (left_in width text)
  left_printed = each_append Printed text (replicate (width - length text) blank) (printed text fit.letters) (blanks_printed (width - length text))

  right_printed : Each Printed (right_in width text)
  right_printed = each_append Printed (replicate (width - length text) blank) text (blanks_printed (width - length text))
      (printed text fit.letters)

-- a number right-aligned in 20, but for its first 17 columns, is right-aligned in 3
pub last_columns : (i : ℕ) → i < 1000 → drop 17 (right_in 20 (decimal i)) ≡ right_in 3 (decimal i)
last_columns i few =
    let more : 20 - length (decimal i) ≡ 17 + (3 - length (decimal i)) = omega (arith, number_fits i few) in
    rw (
      more,
      ← replicate-append-replicate 17 (3 - length (decimal i)) blank,
      append_assoc (replicate 17 blank) (replicate (3 - length (decimal i)) blank) (decimal i),
    )
    (drop_at (replicate 17 blank) (right_in 3 (decimal i)) 17 (length-replicate 17 blank))

-- ---- the line

-- its columns
abbrev pub number : ℕ → List ℕ
number i = right_in 3 (decimal i)

abbrev pub gap : List ℕ
gap = replicate 2 blank

abbrev pub name : ℕ → List ℕ
name type = left_in 24 (name_of type)

abbrev pub word : Verdict → List ℕ
word v = left_in 8 (verdict_word v)

abbrev pub step : Verdict → List ℕ
step v = right_in 20 (step_text v)

abbrev rest : List ℕ
rest = replicate 15 blank

abbrev pub end : List ℕ
end = rest ++ line_end ∷ []

module _ (i type : ℕ) (v : Verdict) (few : i < 1000) where
  -- where each begins
  pub at_gap : length (number i) ≡ 3
  at_gap = right_length 3 (decimal i) (number_fits i few)

  pub at_name : length (number i ++ gap) ≡ 5
  at_name = omega (arith, length-append (number i) gap, at_gap)

  pub at_word : length (number i ++ gap ++ name type) ≡ 29
  at_word = omega (arith, length-append (number i ++ gap) (name type), at_name, left_length 24 (name_of type) (name_fits type))

  pub at_step : length (number i ++ gap ++ name type ++ word v) ≡ 37
  at_step = omega (arith, length-append (number i ++ gap ++ name type) (word v), at_word, left_length 8 (verdict_word v) (word_fits v))

  pub at_rest : length (number i ++ gap ++ name type ++ word v ++ step v) ≡ 57
  at_rest = omega (arith, length-append (number i ++ gap ++ name type ++ word v) (step v), at_step, right_length 20 (step_text v) (step_fits v))

  -- 15 blanks fill up to 72
  pub text_is : line_text i type v ≡ number i ++ gap ++ name type ++ word v ++ step v ++ rest
  unfolding line_text
  text_is = rw at_rest

  pub text_length : length (line_text i type v) ≡ page_width
  text_length = omega (arith, ap length text_is, length-append (number i ++ gap ++ name type ++ word v ++ step v) rest, at_rest)

  pub text_printed : Each Printed (line_text i type v)
  text_printed =
      rw text_is
      (each_append Printed (number i ++ gap ++ name type ++ word v ++ step v) rest
      (each_append Printed (number i ++ gap ++ name type ++ word v) (step v)
      (each_append Printed (number i ++ gap ++ name type) (word v)
      (each_append Printed (number i ++ gap) (name type)
      (each_append Printed (number i) gap (right_printed 3 (decimal i) (number_fits i few)) (blanks_printed 2))
      (left_printed 24 (name_of type) (name_fits type)))
      (left_printed 8 (verdict_word v) (word_fits v)))
      (right_printed 20 (step_text v) (step_fits v)))
      (blanks_printed 15))

  pub line_length : length (page_line i type v) ≡ 73
  line_length = omega (arith, length-append (line_text i type v) (line_end ∷ []), text_length)

  pub line_is : page_line i type v ≡ number i ++ gap ++ name type ++ word v ++ step v ++ end
  line_is = ap (λ (line : List ℕ). line ++ line_end ∷ []) text_is ∙ append_assoc (number i ++ gap ++ name type ++ word v ++ step v) rest
      (line_end ∷ [])

-- ---- in a buffer

-- two parts stored one behind the other are stored as one
pub stored : (l : List ℕ) (place width : ℕ) (first second middle last : List ℕ) → length first ≡ width
    → middle ≡ sets l place first → last ≡ sets middle (place + width) second → last ≡ sets l place (first ++ second)
stored l place width first second middle last size e f = f ∙ rw (e, stores_append l place first second, size)
