-- What a text holds, and what is made of it.
use Rattle.std.specs.Prelude.{ℕ, ◌+◌, ◌-◌, ◌*◌, ◌≤◌, ◌<◌, ◌≡◌, cond, List, [], ◌∷◌, ◌++◌, length, get_or, take, drop, set, replicate, ltb, eqb}
use Rattle.constraint.specs.Report.{decimal, blank}
use Rattle.constraint.specs.Page.{right_in}
use Rattle.text.specs.declared.Digits.{Digits}
use Rattle.text.specs.declared.Text.{Text}

-- §7.18; CR 5: the number that digits stand for, behind those that stand for `high`; a blank stands for none
unfoldable pub number_from : ℕ → List ℕ → ℕ
number_from high [] = high
number_from high (byte ∷ later) = number_from (cond (eqb byte blank) high (high * 10 + (byte - 48))) later

-- the digits of a number stand at the end of 20 bytes, with blanks before them
pub record Spells (digits : Digits) (x : ℕ) : Type 0 where
  pub size : length digits.bytes ≡ 20
  pub within : digits.start ≤ 20
  pub spelled : drop digits.start digits.bytes ≡ decimal x
  pub aligned : digits.bytes ≡ right_in 20 (decimal x)

-- how many bytes a text holds at most, which no report exceeds
abbrev pub text_limit : ℕ
text_limit = 1024

-- what a text holds
abbrev pub content : Text → List ℕ
content text = take text.len text.bytes

-- the text that holds nothing
abbrev pub empty_text : Text
empty_text = record { bytes = replicate text_limit 0; len = 0 }

-- the text with one byte more; a full one takes none
unfoldable pub with_byte : ℕ → Text → Text
with_byte byte text = cond (ltb text.len text_limit) (record { bytes = set text.bytes text.len byte; len = text.len + 1 }) text

-- the text with bytes behind those that it holds, as many as it takes
unfoldable pub extended : List ℕ → Text → Text
extended [] text = text
extended (byte ∷ list) text = extended list (with_byte byte text)

-- the text holds just that list, and zeros behind it, as a new text has
pub record HoldsText (text : Text) (list : List ℕ) : Type 0 where
  pub size : length text.bytes ≡ text_limit
  pub within : text.len ≤ text_limit
  pub held : content text ≡ list
  pub rest : (i : ℕ) → text.len ≤ i → get_or text.bytes i 0 ≡ 0

-- §7.8: what copying a text to a lent buffer answers and leaves there
pub record Copied (text before : List ℕ) (answer : ℕ) (after : List ℕ) : Type 0 where
  pub fits : length text ≤ length before → (answer ≡ length text) × (after ≡ text ++ drop (length text) before)
  pub too_short : length before < length text → (answer ≡ 0) × (after ≡ before)
