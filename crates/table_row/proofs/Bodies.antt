-- The values of fields and their bytes say the same, both ways: one induction over the places of a row, and no case by type.
use Rattle.constraint.proofs.Library.{List, [], ◌++◌, ◌+◌, ◌<◌, ◌^◌, ◌∙◌, ◌∷◌, ◌≡◌, ◌≤◌, ap, append_assoc, ap₂, arith, cond}
use Rattle.constraint.proofs.Library.{drop}
use Rattle.constraint.proofs.Library.{drop-append_seam, drop-drop, get_or-drop, get_or-take, length, length-append, length-drop, length-take}
use Rattle.constraint.proofs.Library.{length-take-le, ltb, refl, subst, subst⁻¹, subst₂, suc, sym, take-add, take_at, ℕ}
use Rattle.constraint.proofs.Lists.{split}
use Rattle.constraint.specs.Steps.{at}
use Rattle.constraint.specs.Bytes.{Bytes, bytes_at, bytes_of, number_at}
use Rattle.big_endian.proofs.Numbers.{bytes_length, bytes_of_number, number_below, number_of_bytes}
use Rattle.constraint.specs.Types.{Field, byte, time}
use Rattle.constraint.specs.Table.{fields_bytes, FieldsFit}
use Rattle.table_row.specs.Records.{byte_role, time_role, width, field_of, field_at, fields_as, fields_with, values_at, total, cleared}

-- A part of some bytes

pub bytes_part : (bytes : List ℕ) (n place : ℕ) → Bytes bytes → Bytes (bytes_at n bytes place)
unfolding Bytes
bytes_part bytes n place all i h =
    let size = length-take n (drop place bytes) in
    let rest = length-drop place bytes in
    rw (get_or-take n (drop place bytes) i 0 (omega arith), get_or-drop place bytes i 0) (all (place + i) (omega arith))

module _ (n : ℕ) (bytes : List ℕ) (place : ℕ) (all : Bytes bytes) (there : place + n ≤ length bytes) where
  long : length (bytes_at n bytes place) ≡ n
  long = length-take-le n (drop place bytes) (omega (arith, length-drop place bytes))

  pub number_back : bytes_of n (number_at n bytes place) ≡ bytes_at n bytes place
  number_back =
      ap (λ (k : ℕ). bytes_of k (number_at n bytes place)) (sym long) ∙ bytes_of_number 0 (bytes_at n bytes place) (bytes_part bytes n place all)

  pub number_small : number_at n bytes place < 256 ^ n
  number_small = subst⁻¹ (λ (k : ℕ). number_at n bytes place < 256 ^ k) (sym long)
      (number_below (bytes_at n bytes place) (bytes_part bytes n place all))

-- One place

-- the value of a place, 0 where it is not used
abbrev kept : ℕ → ℕ → ℕ
kept r x = cond (ltb r 65) 0 x

pub place_bytes : (r x : ℕ) (later : List Field) → fields_bytes (field_at r x ++ later) ≡ bytes_of (width r) x ++ fields_bytes later
unfolding fields_bytes bytes_of
place_bytes r x later =
    split (ltb r 65)
    (λ none. fields_bytes (cond none [] (field_of r x ∷ []) ++ later) ≡ bytes_of (cond none 0 (cond (ltb r 97) 8 1)) x ++ fields_bytes later)
    (λ e. refl)
    (λ e. split (ltb r 97)
    (λ long. fields_bytes (cond long (time (time_role r) x) (byte (byte_role r) x) ∷ later) ≡ bytes_of (cond long 8 1) x ++ fields_bytes later)
    (λ e. refl)
    (λ e. refl))

kept_bytes : (r x : ℕ) → bytes_of (width r) x ≡ bytes_of (width r) (kept r x)
unfolding bytes_of
kept_bytes r x = split (ltb r 65) (λ none. bytes_of (cond none 0 (cond (ltb r 97) 8 1)) x ≡ bytes_of (cond none 0 (cond (ltb r 97) 8 1))
    (cond none 0 x))
    (λ e. refl) (λ e. refl)

place_fits : (r x : ℕ) (later : List Field) → x < 256 ^ width r → FieldsFit later → FieldsFit (field_at r x ++ later)
place_fits r x later =
    split (ltb r 65)
    (λ none. x < 256 ^ cond none 0 (cond (ltb r 97) 8 1) → FieldsFit later → FieldsFit (cond none [] (field_of r x ∷ []) ++ later))
    (λ e small rest. rest)
    (λ e. split (ltb r 97)
    (λ long. x < 256 ^ cond long 8 1 → FieldsFit later → FieldsFit (cond long (time (time_role r) x) (byte (byte_role r) x) ∷ later))
    (λ e small rest. (small, rest)) (λ e small rest. (small, rest)))

fits_place : (r x : ℕ) (later : List Field) → FieldsFit (field_at r x ++ later) → (kept r x < 256 ^ width r) × FieldsFit later
fits_place r x later =
    split (ltb r 65)
    (λ none. FieldsFit (cond none [] (field_of r x ∷ []) ++ later)
    → (cond none 0 x < 256 ^ cond none 0 (cond (ltb r 97) 8 1)) × FieldsFit later)
    (λ e rest. (omega arith, rest))
    (λ e. split (ltb r 97)
    (λ long. FieldsFit (cond long (time (time_role r) x) (byte (byte_role r) x) ∷ later) → (x < 256 ^ cond long 8 1) × FieldsFit later)
    (λ e fit. fit) (λ e fit. fit))

-- the values behind the first are those of the rest
pub with_shift : (roles : List ℕ) (x : ℕ) (values : List ℕ) (i : ℕ) → fields_with roles (x ∷ values) (suc i) ≡ fields_with roles values i
unfolding fields_with
with_shift [] x values i = refl
with_shift (r ∷ roles) x values i = ap (λ (later : List Field). field_at r (at values i) ++ later) (with_shift roles x values (suc i))

pub as_cons : (r : ℕ) (roles : List ℕ) (x : ℕ) (values : List ℕ) → fields_as (r ∷ roles) (x ∷ values) ≡ field_at r x ++ fields_as roles values
unfolding fields_with
as_cons r roles x values = ap (λ (later : List Field). field_at r x ++ later) (with_shift roles x values 0)

-- From values to bytes and back

pub written_read : (roles values before after : List ℕ) → length roles ≡ length values → FieldsFit (fields_as roles values)
    → values_at roles (before ++ (fields_bytes (fields_as roles values) ++ after)) (length before) ≡ cleared roles values
unfolding values_at
written_read [] values before after same fit = refl
written_read (r ∷ roles) [] before after same fit = absurd (omega arith)
written_read (r ∷ roles) (x ∷ values) before after same fit =
    let later = fields_bytes (fields_as roles values) in
    let here = bytes_of (width r) (kept r x) in
    let size : length here ≡ width r = bytes_length (width r) (kept r x) in
    let cons = as_cons r roles x values in
    let fits = fits_place r x (fields_as roles values) (subst FieldsFit cons fit) in
    let all : before ++ (fields_bytes (fields_as (r ∷ roles) (x ∷ values)) ++ after) ≡ before ++ (here ++ (later ++ after)) =
    ap (λ (l : List ℕ). before ++ (l ++ after))
    (ap fields_bytes cons ∙ place_bytes r x (fields_as roles values) ∙ ap (λ (l : List ℕ). l ++ later) (kept_bytes r x))
    ∙ ap (λ (l : List ℕ). before ++ l) (append_assoc here later after) in
    let first : number_at (width r) (before ++ (here ++ (later ++ after))) (length before) ≡ kept r x =
    rw (drop-append_seam before (here ++ (later ++ after)), take_at here (later ++ after) (width r) size)
    (number_of_bytes (width r) (kept r x) fits.0) in
    let place : length (before ++ here) ≡ length before + width r = length-append before here ∙ ap (λ (n : ℕ). length before + n) size in
    let rest : values_at roles (before ++ (here ++ (later ++ after))) (length before + width r) ≡ cleared roles values =
    subst₂ (λ (l : List ℕ) (n : ℕ). values_at roles l n ≡ cleared roles values) (append_assoc before here (later ++ after)) place
    (written_read roles values (before ++ here) after (omega arith) fits.1) in
    rw all (ap₂ (λ (y : ℕ) (l : List ℕ). y ∷ l) first rest)

-- From bytes to values and back

module _ (body : List ℕ) (all : Bytes body) where
  pub read_written : (roles : List ℕ) (place : ℕ) → place + total roles ≤ length body
      → fields_bytes (fields_as roles (values_at roles body place)) ≡ bytes_at (total roles) body place
  unfolding values_at fields_with fields_bytes
  read_written [] place there = refl
  read_written (r ∷ roles) place there =
      let x = number_at (width r) body place in
      ap fields_bytes (as_cons r roles x (values_at roles body (place + width r)))
      ∙ place_bytes r x (fields_as roles (values_at roles body (place + width r)))
      ∙ ap₂ (λ (first later : List ℕ). first ++ later) (number_back (width r) body place all (omega arith))
      (read_written roles (place + width r) (omega arith))
      ∙ sym (take-add (width r) (total roles) (drop place body) ∙ rw (drop-drop (width r) place body))

  pub read_fits : (roles : List ℕ) (place : ℕ) → place + total roles ≤ length body → FieldsFit (fields_as roles (values_at roles body place))
  unfolding values_at fields_with
  read_fits [] place there = tt
  read_fits (r ∷ roles) place there =
      subst⁻¹ FieldsFit (as_cons r roles (number_at (width r) body place) (values_at roles body (place + width r)))
      (place_fits r (number_at (width r) body place) (fields_as roles (values_at roles body (place + width r)))
      (number_small (width r) body place all (omega arith)) (read_fits roles (place + width r) (omega arith)))
