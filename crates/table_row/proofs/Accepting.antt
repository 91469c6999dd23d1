-- What is accepted is written and read back: its fields fit their bytes, so its body has the type's shape and stands for it alone.
use Rattle.constraint.proofs.Library.{List, [], ◌++◌, ◌<◌, ◌∙◌, ◌∷◌, ◌≡◌, ap, arith, length, refl, subst₂, sym, ℕ, ⊎_elim}
use Rattle.constraint.proofs.FittingKinds.{kinds_first, kinds_rest}
use Rattle.constraint.proofs.Judged.{judged_all}
use Rattle.constraint.specs.Accepted.{InRange, KindsFit, KindsSuit, LowerFirst}
use Rattle.constraint.specs.Questions.{Judged}
use Rattle.constraint.specs.Steps.{at}
use Rattle.constraint.specs.Answer.{Taken}
use Rattle.constraint.specs.Constraint.{Constraint, Delay, StrongDelay, Repeat, Sporadic, Burst, Order, StrongSynchronization, ExecutionTime}
use Rattle.constraint.specs.Constraint.{Reaction, Repetition, Synchronization, Age, OutputSynchronization, InputSynchronization, Pattern}
use Rattle.constraint.specs.Constraint.{Arbitrary, Comparison}
use Rattle.constraint.specs.Types.{kind, coloured, count, span, plain, lower, upper, upper_or_none, offset, left, right, tolerance, Field, byte, time}
use Rattle.constraint.specs.Types.{count_of, fields_of, kind_fields, offset_fields, pair_fields, type_of}
use Rattle.constraint.specs.Table.{FieldsFit, ShapeFits, StandsFor, fields_bytes, row_body}
use Rattle.constraint.specs.Types.{TypeKnown, length_of}
use Rattle.constraint.specs.Accepted.{EachField, FieldInRange, KindClassFits, kinds_in, row_questions_in}
use Rattle.table_row.specs.Records.{roles_of, row_from, row_in}
use Rattle.table_row.proofs.ByType.{CountFits, again, first_wide, placed}
use Rattle.table_row.proofs.Judging.{fields_long}
use Rattle.table_row.proofs.Standing.{first_byte, own_fields, row_again, shape}

-- Spans have limits of one byte, and counts fit one

abbrev BytesFit : List Field → Type 0
BytesFit [] = Unit {0}
BytesFit (byte count x ∷ fields) = (x < 256) × BytesFit fields
BytesFit (byte (span limit) x ∷ fields) = (limit < 256) × BytesFit fields
BytesFit (byte kind x ∷ fields) = BytesFit fields
BytesFit (byte coloured x ∷ fields) = BytesFit fields
BytesFit (time role x ∷ fields) = BytesFit fields

plain_counts : (ks : List ℕ) (later : List Field) → BytesFit later → BytesFit (kind_fields kind ks ++ later)
plain_counts [] later h = h
plain_counts (k ∷ ks) later h = plain_counts ks later h

coloured_counts : (ks : List ℕ) (later : List Field) → BytesFit later → BytesFit (kind_fields coloured ks ++ later)
coloured_counts [] later h = h
coloured_counts (k ∷ ks) later h = coloured_counts ks later h

offset_counts : (xs : List ℕ) → BytesFit (offset_fields xs)
offset_counts [] = tt
offset_counts (x ∷ xs) = offset_counts xs

pair_counts : (ps : List (ℕ × ℕ)) → BytesFit (pair_fields ps)
pair_counts [] = tt
pair_counts (p ∷ ps) = pair_counts ps

own_bytes : (c : Constraint) → CountFits c → BytesFit (fields_of c)
own_bytes (Delay a b x y) fits = tt
own_bytes (StrongDelay a b x y) fits = tt
own_bytes (Repeat a b x y) fits = (omega arith, tt)
own_bytes (Sporadic a x y z w) fits = tt
own_bytes (Burst a b x y) fits = (omega arith, tt)
own_bytes (Order a b) fits = tt
own_bytes (StrongSynchronization ks x) fits = (omega (arith, (fits refl).1), plain_counts ks (time (plain tolerance) x ∷ []) tt)
own_bytes (ExecutionTime a b c d x y) fits = tt
own_bytes (Reaction a b x y) fits = tt
own_bytes (Repetition a b x y z) fits = (omega arith, tt)
own_bytes (Synchronization ks x) fits = (omega (arith, (fits refl).1), plain_counts ks (time (plain tolerance) x ∷ []) tt)
own_bytes (Age a b x y) fits = tt
own_bytes (OutputSynchronization a ks x) fits = (omega (arith, (fits refl).1), coloured_counts ks (time (plain tolerance) x ∷ []) tt)
own_bytes (InputSynchronization ks a x) fits = (omega (arith, (fits refl).1), coloured_counts ks (byte coloured a ∷ time (plain tolerance) x ∷ []) tt)
own_bytes (Pattern a x y z xs) fits = (omega (arith, (fits refl).1), offset_counts xs)
own_bytes (Arbitrary a ps) fits = (omega (arith, (fits refl).1), pair_counts ps)
own_bytes (Comparison o x y) fits = (omega (arith, (fits refl).1), tt)

-- so fields that are accepted fit
fields_fit : (fields : List Field) → KindsFit (kinds_in fields) → EachField FieldInRange fields → BytesFit fields → FieldsFit fields
fields_fit [] kinds ranges small = tt
fields_fit (byte kind x ∷ fields) kinds ranges small =
    (omega (arith, (kinds_first _ _ kinds).0), fields_fit fields (kinds_rest _ _ kinds) ranges.1 small)
fields_fit (byte coloured x ∷ fields) kinds ranges small =
    (omega (arith, (kinds_first _ _ kinds).0), fields_fit fields (kinds_rest _ _ kinds) ranges.1 small)
fields_fit (byte count x ∷ fields) kinds ranges small = (omega (arith, small.0), fields_fit fields kinds ranges.1 small.1)
fields_fit (byte (span limit) x ∷ fields) kinds ranges small =
    (omega (arith, small.0, ranges.0.1), fields_fit fields kinds ranges.1 small.1)
fields_fit (time (plain what) x ∷ fields) kinds ranges small = (omega (arith, ranges.0), fields_fit fields kinds ranges.1 small)
fields_fit (time lower x ∷ fields) kinds ranges small = (omega (arith, ranges.0), fields_fit fields kinds ranges.1 small)
fields_fit (time upper x ∷ fields) kinds ranges small = (omega (arith, ranges.0), fields_fit fields kinds ranges.1 small)
fields_fit (time offset x ∷ fields) kinds ranges small = (omega (arith, ranges.0), fields_fit fields kinds ranges.1 small)
fields_fit (time left x ∷ fields) kinds ranges small = (omega (arith, ranges.0), fields_fit fields kinds ranges.1 small)
fields_fit (time right x ∷ fields) kinds ranges small = (omega (arith, ranges.0), fields_fit fields kinds ranges.1 small)
fields_fit (time upper_or_none x ∷ fields) kinds ranges small =
    (⊎_elim (λ low. omega arith) (λ mark. omega arith) ranges.0, fields_fit fields kinds ranges.1 small)

-- the shape of a body whose n is known
pub row_fits : (edition : ℕ) (c : Constraint) → TypeKnown edition (type_of c) (count_of c) → FieldsFit (fields_of c) → ShapeFits edition (row_body c)
unfolding row_body
row_fits edition c known fit =
    let n : count_of c ≡ at (row_body c) 1 = sym (first_byte (fields_of c) fit (first_wide c)) in
    let about = shape edition (type_of c) (count_of c) known in
    let own = again c known.n_known in
    let long = ap (λ (fs : List Field). length (fields_bytes fs)) (own_fields edition c known)
    ∙ fields_long (roles_of (type_of c) (count_of c)) (placed c) 0 in
    record {
      type_there = omega arith;
      known = subst₂ (TypeKnown edition) refl n known;
      length_right = omega (arith, long, about.0) ∙ ap (length_of (type_of c)) n;
    }

-- what is accepted, written and read
pub record ReadBack (edition : ℕ) (c : Constraint) : Type 0 where
  pub shape_fits : ShapeFits edition (row_body c)
  pub stands : StandsFor (row_body c) c
  pub read : row_in (row_from (row_body c)) ≡ c

pub write_then_read : (edition : ℕ) (c : Constraint) → Judged (row_questions_in edition c) Taken → ReadBack edition c
unfolding KindsSuit InRange LowerFirst
write_then_read edition c judged =
    let four = judged_all 4 (TypeKnown edition (type_of c) (count_of c)) _ judged in
    let five = judged_all 5 (KindsFit (kinds_in (fields_of c))) _ four.1 in
    let eighteen = judged_all 18 (EachField KindClassFits (fields_of c)) _ five.1 in
    let six = judged_all 6 (EachField FieldInRange (fields_of c)) _ eighteen.1 in
    let fit = fields_fit (fields_of c) five.0 six.0 (own_bytes c four.0.n_known) in
    record { shape_fits = row_fits edition c four.0 fit; stands = record { bytes = refl; fits = fit }; read = row_again edition c four.0 fit }
