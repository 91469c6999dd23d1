-- Questions 3 to 7 and 18, row by row. `fresh` and the table writer ask them (§9.7; 01, questions; CR 6). Question 4 asks here about
-- the type and its n, because the fields give the length.
use Rattle.std.specs.Prelude.{ℕ, ◌+◌, ◌≤◌, ◌<◌, ◌≡◌, List, [], ◌∷◌, ◌++◌, ◌⊎◌, length}
use Rattle.constraint.specs.Limits.{last_kind, first_coloured, last_time, no_limit, row_limit}
use Rattle.constraint.specs.Steps.{at}
use Rattle.constraint.specs.Questions.{Question, Judged}
use Rattle.constraint.specs.Meets.{Compares}
use Rattle.constraint.specs.Types.{kind, coloured, count, span, plain, lower, upper, upper_or_none, offset, left, right, Field, byte, time}
use Rattle.constraint.specs.Types.{type_of, fields_of, count_of, TypeKnown}
use Rattle.constraint.specs.Answer.{Taken}
use Rattle.constraint.specs.Constraint.{Constraint}

-- §8.5; 01, questions: the kinds in a list of fields
abbrev pub kinds_in : List Field → List ℕ
kinds_in [] = []
kinds_in (byte kind x ∷ fields) = x ∷ kinds_in fields
kinds_in (byte coloured x ∷ fields) = x ∷ kinds_in fields
kinds_in (byte count x ∷ fields) = kinds_in fields
kinds_in (byte (span limit) x ∷ fields) = kinds_in fields
kinds_in (time role x ∷ fields) = kinds_in fields

-- §8.5; 01, questions: the kinds that a row names
abbrev pub kinds : Constraint → List ℕ
kinds c = kinds_in (fields_of c)

-- §8.5; 01, questions: no kind is above 63, and no two are the same
unfoldable pub KindsFit : List ℕ → Type 0
KindsFit ks = ((i : ℕ) → i < length ks → at ks i ≤ last_kind) × ((i j : ℕ) → i < j → j < length ks → ¬ (at ks i ≡ at ks j))

-- §8.6, §8.18: what is asked of a field is true of every field in a list
abbrev pub EachField : (Field → Type 0) → List Field → Type 0
EachField Asked [] = Unit {0}
EachField Asked (f ∷ fields) = Asked f × EachField Asked fields

-- §8.18; CR 6: the field names a plain kind if the type takes plain kinds, and a coloured kind if it takes coloured kinds
abbrev pub KindClassFits : Field → Type 0
KindClassFits (byte kind x) = x < first_coloured
KindClassFits (byte coloured x) = first_coloured ≤ x
KindClassFits (byte count x) = Unit {0}
KindClassFits (byte (span limit) x) = Unit {0}
KindClassFits (time role x) = Unit {0}

-- §8.18; CR 6: every field of a row names a kind of the right class
unfoldable pub KindsSuit : Constraint → Type 0
KindsSuit c = EachField KindClassFits (fields_of c)

-- §8.6, §4.7; 01, table; CR 1, 10: the field is in its range. An upper may be the mark for no limit if the type has it
abbrev pub FieldInRange : Field → Type 0
FieldInRange (byte kind x) = Unit {0}
FieldInRange (byte coloured x) = Unit {0}
FieldInRange (byte count x) = Unit {0}
FieldInRange (byte (span limit) x) = (1 ≤ x) × (x ≤ limit)
FieldInRange (time (plain what) x) = x ≤ last_time
FieldInRange (time lower x) = x ≤ last_time
FieldInRange (time upper x) = x ≤ last_time
FieldInRange (time upper_or_none x) = (x ≤ last_time) ⊎ (x ≡ no_limit)
FieldInRange (time offset x) = x ≤ last_time
FieldInRange (time left x) = x ≤ last_time
FieldInRange (time right x) = x ≤ last_time

-- §4.6, §4.7, §5.9.6, §8.6; 01, questions: every field of a row is in its range
unfoldable pub InRange : Constraint → Type 0
InRange c = EachField FieldInRange (fields_of c)

-- §8.7; 01, questions: the field is not below `low`, the bound that the fields before it give: an upper is at least the lower, an offset is above the
-- one before it, and what a Comparison says with its operator n is true
abbrev pub NotBelow : ℕ → ℕ → Field → Type 0
NotBelow n low (byte role x) = Unit {0}
NotBelow n low (time (plain what) x) = Unit {0}
NotBelow n low (time lower x) = Unit {0}
NotBelow n low (time upper x) = low ≤ x
NotBelow n low (time upper_or_none x) = low ≤ x
NotBelow n low (time offset x) = low ≤ x
NotBelow n low (time left x) = Unit {0}
NotBelow n low (time right x) = Compares n low x

-- §8.7: the bound for the fields after the field, if `low` is the bound for the field
abbrev pub bound_after : ℕ → Field → ℕ
bound_after low (byte role x) = low
bound_after low (time (plain what) x) = low
bound_after low (time lower x) = x
bound_after low (time upper x) = 0
bound_after low (time upper_or_none x) = 0
bound_after low (time offset x) = x + 1
bound_after low (time left x) = x
bound_after low (time right x) = 0

-- §8.7; 01, questions: no field in a list is below its bound. `low` is the bound for the first, or 0 if there is none
abbrev pub Ordered : ℕ → ℕ → List Field → Type 0
Ordered n low [] = Unit {0}
Ordered n low (f ∷ fields) = NotBelow n low f × Ordered n (bound_after low f) fields

-- §8.7; 01, questions; CR 6: lower is at most upper in a row, offsets rise, and a Comparison is true
unfoldable pub LowerFirst : Constraint → Type 0
LowerFirst c = Ordered (count_of c) 0 (fields_of c)

-- §9.7; 01, questions; CR 6: questions 5, 18, 6 and 7 about one row
abbrev pub row_questions : Constraint → List Question
row_questions c = (5, KindsFit (kinds c)) ∷ (18, KindsSuit c) ∷ (6, InRange c) ∷ (7, LowerFirst c) ∷ []

-- §8.4, §9.7, §16.5; 01, questions: question 4, whether the edition has the type and the type the n, and then the questions above
abbrev pub row_questions_in : ℕ → Constraint → List Question
row_questions_in edition c = (4, TypeKnown edition (type_of c) (count_of c)) ∷ row_questions c

-- §8.3, §9.7; 01, questions: for each row question 3, with i rows before it (§8.3), then the row's own questions. `after` are the questions after the
-- last row
unfoldable pub rows_questions : ℕ → ℕ → List Constraint → List Question → List Question
rows_questions edition i [] after = after
rows_questions edition i (c ∷ rows) after = (3, i < row_limit) ∷ row_questions_in edition c ++ rows_questions edition (i + 1) rows after

-- §3.2, §16.2; 01, time: the table is accepted in an edition: every question is answered "yes"
abbrev pub AcceptedIn : ℕ → List Constraint → Type 0
AcceptedIn edition rows = Judged (rows_questions edition 0 rows []) Taken

-- §3.2, §16.2; 01, time: the table is accepted in some edition
abbrev pub Accepted : List Constraint → Type 0
Accepted rows = (edition : ℕ) × AcceptedIn edition rows
