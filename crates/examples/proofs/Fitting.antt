-- A row whose numbers are written out is accepted by computation: a test goes through its type and its fields as questions 4, 5, 18, 6 and 7 do.
use Rattle.constraint.proofs.Library.{ℕ, ◌≤◌, arith, ◌≡◌, refl, sym, Bool, true, false, not, cond, ◌&&◌, ◌||◌, List, [], ◌∷◌, ◌++◌, ◌⊎◌, inl, inr}
use Rattle.constraint.proofs.Library.{leb, ltb}
use Rattle.constraint.proofs.Library.{eqb, leb-true, ltb-true, eqb-true, eqb-false, not-true}
use Rattle.constraint.specs.Limits.{last_kind, first_coloured, last_time, no_limit}
use Rattle.constraint.specs.Questions.{Question, Judged}
use Rattle.constraint.specs.Steps.{at}
use Rattle.constraint.specs.Types.{kind, coloured, count, span, plain, lower, upper, upper_or_none, offset, left, right, Field, byte, time, type_of}
use Rattle.constraint.specs.Types.{fields_of, count_of, last_type, takes_count, least_counts, most_counts, TypeKnown}
use Rattle.constraint.specs.Meets.{Compares}
use Rattle.constraint.specs.Accepted.{kinds, KindsFit, KindClassFits, KindsSuit, EachField, FieldInRange, InRange, NotBelow, bound_after, Ordered}
use Rattle.constraint.specs.Accepted.{LowerFirst, row_questions_in, rows_questions, Accepted}
use Rattle.constraint.specs.Records.{Absent}
use Rattle.constraint.specs.Answer.{Taken}
use Rattle.constraint.specs.Constraint.{Constraint}
use Rattle.constraint.proofs.FittingKinds.{kinds_none, kinds_more}
use Rattle.constraint.proofs.Lists.{both, or-true}

-- both of two tests
pub and_true : (a b : Bool) → (a && b) ≡ true → (a ≡ true) × (b ≡ true)
and_true true b e = (refl, e)
and_true false b e = both (sym e)

-- ---- the tests

abbrev absent_by : ℕ → List ℕ → Bool
absent_by k [] = true
absent_by k (j ∷ ks) = not (eqb k j) && absent_by k ks

abbrev kinds_by : List ℕ → Bool
kinds_by [] = true
kinds_by (k ∷ ks) = (leb k last_kind && absent_by k ks) && kinds_by ks

abbrev each_by : (Field → Bool) → List Field → Bool
each_by test [] = true
each_by test (f ∷ fields) = test f && each_by test fields

abbrev class_by : Field → Bool
class_by (byte kind x) = ltb x first_coloured
class_by (byte coloured x) = leb first_coloured x
class_by (byte count x) = true
class_by (byte (span limit) x) = true
class_by (time role x) = true

abbrev range_by : Field → Bool
range_by (byte kind x) = true
range_by (byte coloured x) = true
range_by (byte count x) = true
range_by (byte (span limit) x) = leb 1 x && leb x limit
range_by (time (plain what) x) = leb x last_time
range_by (time lower x) = leb x last_time
range_by (time upper x) = leb x last_time
range_by (time upper_or_none x) = leb x last_time || eqb x no_limit
range_by (time offset x) = leb x last_time
range_by (time left x) = leb x last_time
range_by (time right x) = leb x last_time

abbrev compares_by : ℕ → ℕ → ℕ → Bool
compares_by n x y = cond (eqb n 1) (leb x y) (cond (eqb n 2) (ltb x y) (cond (eqb n 3) (leb y x) (cond (eqb n 4) (ltb y x) (eqb x y))))

abbrev bound_by : ℕ → ℕ → Field → Bool
bound_by n low (byte role x) = true
bound_by n low (time (plain what) x) = true
bound_by n low (time lower x) = true
bound_by n low (time upper x) = leb low x
bound_by n low (time upper_or_none x) = leb low x
bound_by n low (time offset x) = leb low x
bound_by n low (time left x) = true
bound_by n low (time right x) = compares_by n low x

abbrev ordered_by : ℕ → ℕ → List Field → Bool
ordered_by n low [] = true
ordered_by n low (f ∷ fields) = bound_by n low f && ordered_by n (bound_after low f) fields

abbrev count_by : ℕ → ℕ → Bool
count_by t n = not (takes_count t) || (leb (at least_counts t) n && leb n (at most_counts t))

abbrev known_by : ℕ → ℕ → Bool
known_by t n = (leb 1 t && leb t (last_type 2)) && count_by t n

-- question 4 in the second edition, then 5, 18, 6 and 7
abbrev pub fits : Constraint → Bool
fits c =
    known_by (type_of c) (count_of c)
    && (kinds_by (kinds c) && (each_by class_by (fields_of c) && (each_by range_by (fields_of c) && ordered_by (count_of c) 0 (fields_of c))))

-- ---- what they say

absent_by_lem : (k : ℕ) (ks : List ℕ) → absent_by k ks ≡ true → Absent k ks
absent_by_lem k [] e = tt
absent_by_lem k (j ∷ ks) e =
    let parts = and_true (not (eqb k j)) (absent_by k ks) e in
    (eqb-false k j (not-true (eqb k j) parts.0), absent_by_lem k ks parts.1)

kinds_by_lem : (ks : List ℕ) → kinds_by ks ≡ true → KindsFit ks
kinds_by_lem [] e = kinds_none
kinds_by_lem (k ∷ ks) e =
    let parts = and_true (leb k last_kind && absent_by k ks) (kinds_by ks) e in
    let first = and_true (leb k last_kind) (absent_by k ks) parts.0 in
    kinds_more k ks (leb-true k last_kind first.0, absent_by_lem k ks first.1) (kinds_by_lem ks parts.1)

each_by_lem : {Asked : Field → Type 0} (test : Field → Bool) → ((f : Field) → test f ≡ true → Asked f) → (fields : List Field)
    → each_by test fields ≡ true → EachField Asked fields
each_by_lem test says [] e = tt
each_by_lem test says (f ∷ fields) e =
    let parts = and_true (test f) (each_by test fields) e in (says f parts.0, each_by_lem test says fields parts.1)

class_by_lem : (f : Field) → class_by f ≡ true → KindClassFits f
class_by_lem (byte kind x) e = ltb-true x first_coloured e
class_by_lem (byte coloured x) e = leb-true first_coloured x e
class_by_lem (byte count x) e = tt
class_by_lem (byte (span limit) x) e = tt
class_by_lem (time role x) e = tt

upper_by : (x : ℕ) → (leb x last_time ≡ true) ⊎ (eqb x no_limit ≡ true) → (x ≤ last_time) ⊎ (x ≡ no_limit)
upper_by x (inl low) = inl (leb-true x last_time low)
upper_by x (inr mark) = inr (eqb-true x no_limit mark)

range_by_lem : (f : Field) → range_by f ≡ true → FieldInRange f
range_by_lem (byte kind x) e = tt
range_by_lem (byte coloured x) e = tt
range_by_lem (byte count x) e = tt
range_by_lem (byte (span limit) x) e =
    let parts = and_true (leb 1 x) (leb x limit) e in (leb-true 1 x parts.0, leb-true x limit parts.1)
range_by_lem (time (plain what) x) e = leb-true x last_time e
range_by_lem (time lower x) e = leb-true x last_time e
range_by_lem (time upper x) e = leb-true x last_time e
range_by_lem (time upper_or_none x) e = upper_by x (or-true (leb x last_time) (eqb x no_limit) e)
range_by_lem (time offset x) e = leb-true x last_time e
range_by_lem (time left x) e = leb-true x last_time e
range_by_lem (time right x) e = leb-true x last_time e

-- one of two, by a test
either_by : (b : Bool) {p q : Bool} {P Q : Type 0} → (p ≡ true → P) → (q ≡ true → Q) → cond b p q ≡ true → cond b P Q
either_by true f g e = f e
either_by false f g e = g e

compares_by_lem : (n x y : ℕ) → compares_by n x y ≡ true → Compares n x y
compares_by_lem n x y =
    either_by (eqb n 1) (leb-true x y)
    (either_by (eqb n 2) (ltb-true x y) (either_by (eqb n 3) (leb-true y x) (either_by (eqb n 4) (ltb-true y x) (eqb-true x y))))

bound_by_lem : (n low : ℕ) (f : Field) → bound_by n low f ≡ true → NotBelow n low f
bound_by_lem n low (byte role x) e = tt
bound_by_lem n low (time (plain what) x) e = tt
bound_by_lem n low (time lower x) e = tt
bound_by_lem n low (time upper x) e = leb-true low x e
bound_by_lem n low (time upper_or_none x) e = leb-true low x e
bound_by_lem n low (time offset x) e = leb-true low x e
bound_by_lem n low (time left x) e = tt
bound_by_lem n low (time right x) e = compares_by_lem n low x e

ordered_by_lem : (n low : ℕ) (fields : List Field) → ordered_by n low fields ≡ true → Ordered n low fields
ordered_by_lem n low [] e = tt
ordered_by_lem n low (f ∷ fields) e =
    let parts = and_true (bound_by n low f) (ordered_by n (bound_after low f) fields) e in
    (bound_by_lem n low f parts.0, ordered_by_lem n (bound_after low f) fields parts.1)

count_by_lem : (t n : ℕ) → count_by t n ≡ true → takes_count t ≡ true → (at least_counts t ≤ n) × (n ≤ at most_counts t)
count_by_lem t n e takes =
    let parts = and_true (leb (at least_counts t) n) (leb n (at most_counts t)) (rw takes at e) in
    (leb-true (at least_counts t) n parts.0, leb-true n (at most_counts t) parts.1)

known_by_lem : (t n : ℕ) → known_by t n ≡ true → TypeKnown 2 t n
known_by_lem t n e =
    let parts = and_true (leb 1 t && leb t (last_type 2)) (count_by t n) e in
    let typed = and_true (leb 1 t) (leb t (last_type 2)) parts.0 in
    record { type_known = (leb-true 1 t typed.0, leb-true t (last_type 2) typed.1); n_known = count_by_lem t n parts.1 }

-- so the row is asked 4, 5, 18, 6 and 7, and then come the later questions
pub asked_by : (c : Constraint) → fits c ≡ true → (later : List Question) → Judged later Taken → Judged (row_questions_in 2 c ++ later) Taken
unfolding Judged KindsSuit InRange LowerFirst
asked_by c e later judged =
    let fields = fields_of c in
    let typed = and_true (known_by (type_of c) (count_of c)) _ e in
    let parts = and_true (kinds_by (kinds c)) _ typed.1 in
    let rest = and_true (each_by class_by fields) _ parts.1 in
    let last = and_true (each_by range_by fields) _ rest.1 in
    inl (
      known_by_lem (type_of c) (count_of c) typed.0,
      inl (
        kinds_by_lem (kinds c) parts.0,
        inl (
          each_by_lem class_by class_by_lem fields rest.0,
          inl (each_by_lem range_by range_by_lem fields last.0, inl (ordered_by_lem (count_of c) 0 fields last.1, judged)),
        ),
      ),
    )

-- a table of this row alone is accepted
pub accepted_by : (c : Constraint) → fits c ≡ true → Accepted (c ∷ [])
unfolding Judged rows_questions
accepted_by c e = (2, inl (omega arith, asked_by c e [] refl))

-- and one of two rows
pub accepted_both : (c d : Constraint) → fits c ≡ true → fits d ≡ true → Accepted (c ∷ d ∷ [])
unfolding Judged rows_questions
accepted_both c d e f = (2, inl (omega arith, asked_by c e (rows_questions 2 1 (d ∷ []) []) (inl (omega arith, asked_by d f [] refl))))
