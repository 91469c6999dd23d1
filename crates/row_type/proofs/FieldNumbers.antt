-- A constraint's numbers are read off its fields one by one, so what is true of them is shown field by field: the type is the constraint's, and the
-- kinds are its kinds in their order.
use Rattle.row_type.proofs.Names.{Constraint, Field, List, Parameters, [], ◌++◌, ◌-◌, ◌∙◌, ◌∷◌, ◌≡◌, ◌≤◌, ap, arith, byte}
use Rattle.row_type.proofs.Names.{coloured, count, fields_of, jitter, kind, kind_fields, kinds, kinds_in, left, len, length, lower, minimum}
use Rattle.row_type.proofs.Names.{no_fields, no_kind, offset, parameters_of, plain, refl, replicate, right, span, streams_in, suc, take}
use Rattle.row_type.proofs.Names.{take-take, time, tolerance, type_of, upper, upper_or_none, with_fields, with_kind, zero, ℕ}

-- ---- type and kinds

tag_kept : (fields : List Field) (r : Parameters) → (with_fields fields r).tag ≡ r.tag
tag_kept [] r = refl
tag_kept (byte kind x ∷ fields) r = tag_kept fields r
tag_kept (byte coloured x ∷ fields) r = tag_kept fields r
tag_kept (byte count x ∷ fields) r = tag_kept fields r
tag_kept (byte (span limit) x ∷ fields) r = tag_kept fields r
tag_kept (time lower x ∷ fields) r = tag_kept fields r
tag_kept (time upper x ∷ fields) r = tag_kept fields r
tag_kept (time upper_or_none x ∷ fields) r = tag_kept fields r
tag_kept (time offset x ∷ fields) r = tag_kept fields r
tag_kept (time left x ∷ fields) r = tag_kept fields r
tag_kept (time right x ∷ fields) r = tag_kept fields r
tag_kept (time (plain jitter) x ∷ fields) r = tag_kept fields r
tag_kept (time (plain minimum) x ∷ fields) r = tag_kept fields r
tag_kept (time (plain len) x ∷ fields) r = tag_kept fields r
tag_kept (time (plain tolerance) x ∷ fields) r = tag_kept fields r

-- a rule has its constraint's type
pub tag_is : (c : Constraint) → (parameters_of c).tag ≡ type_of c
tag_is c = tag_kept (fields_of c) (no_fields (type_of c))

-- the five kinds among the numbers
abbrev pub kinds_of : Parameters → List ℕ
kinds_of r = r.first ∷ r.second ∷ r.third ∷ r.fourth ∷ r.fifth ∷ []

kind_first : (x : ℕ) (fields : List Field) (r : Parameters) → kinds_of (with_fields fields r) ≡ take 5 (kinds_in fields ++ kinds_of r)
    → kinds_of (with_kind x (with_fields fields r)) ≡ x ∷ take 4 (kinds_in fields ++ kinds_of r)
kind_first x fields r e = ap (λ (ks : List ℕ). x ∷ ks) (ap (take 4) e ∙ take-take 4 5 (kinds_in fields ++ kinds_of r) (omega arith))

kinds_first : (fields : List Field) (r : Parameters) → kinds_of (with_fields fields r) ≡ take 5 (kinds_in fields ++ kinds_of r)
kinds_first [] r = refl
kinds_first (byte kind x ∷ fields) r = kind_first x fields r (kinds_first fields r)
kinds_first (byte coloured x ∷ fields) r = kind_first x fields r (kinds_first fields r)
kinds_first (byte count x ∷ fields) r = kinds_first fields r
kinds_first (byte (span limit) x ∷ fields) r = kinds_first fields r
kinds_first (time lower x ∷ fields) r = kinds_first fields r
kinds_first (time upper x ∷ fields) r = kinds_first fields r
kinds_first (time upper_or_none x ∷ fields) r = kinds_first fields r
kinds_first (time offset x ∷ fields) r = kinds_first fields r
kinds_first (time left x ∷ fields) r = kinds_first fields r
kinds_first (time right x ∷ fields) r = kinds_first fields r
kinds_first (time (plain jitter) x ∷ fields) r = kinds_first fields r
kinds_first (time (plain minimum) x ∷ fields) r = kinds_first fields r
kinds_first (time (plain len) x ∷ fields) r = kinds_first fields r
kinds_first (time (plain tolerance) x ∷ fields) r = kinds_first fields r

-- so the kinds of a rule are its constraint's, and 64 for those that it lacks
pub kinds_are : (c : Constraint) → kinds_of (parameters_of c) ≡ take 5 (kinds c ++ replicate 5 no_kind)
kinds_are c = kinds_first (fields_of c) (no_fields (type_of c))

-- ---- a list of kinds, before a tolerance

module _ (x : ℕ) where
  abbrev pub listed : List ℕ → List Field
  listed ks = kind_fields kind ks ++ (time (plain tolerance) x ∷ [])

  pub kinds_listed : (ks : List ℕ) → kinds_in (listed ks) ≡ ks
  kinds_listed [] = refl
  kinds_listed (k ∷ ks) = ap (λ (l : List ℕ). k ∷ l) (kinds_listed ks)

  pub streams_listed : (ks : List ℕ) → streams_in (listed ks) ≡ ks
  streams_listed [] = refl
  streams_listed (k ∷ ks) = ap (λ (l : List ℕ). k ∷ l) (streams_listed ks)

  pub upper_listed : (ks : List ℕ) (r : Parameters) → (with_fields (listed ks) r).upper ≡ x
  upper_listed [] r = refl
  upper_listed (k ∷ ks) r = upper_listed ks r

-- the first of some kinds and of copies of another are these kinds and as many copies as there is room for
first_copies : (n m y : ℕ) → n ≤ m → take n (replicate m y) ≡ replicate n y
first_copies zero m y h = refl
first_copies (suc n) zero y h = absurd (omega arith)
first_copies (suc n) (suc m) y h = ap (λ (l : List ℕ). y ∷ l) (first_copies n m y (omega arith))

pub first_padded : (n m y : ℕ) (ks : List ℕ) → n ≤ m → length ks ≤ n → take n (ks ++ replicate m y) ≡ ks ++ replicate (n - length ks) y
first_padded n m y [] room few = let all : n ≡ n - 0 = omega arith in first_copies n m y room ∙ ap (λ (i : ℕ). replicate i y) all
first_padded zero m y (k ∷ ks) room few = absurd (omega arith)
first_padded (suc n) m y (k ∷ ks) room few =
    let rest : n - length ks ≡ suc n - length (k ∷ ks) = omega arith in
    ap (λ (l : List ℕ). k ∷ l) (first_padded n m y ks (omega arith) (omega arith) ∙ ap (λ (i : ℕ). ks ++ replicate i y) rest)
