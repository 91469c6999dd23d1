-- What is seen type by type: the constraint of some values has the type's number and the fields that the type's line says, and a constraint is that
-- of its own values. All else goes by fields.
use Prim.Native.Nat.{ℕ, zero, suc, ◌+◌, ◌-◌, ◌≤◌, ◌<◌}
use mathlib.Core.Path.{◌≡◌, refl, ap, subst⁻¹}
use mathlib.Core.Bool.{true}
use mathlib.Core.List.{List, [], ◌∷◌, ◌++◌}
use native.Mathlib.Omega.{arith}
use borrow.Author.Tests.{ltb-true, ltb-false, ne_eqb}
use lib.Dec.{ltb}
use lib.ListN.{length, replicate}
use Rattle.constraint.proofs.Lists.{split}
use Rattle.constraint.specs.Steps.{at}
use Rattle.constraint.specs.Constraint.{Constraint, Delay, StrongDelay, Repeat, Sporadic, Burst, Order, StrongSynchronization, ExecutionTime}
use Rattle.constraint.specs.Constraint.{Reaction, Repetition, Synchronization, Age, OutputSynchronization, InputSynchronization, Pattern}
use Rattle.constraint.specs.Constraint.{Arbitrary, Comparison}
use Rattle.constraint.specs.Types.{Field, type_of, fields_of, count_of}
use Rattle.constraint.specs.Table.{width_of}
use Rattle.constraint.specs.Types.{lengths, least_counts, most_counts, takes_count, length_of}
use Rattle.table_row.specs.Records.{row_read, roles_of, fields_as, fields_with, entries, pairs, total, width, cleared}
use Rattle.table_row.specs.Records.{no_constraint}

-- what is shown of each of n numbers from i on, one after the other, is shown of all of them
abbrev pub EachThen : (ℕ → Type 0) → Type 0 → ℕ → ℕ → Type 0
EachThen P R i zero = R
EachThen P R i (suc n) = P i → EachThen P R (suc i) n

pub each_then : (P : ℕ → Type 0) (R : Type 0) (i n : ℕ) → (((x : ℕ) → i ≤ x → x < i + n → P x) → R) → EachThen P R i n
each_then P R i zero then = then (λ x late less. absurd (omega arith))
each_then P R i (suc n) then =
    λ here. each_then P R (suc i) n
    (λ later. then (λ x late less.
    split (ltb i x) (λ b. P x) (λ e. later x (omega (arith, ltb-true i x e)) (omega arith))
    (λ e. let same : x ≡ i = omega (arith, ltb-false i x e) in subst⁻¹ P same here)))

-- The constraint of some values is of the type, and has the fields that the line of the type says, which are as long as the list of lengths says;
-- the first of them is a byte.
abbrev pub Reads : ℕ → ℕ → List ℕ → Type 0
Reads t n v =
    (type_of (row_read t v) ≡ t) × (fields_of (row_read t v) ≡ fields_as (roles_of t n) v) × (length_of t n ≡ 1 + total (roles_of t n))
    × (width (at (roles_of t n) 0) ≡ 1) × (length (roles_of t n) ≡ 18)

-- the n is one of those that the type has, and the first value
abbrev pub CountIs : ℕ → ℕ → ℕ → Type 0
CountIs t n first = (first ≡ n) × (at least_counts t ≤ n) × (n ≤ at most_counts t)

module _ (n : ℕ) (v : List ℕ) where
  abbrev Here : ℕ → Type 0
  Here t = Reads t n v

  abbrev Counted : ℕ → Type 0
  Counted t = CountIs t n (at v 0) → Here t

  -- by the n
  by_count : (t : ℕ) → CountIs t n (at v 0) → (least number : ℕ) → least ≤ at least_counts t → at most_counts t < least + number
      → EachThen (λ m. (at v 0 ≡ m) × (n ≡ m) → Here t) (Here t) least number
  by_count t known least number some few =
      each_then (λ m. (at v 0 ≡ m) × (n ≡ m) → Here t) (Here t) least number
      (λ each. each n (omega (arith, known.1)) (omega (arith, known.2)) (known.0, refl))

  strong_synchronization : Counted 7
  unfolding row_read fields_with
  strong_synchronization known =
      by_count 7 known 2 3 (omega arith) (omega arith)
      (λ e. rw (e.0, e.1) (refl, refl, refl, refl, refl)) (λ e. rw (e.0, e.1) (refl, refl, refl, refl, refl))
      (λ e. rw (e.0, e.1) (refl, refl, refl, refl, refl))

  synchronization : Counted 11
  unfolding row_read fields_with
  synchronization known =
      by_count 11 known 2 3 (omega arith) (omega arith)
      (λ e. rw (e.0, e.1) (refl, refl, refl, refl, refl)) (λ e. rw (e.0, e.1) (refl, refl, refl, refl, refl))
      (λ e. rw (e.0, e.1) (refl, refl, refl, refl, refl))

  output : Counted 13
  unfolding row_read fields_with
  output known =
      by_count 13 known 2 3 (omega arith) (omega arith)
      (λ e. rw (e.0, e.1) (refl, refl, refl, refl, refl)) (λ e. rw (e.0, e.1) (refl, refl, refl, refl, refl))
      (λ e. rw (e.0, e.1) (refl, refl, refl, refl, refl))

  input : Counted 14
  unfolding row_read fields_with
  input known =
      by_count 14 known 2 3 (omega arith) (omega arith)
      (λ e. rw (e.0, e.1) (refl, refl, refl, refl, refl)) (λ e. rw (e.0, e.1) (refl, refl, refl, refl, refl))
      (λ e. rw (e.0, e.1) (refl, refl, refl, refl, refl))

  pattern : Counted 15
  unfolding row_read fields_with
  pattern known =
      by_count 15 known 1 8 (omega arith) (omega arith)
      (λ e. rw (e.0, e.1) (refl, refl, refl, refl, refl)) (λ e. rw (e.0, e.1) (refl, refl, refl, refl, refl))
      (λ e. rw (e.0, e.1) (refl, refl, refl, refl, refl)) (λ e. rw (e.0, e.1) (refl, refl, refl, refl, refl))
      (λ e. rw (e.0, e.1) (refl, refl, refl, refl, refl)) (λ e. rw (e.0, e.1) (refl, refl, refl, refl, refl))
      (λ e. rw (e.0, e.1) (refl, refl, refl, refl, refl)) (λ e. rw (e.0, e.1) (refl, refl, refl, refl, refl))

  arbitrary : Counted 16
  unfolding row_read fields_with
  arbitrary known =
      by_count 16 known 1 8 (omega arith) (omega arith)
      (λ e. rw (e.0, e.1) (refl, refl, refl, refl, refl)) (λ e. rw (e.0, e.1) (refl, refl, refl, refl, refl))
      (λ e. rw (e.0, e.1) (refl, refl, refl, refl, refl)) (λ e. rw (e.0, e.1) (refl, refl, refl, refl, refl))
      (λ e. rw (e.0, e.1) (refl, refl, refl, refl, refl)) (λ e. rw (e.0, e.1) (refl, refl, refl, refl, refl))
      (λ e. rw (e.0, e.1) (refl, refl, refl, refl, refl)) (λ e. rw (e.0, e.1) (refl, refl, refl, refl, refl))

  pub values_read : (t : ℕ) → (1 ≤ t) × (t < length lengths) → (takes_count t ≡ true → CountIs t n (at v 0)) → Here t
  unfolding row_read fields_with
  values_read t known several =
      each_then (λ m. t ≡ m → Here m) (Here t) 1 17 (λ each. each t known.0 (omega (arith, known.1)) refl)
      (λ e. (refl, refl, omega arith, refl, refl))
      (λ e. (refl, refl, omega arith, refl, refl))
      (λ e. (refl, refl, omega arith, refl, refl))
      (λ e. (refl, refl, omega arith, refl, refl))
      (λ e. (refl, refl, omega arith, refl, refl))
      (λ e. (refl, refl, omega arith, refl, refl))
      (λ e. strong_synchronization (rw e at several refl))
      (λ e. (refl, refl, omega arith, refl, refl))
      (λ e. (refl, refl, omega arith, refl, refl))
      (λ e. (refl, refl, omega arith, refl, refl))
      (λ e. synchronization (rw e at several refl))
      (λ e. (refl, refl, omega arith, refl, refl))
      (λ e. output (rw e at several refl))
      (λ e. input (rw e at several refl))
      (λ e. pattern (rw e at several refl))
      (λ e. arbitrary (rw e at several refl))
      (λ e. (refl, refl, omega arith, refl, refl))

-- Of any values: the type, and the n, are those of the values

pub entries_length : (n : ℕ) (v : List ℕ) (i : ℕ) → length (entries n v i) ≡ n
entries_length zero v i = refl
entries_length (suc n) v i = ap suc (entries_length n v (suc i))

pub pairs_length : (n : ℕ) (v : List ℕ) (i : ℕ) → length (pairs n v i) ≡ n
pairs_length zero v i = refl
pairs_length (suc n) v i = ap suc (pairs_length n v (suc (suc i)))

module _ (v : List ℕ) where
  abbrev pub Says : ℕ → Type 0
  Says t = (type_of (row_read t v) ≡ t) × (takes_count t ≡ true → count_of (row_read t v) ≡ at v 0)

  pub says : (t : ℕ) → (1 ≤ t) × (t < length lengths) → Says t
  unfolding row_read
  says t known =
      each_then (λ m. t ≡ m → Says m) (Says t) 1 17 (λ each. each t known.0 (omega (arith, known.1)) refl)
      (λ e. (refl, λ _. refl))
      (λ e. (refl, λ _. refl))
      (λ e. (refl, λ _. refl))
      (λ e. (refl, λ _. refl))
      (λ e. (refl, λ _. refl))
      (λ e. (refl, λ _. refl))
      (λ e. (refl, λ _. entries_length (at v 0) v 1))
      (λ e. (refl, λ _. refl))
      (λ e. (refl, λ _. refl))
      (λ e. (refl, λ _. refl))
      (λ e. (refl, λ _. entries_length (at v 0) v 1))
      (λ e. (refl, λ _. refl))
      (λ e. (refl, λ _. entries_length (at v 0) v 2))
      (λ e. (refl, λ _. entries_length (at v 0) v 1))
      (λ e. (refl, λ _. entries_length (at v 0) v 5))
      (λ e. (refl, λ _. pairs_length (at v 0) v 2))
      (λ e. (refl, λ _. refl))

-- a number that is no type's
pub no_type : (t : ℕ) (v : List ℕ) → ¬ ((1 ≤ t) × (t < length lengths)) → row_read t v ≡ no_constraint
unfolding row_read
no_type t v other =
    rw (
      ne_eqb t 1 (λ e. other (omega arith)),
      ne_eqb t 2 (λ e. other (omega arith)),
      ne_eqb t 3 (λ e. other (omega arith)),
      ne_eqb t 4 (λ e. other (omega arith)),
      ne_eqb t 5 (λ e. other (omega arith)),
      ne_eqb t 6 (λ e. other (omega arith)),
      ne_eqb t 7 (λ e. other (omega arith)),
      ne_eqb t 8 (λ e. other (omega arith)),
      ne_eqb t 9 (λ e. other (omega arith)),
      ne_eqb t 10 (λ e. other (omega arith)),
      ne_eqb t 11 (λ e. other (omega arith)),
      ne_eqb t 12 (λ e. other (omega arith)),
      ne_eqb t 13 (λ e. other (omega arith)),
      ne_eqb t 14 (λ e. other (omega arith)),
      ne_eqb t 15 (λ e. other (omega arith)),
      ne_eqb t 16 (λ e. other (omega arith)),
      ne_eqb t 17 (λ e. other (omega arith)),
    )

-- From a constraint

-- values, and 0 up to so many
abbrev padded : ℕ → List ℕ → List ℕ
padded m xs = xs ++ replicate (m - length xs) 0

abbrev flat : List (ℕ × ℕ) → List ℕ
flat [] = []
flat (p ∷ later) = p.0 ∷ p.1 ∷ flat later

-- the values in their places
abbrev pub values_of : Constraint → List ℕ
values_of (Delay a b x y) = a ∷ b ∷ x ∷ y ∷ []
values_of (StrongDelay a b x y) = a ∷ b ∷ x ∷ y ∷ []
values_of (Repeat a b x y) = a ∷ b ∷ x ∷ y ∷ []
values_of (Sporadic a x y z w) = a ∷ x ∷ y ∷ z ∷ w ∷ []
values_of (Burst a b x y) = a ∷ b ∷ x ∷ y ∷ []
values_of (Order a b) = a ∷ b ∷ []
values_of (StrongSynchronization ks x) = length ks ∷ padded 4 ks ++ x ∷ []
values_of (ExecutionTime a b c d x y) = a ∷ b ∷ c ∷ d ∷ x ∷ y ∷ []
values_of (Reaction a b x y) = a ∷ b ∷ x ∷ y ∷ []
values_of (Repetition a b x y z) = a ∷ b ∷ x ∷ y ∷ z ∷ []
values_of (Synchronization ks x) = length ks ∷ padded 4 ks ++ x ∷ []
values_of (Age a b x y) = a ∷ b ∷ x ∷ y ∷ []
values_of (OutputSynchronization a ks x) = length ks ∷ a ∷ padded 4 ks ++ x ∷ []
values_of (InputSynchronization ks a x) = length ks ∷ padded 4 ks ++ a ∷ x ∷ []
values_of (Pattern a x y z xs) = length xs ∷ a ∷ x ∷ y ∷ z ∷ xs
values_of (Arbitrary a ps) = length ps ∷ a ∷ flat ps
values_of (Comparison o x y) = o ∷ x ∷ y ∷ []

-- all 18, with 0 in those that are not used
abbrev pub placed : Constraint → List ℕ
placed c = cleared (roles_of (type_of c) (count_of c)) (entries 18 (values_of c) 0)

-- its n is one of those that its type has
abbrev pub CountFits : Constraint → Type 0
CountFits c = takes_count (type_of c) ≡ true → (at least_counts (type_of c) ≤ count_of c) × (count_of c ≤ at most_counts (type_of c))

-- the width of the first of some fields
abbrev pub first_width : List Field → ℕ
first_width [] = 0
first_width (f ∷ fields) = width_of f

-- the first field of every type is a byte
pub first_wide : (c : Constraint) → first_width (fields_of c) ≡ 1
first_wide (Delay a b x y) = refl
first_wide (StrongDelay a b x y) = refl
first_wide (Repeat a b x y) = refl
first_wide (Sporadic a x y z w) = refl
first_wide (Burst a b x y) = refl
first_wide (Order a b) = refl
first_wide (StrongSynchronization ks x) = refl
first_wide (ExecutionTime a b c d x y) = refl
first_wide (Reaction a b x y) = refl
first_wide (Repetition a b x y z) = refl
first_wide (Synchronization ks x) = refl
first_wide (Age a b x y) = refl
first_wide (OutputSynchronization a ks x) = refl
first_wide (InputSynchronization ks a x) = refl
first_wide (Pattern a x y z xs) = refl
first_wide (Arbitrary a ps) = refl
first_wide (Comparison o x y) = refl

-- it is the constraint of its values, of which the first is its n
pub again : (c : Constraint) → CountFits c
    → (row_read (type_of c) (placed c) ≡ c) × (at (placed c) 0 ≡ count_of c) × (length (placed c) ≡ 18)
unfolding row_read
again (Delay a b x y) fits = (refl, refl, refl)
again (StrongDelay a b x y) fits = (refl, refl, refl)
again (Repeat a b x y) fits = (refl, refl, refl)
again (Sporadic a x y z w) fits = (refl, refl, refl)
again (Burst a b x y) fits = (refl, refl, refl)
again (Order a b) fits = (refl, refl, refl)
again (StrongSynchronization [] x) fits = absurd (omega (arith, fits refl))
again (StrongSynchronization (k0 ∷ []) x) fits = absurd (omega (arith, fits refl))
again (StrongSynchronization (k0 ∷ k1 ∷ []) x) fits = (refl, refl, refl)
again (StrongSynchronization (k0 ∷ k1 ∷ k2 ∷ []) x) fits = (refl, refl, refl)
again (StrongSynchronization (k0 ∷ k1 ∷ k2 ∷ k3 ∷ []) x) fits = (refl, refl, refl)
again (StrongSynchronization (k0 ∷ k1 ∷ k2 ∷ k3 ∷ k4 ∷ ks) x) fits = absurd (omega (arith, fits refl))
again (ExecutionTime a b c d x y) fits = (refl, refl, refl)
again (Reaction a b x y) fits = (refl, refl, refl)
again (Repetition a b x y z) fits = (refl, refl, refl)
again (Synchronization [] x) fits = absurd (omega (arith, fits refl))
again (Synchronization (k0 ∷ []) x) fits = absurd (omega (arith, fits refl))
again (Synchronization (k0 ∷ k1 ∷ []) x) fits = (refl, refl, refl)
again (Synchronization (k0 ∷ k1 ∷ k2 ∷ []) x) fits = (refl, refl, refl)
again (Synchronization (k0 ∷ k1 ∷ k2 ∷ k3 ∷ []) x) fits = (refl, refl, refl)
again (Synchronization (k0 ∷ k1 ∷ k2 ∷ k3 ∷ k4 ∷ ks) x) fits = absurd (omega (arith, fits refl))
again (Age a b x y) fits = (refl, refl, refl)
again (OutputSynchronization a [] x) fits = absurd (omega (arith, fits refl))
again (OutputSynchronization a (k0 ∷ []) x) fits = absurd (omega (arith, fits refl))
again (OutputSynchronization a (k0 ∷ k1 ∷ []) x) fits = (refl, refl, refl)
again (OutputSynchronization a (k0 ∷ k1 ∷ k2 ∷ []) x) fits = (refl, refl, refl)
again (OutputSynchronization a (k0 ∷ k1 ∷ k2 ∷ k3 ∷ []) x) fits = (refl, refl, refl)
again (OutputSynchronization a (k0 ∷ k1 ∷ k2 ∷ k3 ∷ k4 ∷ ks) x) fits = absurd (omega (arith, fits refl))
again (InputSynchronization [] a x) fits = absurd (omega (arith, fits refl))
again (InputSynchronization (k0 ∷ []) a x) fits = absurd (omega (arith, fits refl))
again (InputSynchronization (k0 ∷ k1 ∷ []) a x) fits = (refl, refl, refl)
again (InputSynchronization (k0 ∷ k1 ∷ k2 ∷ []) a x) fits = (refl, refl, refl)
again (InputSynchronization (k0 ∷ k1 ∷ k2 ∷ k3 ∷ []) a x) fits = (refl, refl, refl)
again (InputSynchronization (k0 ∷ k1 ∷ k2 ∷ k3 ∷ k4 ∷ ks) a x) fits = absurd (omega (arith, fits refl))
again (Pattern a x y z []) fits = absurd (omega (arith, fits refl))
again (Pattern a x y z (k0 ∷ [])) fits = (refl, refl, refl)
again (Pattern a x y z (k0 ∷ k1 ∷ [])) fits = (refl, refl, refl)
again (Pattern a x y z (k0 ∷ k1 ∷ k2 ∷ [])) fits = (refl, refl, refl)
again (Pattern a x y z (k0 ∷ k1 ∷ k2 ∷ k3 ∷ [])) fits = (refl, refl, refl)
again (Pattern a x y z (k0 ∷ k1 ∷ k2 ∷ k3 ∷ k4 ∷ [])) fits = (refl, refl, refl)
again (Pattern a x y z (k0 ∷ k1 ∷ k2 ∷ k3 ∷ k4 ∷ k5 ∷ [])) fits = (refl, refl, refl)
again (Pattern a x y z (k0 ∷ k1 ∷ k2 ∷ k3 ∷ k4 ∷ k5 ∷ k6 ∷ [])) fits = (refl, refl, refl)
again (Pattern a x y z (k0 ∷ k1 ∷ k2 ∷ k3 ∷ k4 ∷ k5 ∷ k6 ∷ k7 ∷ [])) fits = (refl, refl, refl)
again (Pattern a x y z (k0 ∷ k1 ∷ k2 ∷ k3 ∷ k4 ∷ k5 ∷ k6 ∷ k7 ∷ k8 ∷ ks)) fits = absurd (omega (arith, fits refl))
again (Arbitrary a []) fits = absurd (omega (arith, fits refl))
again (Arbitrary a (k0 ∷ [])) fits = (refl, refl, refl)
again (Arbitrary a (k0 ∷ k1 ∷ [])) fits = (refl, refl, refl)
again (Arbitrary a (k0 ∷ k1 ∷ k2 ∷ [])) fits = (refl, refl, refl)
again (Arbitrary a (k0 ∷ k1 ∷ k2 ∷ k3 ∷ [])) fits = (refl, refl, refl)
again (Arbitrary a (k0 ∷ k1 ∷ k2 ∷ k3 ∷ k4 ∷ [])) fits = (refl, refl, refl)
again (Arbitrary a (k0 ∷ k1 ∷ k2 ∷ k3 ∷ k4 ∷ k5 ∷ [])) fits = (refl, refl, refl)
again (Arbitrary a (k0 ∷ k1 ∷ k2 ∷ k3 ∷ k4 ∷ k5 ∷ k6 ∷ [])) fits = (refl, refl, refl)
again (Arbitrary a (k0 ∷ k1 ∷ k2 ∷ k3 ∷ k4 ∷ k5 ∷ k6 ∷ k7 ∷ [])) fits = (refl, refl, refl)
again (Arbitrary a (k0 ∷ k1 ∷ k2 ∷ k3 ∷ k4 ∷ k5 ∷ k6 ∷ k7 ∷ k8 ∷ ks)) fits = absurd (omega (arith, fits refl))
again (Comparison o x y) fits = (refl, refl, refl)
