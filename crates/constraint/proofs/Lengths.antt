-- The lengths of rows, how many kinds they name, and which editions have their types: each is read off a list, and what holds for every number in a
-- list holds at each place.
use Rattle.constraint.proofs.Names.{List, [], ◌*◌, ◌∷◌, ◌≡◌, ◌≤◌, arith, at, entry_sizes}
use Rattle.constraint.proofs.Names.{Age, Arbitrary, Burst, Comparison, Constraint, Delay, ExecutionTime, Field, InputSynchronization, Order}
use Rattle.constraint.proofs.Names.{OutputSynchronization, Pattern, Reaction, Repeat, Repetition, Sporadic, StrongDelay, StrongSynchronization}
use Rattle.constraint.proofs.Names.{Synchronization}
use Rattle.constraint.proofs.Names.{TypeKnown, byte, coloured, count_of, kind, kind_fields, kinds, kinds_in, offset_fields, pair_fields, plain}
use Rattle.constraint.proofs.Names.{refl, time, tolerance, type_of, ◌++◌, ◌+◌}
use Rattle.constraint.proofs.Names.{length, lengths, mul-le-mul_left, suc, zero, ℕ}

-- a list of numbers, each at most some number: so is what stands at a place of it
abbrev pub AtMost : ℕ → List ℕ → Type 0
AtMost most [] = Unit {0}
AtMost most (x ∷ xs) = (x ≤ most) × AtMost most xs

pub at_most : (most : ℕ) (xs : List ℕ) → AtMost most xs → (i : ℕ) → at xs i ≤ most
at_most most [] h i = omega arith
at_most most (x ∷ xs) h zero = h.0
at_most most (x ∷ xs) h (suc i) = at_most most xs h.1 i

-- ---- lengths

-- the entries of a list, and the rest of a row
pub entries_small : (t n : ℕ) → n * at entry_sizes t ≤ n * 16
entries_small t n = mul-le-mul_left n (at_most 16 entry_sizes (omega arith) t)

pub lengths_small : (t : ℕ) → at lengths t ≤ 34
lengths_small t = at_most 34 lengths (omega arith) t

-- ---- kinds

-- the kinds of a list, before other fields
plain_count : (ks : List ℕ) (later : List Field) → length (kinds_in (kind_fields kind ks ++ later)) ≡ length ks + length (kinds_in later)
plain_count [] later = omega arith
plain_count (k ∷ ks) later = omega (arith, plain_count ks later)

coloured_count : (ks : List ℕ) (later : List Field) → length (kinds_in (kind_fields coloured ks ++ later)) ≡ length ks + length (kinds_in later)
coloured_count [] later = omega arith
coloured_count (k ∷ ks) later = omega (arith, coloured_count ks later)

-- offsets and pairs name none
offset_count : (xs : List ℕ) → length (kinds_in (offset_fields xs)) ≡ 0
offset_count [] = refl
offset_count (x ∷ xs) = offset_count xs

pair_count : (ps : List (ℕ × ℕ)) → length (kinds_in (pair_fields ps)) ≡ 0
pair_count [] = refl
pair_count (p ∷ ps) = pair_count ps

-- §4.5: a row names at most five kinds
pub few_kinds : (edition : ℕ) (c : Constraint) → TypeKnown edition (type_of c) (count_of c) → length (kinds c) ≤ 5
few_kinds edition (Delay a b x y) known = omega arith
few_kinds edition (StrongDelay a b x y) known = omega arith
few_kinds edition (Repeat a b x y) known = omega arith
few_kinds edition (Sporadic a x y z w) known = omega arith
few_kinds edition (Burst a b x y) known = omega arith
few_kinds edition (Order a b) known = omega arith
few_kinds edition (StrongSynchronization ks x) known = omega (arith, plain_count ks (time (plain tolerance) x ∷ []), (known.n_known refl).1)
few_kinds edition (ExecutionTime a b c d x y) known = omega arith
few_kinds edition (Reaction a b x y) known = omega arith
few_kinds edition (Repetition a b x y z) known = omega arith
few_kinds edition (Synchronization ks x) known = omega (arith, plain_count ks (time (plain tolerance) x ∷ []), (known.n_known refl).1)
few_kinds edition (Age a b x y) known = omega arith
few_kinds edition (OutputSynchronization a ks x) known = omega (arith, coloured_count ks (time (plain tolerance) x ∷ []), (known.n_known refl).1)
few_kinds edition (InputSynchronization ks a x) known =
    omega (arith, coloured_count ks (byte coloured a ∷ time (plain tolerance) x ∷ []), (known.n_known refl).1)
few_kinds edition (Pattern a x y z xs) known = omega (arith, offset_count xs)
few_kinds edition (Arbitrary a ps) known = omega (arith, pair_count ps)
few_kinds edition (Comparison a x y) known = omega arith
