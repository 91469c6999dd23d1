-- The lines of the types: the roles that an n uses, and the lists that are looked up.
use Rattle.constraint.proofs.Library.{List, List·getD-eq-default, [], ◌*◌, ◌+◌, ◌<◌, ◌∷◌, ◌≡◌, ◌≤◌, arith, cond}
use Rattle.constraint.proofs.Library.{length, refl, suc, sym, zero, ℕ}
use Rattle.constraint.proofs.Library.{◌∙◌, ap, get_or, ltb, ltb-false, map, replicate}
use Rattle.std.proofs.lemmas.List.Sums.{sum_by-cons}
use Rattle.std.specs.Prelude.{sum}
use Rattle.constraint.proofs.Lengths.{at_most, entries_small, lengths_small}
use Rattle.constraint.proofs.Lists.{split}
use Rattle.constraint.specs.Steps.{at}
use Rattle.constraint.specs.Types.{TypeKnown, entry_sizes, most_counts, length_of}
use Rattle.table_row.specs.Records.{total, width}

-- a number that is no type's has the line of none
pub other_line : (lines : List (List ℕ)) → length lines ≡ 18 → get_or lines 0 [] ≡ replicate 18 0 → (t : ℕ) → (0 < t → 18 ≤ t)
    → replicate 18 0 ≡ get_or lines t (replicate 18 0)
other_line [] long first t other = absurd (omega arith)
other_line (l ∷ lines) long first zero other = sym first
other_line (l ∷ lines) long first (suc t) other =
    sym (List·getD-eq-default (l ∷ lines) (replicate 18 0) {n = suc t} (omega (arith, other (omega arith))))

pub most_small : (t : ℕ) → at most_counts t ≤ 8
most_small t = at_most 8 most_counts (omega arith) t

pub width_small : (r : ℕ) → width r ≤ 8
width_small r =
    split (ltb r 65) (λ none. cond none 0 (cond (ltb r 97) 8 1) ≤ 8) (λ e. omega arith)
    (λ e. split (ltb r 97) (λ long. cond long 8 1 ≤ 8) (λ e. omega arith) (λ e. omega arith))

-- their sum
pub total_sum : (roles : List ℕ) → sum (map width roles) ≡ total roles
total_sum [] = refl
total_sum (r ∷ roles) = sum_by-cons (λ x. x) (width r) (map width roles) ∙ ap (λ (n : ℕ). width r + n) (total_sum roles)

pub total_small : (roles : List ℕ) → total roles ≤ 8 * length roles
total_small [] = omega arith
total_small (r ∷ roles) = omega (arith, width_small r, total_small roles)

-- a type without an n has no entries
abbrev Within : List ℕ → List ℕ → Type 0
Within [] ys = Unit {0}
Within (x ∷ xs) [] = (x ≡ 0) × Within xs []
Within (x ∷ xs) (y ∷ ys) = (x ≤ 16 * y) × Within xs ys

within_at : (xs ys : List ℕ) → Within xs ys → (i : ℕ) → at xs i ≤ 16 * at ys i
within_at [] ys all i = omega arith
within_at (x ∷ xs) [] all zero = omega (arith, all.0)
within_at (x ∷ xs) [] all (suc i) = within_at xs [] all.1 i
within_at (x ∷ xs) (y ∷ ys) all zero = all.0
within_at (x ∷ xs) (y ∷ ys) all (suc i) = within_at xs ys all.1 i

-- a row whose n is known is short
pub known_short : (edition t n : ℕ) → TypeKnown edition t n → length_of t n ≤ 162
known_short edition t n known =
    split (ltb 0 (at most_counts t)) (λ b. length_of t n ≤ 162)
    (λ e. omega (arith, entries_small t n, lengths_small t, (known.n_known e).1, most_small t))
    (λ e. let none : at entry_sizes t ≡ 0 = omega (arith, within_at entry_sizes most_counts (omega arith) t, ltb-false 0 (at most_counts t) e) in
    rw none (omega (arith, lengths_small t)))
