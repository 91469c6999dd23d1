-- Sets of rows in a word, digit by digit: what a digit is of two words joined or met, and of a word without its lowest 1.
use Rattle.in_place.proofs.Names.{Bool, List, [], ◌%◌, ◌&&◌, ◌*◌, ◌++◌, ◌+◌, ◌-◌, ◌/◌, ◌<◌, ◌^◌, ◌||◌, ◌∙◌, ◌∷◌, ◌≡◌, ◌≤◌, all_rows, ap}
use Rattle.in_place.proofs.Names.{append-nil}
use Rattle.in_place.proofs.Names.{arith, ap₂, bit_and, bit_or, both, cond, eqb, false, is_in, ltb, ltb-false, ltb-true, max, min, not, numbers}
use Rattle.in_place.proofs.Names.{one-le-pow}
use Rattle.in_place.proofs.Names.{or_false, pow-suc, refl, rows_in, split, suc, sym, true, zero, ℕ}
use lib.Bits.{and_le_r, and_mask, and_self, and_step, or_step}
use lib.Count.{under}
unfoldable use lib.Count.{count_trailing_zeros}

-- ---- two sets

or_digit : (x y : ℕ) → x < 2 → y < 2 → eqb (max x y) 1 ≡ (eqb x 1 || eqb y 1)
or_digit zero zero p q = refl
or_digit zero (suc zero) p q = refl
or_digit zero (suc (suc y)) p q = absurd (omega (arith, q))
or_digit (suc zero) zero p q = refl
or_digit (suc zero) (suc zero) p q = refl
or_digit (suc zero) (suc (suc y)) p q = absurd (omega (arith, q))
or_digit (suc (suc x)) y p q = absurd (omega (arith, p))

pub in_or : (a b i : ℕ) → is_in (bit_or a b) i ≡ (is_in a i || is_in b i)
unfolding is_in
in_or a b zero =
    let odd : bit_or a b % 2 ≡ max (a % 2) (b % 2) = omega (arith, or_step a b) in
    ap (λ (d : ℕ). eqb d 1) odd ∙ or_digit (a % 2) (b % 2) (omega arith) (omega arith)
in_or a b (suc i) =
    let half : bit_or a b / 2 ≡ bit_or (a / 2) (b / 2) = omega (arith, or_step a b) in
    ap (λ (w : ℕ). is_in w i) half ∙ in_or (a / 2) (b / 2) i

and_digit : (x y : ℕ) → x < 2 → y < 2 → eqb (min x y) 1 ≡ (eqb x 1 && eqb y 1)
and_digit zero zero p q = refl
and_digit zero (suc zero) p q = refl
and_digit zero (suc (suc y)) p q = absurd (omega (arith, q))
and_digit (suc zero) zero p q = refl
and_digit (suc zero) (suc zero) p q = refl
and_digit (suc zero) (suc (suc y)) p q = absurd (omega (arith, q))
and_digit (suc (suc x)) y p q = absurd (omega (arith, p))

pub in_and : (a b i : ℕ) → is_in (bit_and a b) i ≡ (is_in a i && is_in b i)
unfolding is_in
in_and a b zero =
    let odd : bit_and a b % 2 ≡ min (a % 2) (b % 2) = omega (arith, and_step a b) in
    ap (λ (d : ℕ). eqb d 1) odd ∙ and_digit (a % 2) (b % 2) (omega arith) (omega arith)
in_and a b (suc i) =
    let half : bit_and a b / 2 ≡ bit_and (a / 2) (b / 2) = omega (arith, and_step a b) in
    ap (λ (w : ℕ). is_in w i) half ∙ in_and (a / 2) (b / 2) i

less_digit : (x y : ℕ) → x < 2 → y < 2 → eqb (y - min x y) 1 ≡ (eqb y 1 && not (eqb x 1))
less_digit zero zero p q = refl
less_digit zero (suc zero) p q = refl
less_digit zero (suc (suc y)) p q = absurd (omega (arith, q))
less_digit (suc zero) zero p q = refl
less_digit (suc zero) (suc zero) p q = refl
less_digit (suc zero) (suc (suc y)) p q = absurd (omega (arith, q))
less_digit (suc (suc x)) y p q = absurd (omega (arith, p))

-- a set without the rows of another
pub in_less : (a b i : ℕ) → is_in (b - bit_and a b) i ≡ (is_in b i && not (is_in a i))
unfolding is_in
in_less a b zero =
    let odd : (b - bit_and a b) % 2 ≡ b % 2 - min (a % 2) (b % 2) = omega (arith, and_step a b, and_le_r (a / 2) (b / 2)) in
    ap (λ (d : ℕ). eqb d 1) odd ∙ less_digit (a % 2) (b % 2) (omega arith) (omega arith)
in_less a b (suc i) =
    let half : (b - bit_and a b) / 2 ≡ b / 2 - bit_and (a / 2) (b / 2) = omega (arith, and_step a b, and_le_r (a / 2) (b / 2)) in
    ap (λ (w : ℕ). is_in w i) half ∙ in_less (a / 2) (b / 2) i

-- ---- one row, and all rows

in_one : (i : ℕ) → is_in (2 ^ i) i ≡ true
unfolding is_in
in_one zero = refl
in_one (suc i) =
    let half : 2 ^ suc i / 2 ≡ 2 ^ i = omega (arith, pow-suc 2 i) in
    ap (λ (w : ℕ). is_in w i) half ∙ in_one i

in_first : (n i : ℕ) → i < n → is_in (2 ^ n - 1) i ≡ true
unfolding is_in
in_first zero i l = absurd (omega (arith, l))
in_first (suc n) zero l =
    let odd : (2 ^ suc n - 1) % 2 ≡ 1 = omega (arith, pow-suc 2 n, one-le-pow n 2 (omega arith)) in
    ap (λ (d : ℕ). eqb d 1) odd
in_first (suc n) (suc i) l =
    let half : (2 ^ suc n - 1) / 2 ≡ 2 ^ n - 1 = omega (arith, pow-suc 2 n, one-le-pow n 2 (omega arith)) in
    ap (λ (w : ℕ). is_in w i) half ∙ in_first n i (omega (arith, l))

pub in_all : (i : ℕ) → i < 32 → is_in all_rows i ≡ true
in_all i l = in_first 32 i l

pub and_true : (b : Bool) → (b && true) ≡ b
and_true true = refl
and_true false = refl

-- the lower half of a word has the same rows
pub in_low : (w i : ℕ) → i < 32 → is_in (w % 4294967296) i ≡ is_in w i
in_low w i l =
    ap (λ (x : ℕ). is_in x i) (sym (and_mask w 32)) ∙ in_and w all_rows i ∙ ap (λ (b : Bool). is_in w i && b) (in_all i l) ∙ and_true (is_in w i)

-- ---- a row that is marked where it is nearly full

-- what is not marked after that was not before
pub was_out : (len full n i : ℕ) → is_in (cond (ltb 62 len) (bit_or full (2 ^ n)) full) i ≡ false → is_in full i ≡ false
was_out len full n i =
    split (ltb 62 len) (λ b. is_in (cond b (bit_or full (2 ^ n)) full) i ≡ false → is_in full i ≡ false)
    (λ _ out. (or_false (is_in full i) (is_in (2 ^ n) i) (sym (in_or full (2 ^ n) i) ∙ out)).0) (λ _ out. out)

-- and the row itself is not nearly full then
pub few_out : (len full n : ℕ) → is_in (cond (ltb 62 len) (bit_or full (2 ^ n)) full) n ≡ false → len ≤ 62
few_out len full n =
    split (ltb 62 len) (λ b. ltb 62 len ≡ b → is_in (cond b (bit_or full (2 ^ n)) full) n ≡ false → len ≤ 62)
    (λ _ _ out. both (sym (in_one n) ∙ (or_false (is_in full n) (is_in (2 ^ n) n) (sym (in_or full (2 ^ n) n) ∙ out)).1))
    (λ _ e _. ltb-false 62 len e) refl

-- ---- the lowest row of a set

pub record Lowest (d n k : ℕ) : Type 0 where
  pub below : k < d
  pub own : is_in n k ≡ true
  pub none : (j : ℕ) → j < k → is_in n j ≡ false
  pub apart : n ≡ bit_and n (n - 1) + 2 ^ k
  pub without : is_in (bit_and n (n - 1)) k ≡ false
  pub others : (j : ℕ) → ¬ (j ≡ k) → is_in (bit_and n (n - 1)) j ≡ is_in n j

-- an even number has the rows of its half, one place higher
module _ (d n k : ℕ) (some : 0 < n) (even : n % 2 ≡ 0) (half : Lowest d (n / 2) k) where
  even_met : bit_and n (n - 1) ≡ bit_and (n / 2) (n / 2 - 1) * 2
  even_met =
      let before : (n - 1) / 2 ≡ n / 2 - 1 = omega (arith, some, even) in
      and_step n (n - 1) ∙ ap₂ (λ (x y : ℕ). bit_and (n / 2) x * 2 + min y ((n - 1) % 2)) before even ∙ omega arith

  even_half : bit_and n (n - 1) / 2 ≡ bit_and (n / 2) (n / 2 - 1)
  even_half = omega (arith, even_met)

  even_none : (j : ℕ) → j < suc k → is_in n j ≡ false
  unfolding is_in
  even_none zero l = ap (λ (r : ℕ). eqb r 1) even
  even_none (suc j) l = half.none j (omega (arith, l))

  even_others : (j : ℕ) → ¬ (j ≡ suc k) → is_in (bit_and n (n - 1)) j ≡ is_in n j
  unfolding is_in
  even_others zero far =
      let last : bit_and n (n - 1) % 2 ≡ 0 = omega (arith, even_met) in ap (λ (r : ℕ). eqb r 1) (last ∙ sym even)
  even_others (suc j) far = ap (λ (w : ℕ). is_in w j) even_half ∙ half.others j (λ same. far (ap suc same))

  even_lowest : Lowest (suc d) n (suc k)
  unfolding is_in
  even_lowest =
      record {
        below = omega (arith, half.below);
        own = half.own;
        none = even_none;
        apart = omega (arith, half.apart, even_met, even, pow-suc 2 k);
        without = ap (λ (w : ℕ). is_in w k) even_half ∙ half.without;
        others = even_others;
      }

-- an odd number has row 0
module _ (d n : ℕ) (odd : n % 2 ≡ 1) where
  odd_met : bit_and n (n - 1) ≡ n - 1
  odd_met =
      let before : (n - 1) / 2 ≡ n / 2 = omega (arith, odd) in
      and_step n (n - 1) ∙ ap₂ (λ (x y : ℕ). bit_and (n / 2) x * 2 + min (n % 2) y) before (omega (arith, odd))
      ∙ ap (λ (x : ℕ). x * 2 + min (n % 2) 0) (and_self (n / 2)) ∙ omega (arith, odd)

  odd_others : (j : ℕ) → ¬ (j ≡ 0) → is_in (bit_and n (n - 1)) j ≡ is_in n j
  unfolding is_in
  odd_others zero far = absurd (far refl)
  odd_others (suc j) far =
      let half : bit_and n (n - 1) / 2 ≡ n / 2 = omega (arith, odd_met, odd) in ap (λ (w : ℕ). is_in w j) half

  odd_lowest : Lowest (suc d) n 0
  unfolding is_in
  odd_lowest =
      let last : bit_and n (n - 1) % 2 ≡ 0 = omega (arith, odd_met, odd) in
      record {
        below = omega arith;
        own = ap (λ (r : ℕ). eqb r 1) odd;
        none = λ j l. absurd (omega (arith, l));
        apart = omega (arith, odd_met, odd);
        without = ap (λ (r : ℕ). eqb r 1) last;
        others = odd_others;
      }

pub lowest : (d n : ℕ) → 0 < n → n < 2 ^ d → Lowest d n (count_trailing_zeros d n)
unfolding count_trailing_zeros
lowest zero n some small = absurd (omega (arith, some, small))
lowest (suc d) n some small = by_digit (n % 2) refl (λ half. lowest d (n / 2) half (omega (arith, small, pow-suc 2 d)))
  where
    by_digit : (r : ℕ) → n % 2 ≡ r → (0 < n / 2 → Lowest d (n / 2) (count_trailing_zeros d (n / 2)))
        → Lowest (suc d) n (under r (count_trailing_zeros d (n / 2)))
    by_digit zero e below = even_lowest d n (count_trailing_zeros d (n / 2)) some e (below (omega (arith, some, e)))
    by_digit (suc r) e below = odd_lowest d n (omega (arith, e))

-- ---- the list of a set

pub none_pass : (test : ℕ → Bool) (n : ℕ) → ((i : ℕ) → i < n → test i ≡ false) → numbers test n ≡ []
none_pass test zero out = refl
none_pass test (suc n) out =
    ap (λ (b : Bool). numbers test n ++ cond b (n ∷ []) []) (out n (omega arith)) ∙ append-nil (numbers test n)
    ∙ none_pass test n (λ i l. out i (omega (arith, l)))

pub same_numbers : (p r : ℕ → Bool) (n : ℕ) → ((i : ℕ) → i < n → p i ≡ r i) → numbers p n ≡ numbers r n
same_numbers p r zero same = refl
same_numbers p r (suc n) same =
    ap (λ (l : List ℕ). l ++ cond (p n) (n ∷ []) []) (same_numbers p r n (λ i k. same i (omega (arith, k))))
    ∙ ap (λ (b : Bool). numbers r n ++ cond b (n ∷ []) []) (same n (omega arith))

-- none from n on passes
pub numbers_below : (test : ℕ → Bool) (n k : ℕ) → n ≤ k → ((i : ℕ) → n ≤ i → i < k → test i ≡ false) → numbers test k ≡ numbers test n
numbers_below test n zero l out = let none : 0 ≡ n = omega (arith, l) in ap (numbers test) none
numbers_below test n (suc k) l out =
    split (ltb k n) (λ _. numbers test (suc k) ≡ numbers test n)
    (λ e. let same : suc k ≡ n = omega (arith, l, ltb-true k n e) in ap (numbers test) same)
    (λ e.
    let from = ltb-false k n e in
    ap (λ (b : Bool). numbers test k ++ cond b (k ∷ []) []) (out k from (omega arith)) ∙ append-nil (numbers test k)
    ∙ numbers_below test n k from (λ i low high. out i low (omega (arith, high))))

-- the lowest comes first
pub lowest_first : (test rest : ℕ → Bool) (k : ℕ) → test k ≡ true → ((j : ℕ) → j < k → test j ≡ false) → rest k ≡ false
    → ((j : ℕ) → ¬ (j ≡ k) → rest j ≡ test j) → (n : ℕ) → k < n → numbers test n ≡ k ∷ numbers rest n
lowest_first test rest k own none without others zero l = absurd (omega (arith, l))
lowest_first test rest k own none without others (suc n) l =
    split (ltb k n) (λ _. numbers test (suc n) ≡ k ∷ numbers rest (suc n))
    (λ e.
    let small = ltb-true k n e in
    ap₂ (λ (list : List ℕ) (b : Bool). list ++ cond b (n ∷ []) []) (lowest_first test rest k own none without others n small)
    (sym (others n (λ same. omega (arith, same, small)))))
    (λ e.
    let same : k ≡ n = omega (arith, l, ltb-false k n e) in
    let empty : numbers rest n ≡ [] =
    none_pass rest n (λ j below. others j (λ is. omega (arith, is, below, same)) ∙ none j (omega (arith, below, same))) in
    let empty_too : numbers test n ≡ [] = none_pass test n (λ j below. none j (omega (arith, below, same))) in
    ap₂ (λ (list : List ℕ) (b : Bool). list ++ cond b (n ∷ []) []) empty_too (ap test (sym same) ∙ own)
    ∙ ap (λ (i : ℕ). i ∷ []) (sym same)
    ∙ ap (λ (list : List ℕ). k ∷ list)
    (sym (ap₂ (λ (list : List ℕ) (b : Bool). list ++ cond b (n ∷ []) []) empty (ap rest (sym same) ∙ without))))

-- the rows of a set are its lowest, and those of the set without it
pub rows_first : (n : ℕ) → 0 < n → n < 2 ^ 32 → rows_in n ≡ count_trailing_zeros 32 n ∷ rows_in (bit_and n (n - 1))
unfolding rows_in
rows_first n some small =
    let low = lowest 32 n some small in
    lowest_first (is_in n) (is_in (bit_and n (n - 1))) (count_trailing_zeros 32 n) low.own low.none low.without low.others 32 low.below

pub no_rows : rows_in 0 ≡ []
unfolding rows_in is_in
no_rows = refl

-- and those of the lower half of a word
pub rows_low : (w : ℕ) → rows_in (w % 4294967296) ≡ rows_in w
unfolding rows_in
rows_low w = same_numbers (is_in (w % 4294967296)) (is_in w) 32 (in_low w)
