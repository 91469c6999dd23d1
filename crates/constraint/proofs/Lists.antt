-- Laws of tests and of lists of times: what holds of each, and lists that rise strictly. The proofs are by cases on the test and by recursion on the
-- list.
use Rattle.constraint.proofs.Names.{Bool, List, List·getD-append, [], ◌++◌, ◌+◌, ◌<◌, ◌||◌, ◌∙◌, ◌∷◌, ◌≡◌, ◌≤◌, ◌⊎◌, add-zero, arith, at}
use Rattle.constraint.proofs.Names.{false, get_or, get_or-append-add, inl, inr, length, refl, subst, suc, sym, true, zero, ℕ}

-- by cases on a test, with the equation
pub split {ℓ} : (b : Bool) (P : Bool → Type ℓ) → (b ≡ true → P true) → (b ≡ false → P false) → P b
split true P f g = f refl
split false P f g = g refl

-- a test cannot say both
pub both : {A : Type 0} → true ≡ false → A
both e = absurd (let z : ◌≡◌ {A = ℕ} 0 1 = cc in omega arith)

pub or-true : (a b : Bool) → (a || b) ≡ true → (a ≡ true) ⊎ (b ≡ true)
or-true true b e = inl refl
or-true false b e = inr e

pub or_false : (a b : Bool) → (a || b) ≡ false → (a ≡ false) × (b ≡ false)
or_false true b e = both e
or_false false b e = (refl, e)

-- ---- places of a joined list

pub at_left : (xs ys : List ℕ) (i : ℕ) → i < length xs → at (xs ++ ys) i ≡ at xs i
at_left xs ys i h = List·getD-append xs ys 0 i h

pub at_right : (xs ys : List ℕ) (i : ℕ) → at (xs ++ ys) (length xs + i) ≡ at ys i
at_right xs ys i = get_or-append-add xs ys i 0

-- the place just behind a list
pub at_next : (xs : List ℕ) (y : ℕ) (ys : List ℕ) (i : ℕ) → i ≡ length xs → at (xs ++ y ∷ ys) i ≡ y
at_next xs y ys i e = subst (λ n. at (xs ++ y ∷ ys) n ≡ y) (add-zero (length xs) ∙ sym e) (at_right xs (y ∷ ys) 0)

-- a place within a list does not look past its end
pub get_d_within : {A : Type 0} (xs : List A) (i : ℕ) (a b : A) → i < length xs → get_or xs i a ≡ get_or xs i b
get_d_within [] i a b h = absurd (omega arith)
get_d_within (x ∷ xs) zero a b h = refl
get_d_within (x ∷ xs) (suc i) a b h = get_d_within xs i a b (omega arith)

-- ---- what holds of each

abbrev pub Each : (ℕ → Type 0) → List ℕ → Type 0
Each P xs = (i : ℕ) → i < length xs → P (at xs i)

module _ (P : ℕ → Type 0) where
  pub each_none : Each P []
  each_none i h = absurd (omega arith)

  pub each_cons : (x : ℕ) (xs : List ℕ) → P x → Each P xs → Each P (x ∷ xs)
  each_cons x xs p e zero h = p
  each_cons x xs p e (suc i) h = e i (omega arith)

  pub each_tail : (x : ℕ) (xs : List ℕ) → Each P (x ∷ xs) → Each P xs
  each_tail x xs e i h = e (suc i) (omega arith)

  pub each_append : (xs ys : List ℕ) → Each P xs → Each P ys → Each P (xs ++ ys)
  each_append [] ys e f = f
  each_append (x ∷ xs) ys e f = each_cons x (xs ++ ys) (e 0 (omega arith)) (each_append xs ys (each_tail x xs e) f)

  pub each_left : (xs ys : List ℕ) → Each P (xs ++ ys) → Each P xs
  each_left [] ys e = each_none
  each_left (x ∷ xs) ys e = each_cons x xs (e 0 (omega arith)) (each_left xs ys (each_tail x (xs ++ ys) e))

  pub each_right : (xs ys : List ℕ) → Each P (xs ++ ys) → Each P ys
  each_right [] ys e = e
  each_right (x ∷ xs) ys e = each_right xs ys (each_tail x (xs ++ ys) e)

-- ---- lists that rise strictly

abbrev pub Rising : List ℕ → Type 0
Rising [] = Unit {0}
Rising (x ∷ xs) = Each (λ y. x < y) xs × Rising xs

pub rising_append : (xs ys : List ℕ) → Rising xs → Rising ys → Each (λ x. Each (λ y. x < y) ys) xs → Rising (xs ++ ys)
rising_append [] ys r s a = s
rising_append (x ∷ xs) ys r s a = (
  each_append (λ y. x < y) xs ys r.0 (a 0 (omega arith)),
  rising_append xs ys r.1 s (each_tail (λ x. Each (λ y. x < y) ys) x xs a),
)

pub rising_left : (xs ys : List ℕ) → Rising (xs ++ ys) → Rising xs
rising_left [] ys r = tt
rising_left (x ∷ xs) ys r = (each_left (λ y. x < y) xs ys r.0, rising_left xs ys r.1)

pub rising_right : (xs ys : List ℕ) → Rising (xs ++ ys) → Rising ys
rising_right [] ys r = r
rising_right (x ∷ xs) ys r = rising_right xs ys r.1

pub rising_across : (xs ys : List ℕ) → Rising (xs ++ ys) → Each (λ x. Each (λ y. x < y) ys) xs
rising_across [] ys r = each_none (λ x. Each (λ y. x < y) ys)
rising_across (x ∷ xs) ys r = each_cons (λ x. Each (λ y. x < y) ys) x xs (each_right (λ y. x < y) xs ys r.0) (rising_across xs ys r.1)

-- one more at the end
pub rising_snoc : (xs : List ℕ) (y : ℕ) → Rising xs → Each (λ x. x < y) xs → Rising (xs ++ y ∷ [])
rising_snoc xs y r a =
    rising_append xs (y ∷ []) r (each_none (λ z. y < z), tt) (λ i h. each_cons (λ z. at xs i < z) y [] (a i h) (each_none (λ z. at xs i < z)))

-- an earlier place has an earlier time
pub rising_at : (xs : List ℕ) → Rising xs → (i j : ℕ) → i < j → j < length xs → at xs i < at xs j
rising_at [] r i j h k = absurd (omega arith)
rising_at (x ∷ xs) r i zero h k = absurd (omega arith)
rising_at (x ∷ xs) r zero (suc j) h k = r.0 j (omega arith)
rising_at (x ∷ xs) r (suc i) (suc j) h k = rising_at xs r.1 i j (omega arith) (omega arith)

-- a place that is d further on has a time at least d later
pub rising_by : (xs : List ℕ) → Rising xs → (i d : ℕ) → i + d < length xs → at xs i + d ≤ at xs (i + d)
rising_by xs r i zero h = rw (add-zero (at xs i), add-zero i) (omega arith)
rising_by xs r i (suc d) h =
    let e : at xs i + d ≤ at xs (i + d) = rising_by xs r i d (omega arith) in
    let f : at xs (i + d) < at xs (i + suc d) = rising_at xs r (i + d) (i + suc d) (omega arith) h in
    omega arith
