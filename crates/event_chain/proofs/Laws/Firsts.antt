-- The word of a kind: one more than its first event, or than its latest; and the words after an event.
use Rattle.event_chain.proofs.Laws.ByColour.{least_below, least_found, with_one}
use Rattle.event_chain.specs.Coloured.{first_word, least_of, most_of}
use Rattle.constraint.proofs.Library.{List, [], ◌++◌, ◌+◌, ◌-◌, ◌<◌, ◌∙◌, ◌∷◌, ◌≡◌, ◌≤◌, ◌⊎◌, ap, arith, by_cases, cond, dec_lt, eq-eqb, eqb}
use Rattle.constraint.proofs.Library.{eqb-false}
use Rattle.constraint.proofs.Library.{eqb-true, get_or-set_other, get_or-set_same, inl, inr, length, length-append, ne_eqb, refl, set, subst, subst₂}
use Rattle.constraint.proofs.Library.{ap₂, get_or-take, length-take-le, max, suc, take}
use Rattle.constraint.proofs.Library.{sym, zero, ℕ}
use Rattle.constraint.proofs.Library.{ℕ_discrete, ⊎_elim}
use Rattle.constraint.proofs.Lists.{Each, at_left, at_next, at_right, each_append, each_cons, each_none, split}
use Rattle.constraint.specs.{Limits.last_time, Meets.latest_of, Steps.at}
use Rattle.row_type.specs.{Parts.plus}

-- ---- lists of times

pub each_snoc : (P : ℕ → Type 0) (xs : List ℕ) (x : ℕ) → Each P xs → P x → Each P (xs ++ x ∷ [])
each_snoc P xs x h p = each_append P xs (x ∷ []) h (each_cons P x [] p (each_none P))

pub first_old : (xs ys : List ℕ) → 0 < length xs → at (xs ++ ys) 0 ≡ at xs 0
first_old xs ys some = at_left xs ys 0 some

pub first_new : (xs ys : List ℕ) → length xs ≡ 0 → at (xs ++ ys) 0 ≡ at ys 0
first_new xs ys none =
    let place : 0 ≡ length xs + 0 = omega arith in
    ap (at (xs ++ ys)) place ∙ at_right xs ys 0

pub latest_new : (xs ys : List ℕ) → 0 < length ys → latest_of (xs ++ ys) ≡ latest_of ys
latest_new xs ys some =
    let same : length (xs ++ ys) - 1 ≡ length xs + (length ys - 1) = omega (arith, length-append xs ys) in
    ap (at (xs ++ ys)) same ∙ at_right xs ys (length ys - 1)

pub latest_old : (xs ys : List ℕ) → length ys ≡ 0 → 0 < length xs → latest_of (xs ++ ys) ≡ latest_of xs
latest_old xs ys none some =
    let same : length (xs ++ ys) - 1 ≡ length xs - 1 = omega (arith, length-append xs ys) in
    ap (at (xs ++ ys)) same ∙ at_left xs ys (length xs - 1) (omega arith)

-- ---- a word and the first event of its kind

pub record FirstOf (xs : List ℕ) (x : ℕ) : Type 0 where
  pub none : length xs ≡ 0 → x ≡ 0
  pub some : 0 < length xs → x ≡ at xs 0 + 1

pub first_there : (xs : List ℕ) (x : ℕ) → FirstOf xs x → 0 < x → 0 < length xs
first_there xs x is h = by_cases (dec_lt 0 (length xs)) (λ l. l) (λ l. absurd (omega (arith, is.none (omega arith))))

pub first_missing : (xs : List ℕ) (x : ℕ) → FirstOf xs x → x ≡ 0 → length xs ≡ 0
first_missing xs x is h = by_cases (dec_lt 0 (length xs)) (λ l. absurd (omega (arith, is.some l))) (λ l. omega arith)

pub first_is : (xs : List ℕ) (x : ℕ) → FirstOf xs x → 0 < x → x ≡ at xs 0 + 1
first_is xs x is h = is.some (first_there xs x is h)

-- the word after an event: what it was, or the first
pub word_is : (x t : ℕ) → t ≤ last_time → (first_word x t ≡ x) ⊎ ((x ≡ 0) × (first_word x t ≡ t + 1))
word_is x t small =
    split (eqb x 0) (λ b. (cond b (plus t 1) x ≡ x) ⊎ ((x ≡ 0) × (cond b (plus t 1) x ≡ t + 1)))
    (λ e. inr (eqb-true x 0 e, omega arith)) (λ e. inl refl)

pub first_snoc : (xs : List ℕ) (x t : ℕ) → t ≤ last_time → FirstOf xs x → FirstOf (xs ++ t ∷ []) (first_word x t)
first_snoc xs x t small is =
    split (eqb x 0) (λ b. FirstOf (xs ++ t ∷ []) (cond b (plus t 1) x))
    (λ e. record {
      none = λ z. absurd (omega (arith, length-append xs (t ∷ [])));
      some = λ l. omega (arith, at_next xs t [] 0 (sym (first_missing xs x is (eqb-true x 0 e))));
    })
    (λ e. let there : 0 < x = above (eqb-false x 0 e) in
    record {
      none = λ z. absurd (omega (arith, length-append xs (t ∷ [])));
      some = λ l. omega (arith, first_is xs x is there, first_old xs (t ∷ []) (first_there xs x is there));
    })
  where
    above : ¬ (x ≡ 0) → 0 < x
    above other = omega arith

-- ---- a word and the latest event of its kind

pub record LatestOf (xs : List ℕ) (x : ℕ) : Type 0 where
  pub none : length xs ≡ 0 → x ≡ 0
  pub some : 0 < length xs → x ≡ latest_of xs + 1
  pub below : Each (λ s. s < x) xs

pub latest_there : (xs : List ℕ) (x : ℕ) → LatestOf xs x → 0 < x → 0 < length xs
latest_there xs x is h = by_cases (dec_lt 0 (length xs)) (λ l. l) (λ l. absurd (omega (arith, is.none (omega arith))))

pub latest_snoc : (xs : List ℕ) (t : ℕ) → t ≤ last_time → Each (λ s. s ≤ t) xs → LatestOf (xs ++ t ∷ []) (plus t 1)
latest_snoc xs t small past =
    record {
      none = λ z. absurd (omega (arith, length-append xs (t ∷ [])));
      some = λ l. omega (arith, latest_new xs (t ∷ []) (omega arith));
      below = each_snoc (λ s. s < plus t 1) xs t (λ i h. omega (arith, past i h)) (omega arith);
    }

-- ---- the kinds after an event of one of them

pub with_own : (f : ℕ → List ℕ) (j t i : ℕ) → i ≡ j → with_one f j t i ≡ f j ++ t ∷ []
with_own f j t i e = rw (eq-eqb i j e) (ap (λ (k : ℕ). f k ++ t ∷ []) e)

pub with_other : (f : ℕ → List ℕ) (j t i : ℕ) → ¬ (i ≡ j) → with_one f j t i ≡ f i
with_other f j t i o = rw (ne_eqb i j o) refl

pub kind_own : (P : List ℕ → ℕ → Type 0) (f : ℕ → List ℕ) (w : List ℕ) (j t x : ℕ) → j < length w → P (f j ++ t ∷ []) x
    → P (with_one f j t j) (at (set w j x) j)
kind_own P f w j t x room new = subst₂ P (sym (with_own f j t j refl)) (sym (get_or-set_same w j x 0 room)) new

pub kind_other : (P : List ℕ → ℕ → Type 0) (f : ℕ → List ℕ) (w : List ℕ) (j t x i : ℕ) → ¬ (i ≡ j) → P (f i) (at w i)
    → P (with_one f j t i) (at (set w j x) i)
kind_other P f w j t x i o old = subst₂ P (sym (with_other f j t i o)) (sym (get_or-set_other w j i x 0 o)) old

-- what holds of each kind's times and word holds after an event if it holds of the new times and the new word
pub by_kind_lem : (P : List ℕ → ℕ → Type 0) (m : ℕ) (f : ℕ → List ℕ) (w : List ℕ) (j t x : ℕ) → j < length w → ((i : ℕ) → i < m → P (f i) (at w i))
    → P (f j ++ t ∷ []) x → (i : ℕ) → i < m → P (with_one f j t i) (at (set w j x) i)
by_kind_lem P m f w j t x room old new i l =
    by_cases (ℕ_discrete i j)
    (λ e. subst (λ (k : ℕ). P (with_one f j t k) (at (set w j x) k)) (sym e) (kind_own P f w j t x room new))
    (λ o. kind_other P f w j t x i o (old i l))

-- ---- the least word

pub least_there : (g : ℕ → ℕ) (n : ℕ) → 0 < least_of g n → (i : ℕ) → i < n → 0 < g i
least_there g n h i l = omega (arith, least_below g n i l)

pub least_missing : (g : ℕ → ℕ) (n : ℕ) → least_of g n ≡ 0 → (i : ℕ) × (i < n) × (g i ≡ 0)
least_missing g n z = let (i, l, is) = least_found g n (omega arith) in (i, l, omega arith)

-- ---- the largest word

pub most_above : (g : ℕ → ℕ) (n i : ℕ) → i < n → g i ≤ most_of g n
unfolding most_of
most_above g zero i h = absurd (omega arith)
most_above g (suc n) i h = by_cases (ℕ_discrete i n) (λ e. omega (arith, ap g e)) (λ o. omega (arith, most_above g n i (omega arith)))

pub most_below : (g : ℕ → ℕ) (n x : ℕ) → ((i : ℕ) → i < n → g i ≤ x) → most_of g n ≤ x
unfolding most_of
most_below g zero x each = omega arith
most_below g (suc n) x each = omega (arith, most_below g n x (λ i l. each i (omega arith)), each n (omega arith))

-- all are some number, or one of them is not
pub find_other : (g : ℕ → ℕ) (n x : ℕ) → ((i : ℕ) → i < n → g i ≡ x) ⊎ ((i : ℕ) × (i < n) × (¬ (g i ≡ x)))
find_other g zero x = inl (λ i h. absurd (omega arith))
find_other g (suc n) x =
    by_cases (ℕ_discrete (g n) x)
    (λ e. ⊎_elim
    (λ all. inl (λ i h. by_cases (ℕ_discrete i n) (λ is. ap g is ∙ e) (λ o. all i (omega arith))))
    (λ found. inr (found.0, omega (arith, found.1), found.2)) (find_other g n x))
    (λ o. inr (n, omega arith, o))

pub most_same : (f g : ℕ → ℕ) (n : ℕ) → ((d : ℕ) → d < n → f d ≡ g d) → most_of f n ≡ most_of g n
unfolding most_of
most_same f g zero same = refl
most_same f g (suc n) same = ap₂ max (most_same f g n (λ d l. same d (omega arith))) (same n (omega arith))

pub most_taken : (w : List ℕ) (n : ℕ) → n ≤ length w → most_of (at (take n w)) (length (take n w)) ≡ most_of (at w) n
most_taken w n h =
    ap (most_of (at (take n w))) (length-take-le n w h) ∙ most_same (at (take n w)) (at w) n (λ i l. get_or-take n w i 0 l)
