-- The search goes through the list of stretches one by one: what it has tried and what is left are the list, so its counter is the place.
use Rattle.constraint.proofs.Library.{List, [], ◌*◌, ◌++◌, ◌+◌, ◌-◌, ◌<◌, ◌∙◌, ◌∷◌, ◌≡◌, ◌≤◌, ◌⊎◌, add-mul, ap, append-nil, append_snoc, arith, inl}
use Rattle.constraint.proofs.Library.{inr, length, length-append, mul-add, mul-one, one-mul, refl, subst, suc, sym, zero, zero-mul, ℕ, ⊎_elim}
use Rattle.constraint.specs.Steps.{at}
use Rattle.constraint.specs.Stretches.{FirstAt, Some, Stretch, sizes, starts, stretch_of, stretches}
use Rattle.stretch.specs.Machine.{Enough}

-- ---- lists of stretches

module _ (P : Stretch → Type 0) where
  pub some_cases : (a b : List Stretch) → Some P (a ++ b) → Some P a ⊎ Some P b
  some_cases [] b h = inr h
  some_cases (s ∷ a) b (inl h) = inl (inl h)
  some_cases (s ∷ a) b (inr h) = ⊎_elim (λ x. inl (inr x)) (λ x. inr x) (some_cases a b h)

  pub some_right : (a b : List Stretch) → Some P b → Some P (a ++ b)
  some_right [] b h = h
  some_right (s ∷ a) b h = inr (some_right a b h)

-- each of them has it
abbrev pub All : (Stretch → Type 0) → List Stretch → Type 0
All P [] = Unit {0}
All P (s ∷ later) = P s × All P later

module _ (P : Stretch → Type 0) where
  pub all_append : (a b : List Stretch) → All P a → All P b → All P (a ++ b)
  all_append [] b h k = k
  all_append (s ∷ a) b h k = (h.0, all_append a b h.1 k)

  pub all_left : (a b : List Stretch) → All P (a ++ b) → All P a
  all_left [] b h = tt
  all_left (s ∷ a) b h = (h.0, all_left a b h.1)

  pub all_right : (a b : List Stretch) → All P (a ++ b) → All P b
  all_right [] b h = h
  all_right (s ∷ a) b h = all_right a b h.1

-- what some have, they have by another name
pub some_as : (P Q R : Stretch → Type 0) → ((s : Stretch) → R s → P s → Q s) → (list : List Stretch) → All R list → Some P list → Some Q list
some_as P Q R same [] all h = h
some_as P Q R same (s ∷ later) all (inl h) = inl (same s all.0 h)
some_as P Q R same (s ∷ later) all (inr h) = inr (some_as P Q R same later all.1 h)

pub first_as : (P Q R : Stretch → Type 0) → ((s : Stretch) → R s → P s → Q s) → ((s : Stretch) → R s → Q s → P s)
    → (list : List Stretch) → All R list → (s : Stretch) (place : ℕ) → FirstAt P list s place → FirstAt Q list s place
first_as P Q R there back list all s place f =
    let parts : All R (f.before ++ (s ∷ f.later)) = subst (All R) f.in_order all in
    record {
      before = f.before;
      later = f.later;
      in_order = f.in_order;
      placed = f.placed;
      has = there s (all_right R f.before (s ∷ f.later) parts).0 f.has;
      none_before = λ some. f.none_before (some_as Q P R back f.before (all_left R f.before (s ∷ f.later) parts) some);
    }

-- ---- the stretches of n records

-- it has a record, and lies among them
abbrev pub Inside : ℕ → Stretch → Type 0
Inside n s = (0 < s.size) × (s.first + s.size ≤ n)

starts_inside : (n left first size : ℕ) → 0 < size → left + first + size ≤ n + 1 → All (Inside n) (starts left first size)
unfolding starts
starts_inside n zero first size pos h = tt
starts_inside n (suc left) first size pos h = ((pos, omega (arith, h)), starts_inside n left (first + 1) size pos (omega (arith, h)))

sizes_inside : (n left size : ℕ) → 0 < size → left + size ≤ n + 1 → All (Inside n) (sizes left n size)
unfolding sizes
sizes_inside n zero size pos h = tt
sizes_inside n (suc left) size pos h =
    all_append (Inside n) (starts (n + 1 - size) 0 size) (sizes left n (size + 1)) (starts_inside n (n + 1 - size) 0 size pos (omega (arith, h)))
    (sizes_inside n left (size + 1) (omega arith) (omega (arith, h)))

-- §14.1
pub stretches_inside : (n : ℕ) → All (Inside n) (stretches n)
stretches_inside n = sizes_inside n n 1 (omega arith) (omega arith)

-- ---- the search

module _ (n : ℕ) where
  -- what is left at a stretch: the later starts of its length, and the longer ones
  abbrev pub left : ℕ → ℕ → List Stretch
  left first size = starts (n + 1 - size - first) first size ++ sizes (n - size) n (size + 1)

  -- the lengths from one on
  sizes_left : (k size : ℕ) → k ≡ n + 1 - size → sizes k n size ≡ left 0 size
  unfolding starts sizes
  sizes_left zero size is =
      ap (λ (z : ℕ). starts z 0 size ++ sizes 0 n (size + 1)) none ∙ ap (λ (z : ℕ). starts (n + 1 - size - 0) 0 size ++ sizes z n (size + 1)) longer
    where
      none : 0 ≡ n + 1 - size - 0
      none = omega (arith, is)

      longer : 0 ≡ n - size
      longer = omega (arith, is)
  sizes_left (suc k) size is =
      ap (λ (z : ℕ). starts z 0 size ++ sizes k n (size + 1)) same ∙ ap (λ (z : ℕ). starts (n + 1 - size - 0) 0 size ++ sizes z n (size + 1)) longer
    where
      same : n + 1 - size ≡ n + 1 - size - 0
      same = omega arith

      longer : k ≡ n - size
      longer = omega (arith, is)

  -- its own, and those behind it
  own_first : (first size : ℕ) → first + size ≤ n → left first size ≡ stretch_of first size ∷ left (first + 1) size
  unfolding starts
  own_first first size h =
      ap (λ (z : ℕ). starts z first size ++ sizes (n - size) n (size + 1)) more
      ∙ ap (λ (z : ℕ). stretch_of first size ∷ (starts z (first + 1) size ++ sizes (n - size) n (size + 1))) less
    where
      more : n + 1 - size - first ≡ suc (n - size - first)
      more = omega (arith, h)

      less : n - size - first ≡ n + 1 - size - (first + 1)
      less = omega (arith, h)

  -- behind the last of a length
  next_size : (first size : ℕ) → n ≤ first + size → left (first + 1) size ≡ left 0 (size + 1)
  unfolding starts
  next_size first size last =
      ap (λ (z : ℕ). starts z (first + 1) size ++ sizes (n - size) n (size + 1)) none ∙ sizes_left (n - size) (size + 1) (omega arith)
    where
      none : n + 1 - size - (first + 1) ≡ 0
      none = omega (arith, last)

  none_left : (first size : ℕ) → n < size → left first size ≡ []
  unfolding starts sizes
  none_left first size h =
      ap (λ (z : ℕ). starts z first size ++ sizes (n - size) n (size + 1)) none ∙ ap (λ (z : ℕ). sizes z n (size + 1)) longer
    where
      none : n + 1 - size - first ≡ 0
      none = omega (arith, h)

      longer : n - size ≡ 0
      longer = omega (arith, h)

  module _ (need : List ℕ) where
    -- those before the stretch were tried, and none is as long as its start needs
    pub record Searching (first size tried : ℕ) : Type 0 where
      pub before : List Stretch
      pub whole : stretches n ≡ before ++ left first size
      pub counted : length before ≡ tried
      pub none : ¬ Some (Enough need) before
      pub positive : 0 < size
      pub inside : size ≤ n → first + size ≤ n
      pub size_small : size ≤ n + 1
      pub small : tried + 257 ≤ 257 * size + first

    pub search_start : Searching 0 1 0
    search_start =
        record {
          before = [];
          whole = sizes_left n 1 (omega arith);
          counted = refl;
          none = λ h. h;
          positive = omega arith;
          inside = λ h. h;
          size_small = omega arith;
          small = omega arith;
        }

    module _ (first size tried : ℕ) (s : Searching first size tried) where
      pub search_end : n < size → ¬ Some (Enough need) (stretches n)
      search_end h some =
          s.none (subst (Some (Enough need)) (s.whole ∙ ap (λ (l : List Stretch). s.before ++ l) (none_left first size h)
          ∙ append-nil s.before) some)

      module _ (more : size ≤ n) where
        in_order : stretches n ≡ s.before ++ (stretch_of first size ∷ left (first + 1) size)
        in_order = s.whole ∙ ap (λ (l : List Stretch). s.before ++ l) (own_first first size (s.inside more))

        -- §14.4
        pub search_found : at need first ≤ size → FirstAt (Enough need) (stretches n) (stretch_of first size) (tried + 1)
        search_found enough =
            record {
              before = s.before;
              later = left (first + 1) size;
              in_order = in_order;
              placed = omega (arith, s.counted);
              has = enough;
              none_before = s.none;
            }

        module _ (short : size < at need first) where
          tried_now : List Stretch
          tried_now = s.before ++ (stretch_of first size ∷ [])

          whole_now : (next : List Stretch) → left (first + 1) size ≡ next → stretches n ≡ tried_now ++ next
          unfolding tried_now
          whole_now next is =
              in_order ∙ ap (λ (l : List Stretch). s.before ++ (stretch_of first size ∷ l)) is
              ∙ sym (append_snoc s.before (stretch_of first size) next)

          counted_now : length tried_now ≡ tried + 1
          unfolding tried_now
          counted_now = length-append s.before (stretch_of first size ∷ []) ∙ omega (arith, s.counted)

          none_now : ¬ Some (Enough need) tried_now
          unfolding tried_now
          none_now some =
              ⊎_elim s.none (λ last. ⊎_elim (λ enough. omega (arith, enough, short)) (λ x. x) last)
              (some_cases (Enough need) s.before (stretch_of first size ∷ []) some)

          pub search_on : first + size < n → Searching (first + 1) size (tried + 1)
          search_on h =
              record {
                before = tried_now;
                whole = whole_now (left (first + 1) size) refl;
                counted = counted_now;
                none = none_now;
                positive = s.positive;
                inside = λ x. omega (arith, h);
                size_small = s.size_small;
                small = omega (arith, s.small);
              }

          pub search_longer : n ≤ 256 → n ≤ first + size → Searching 0 (size + 1) (tried + 1)
          search_longer few last =
              record {
                before = tried_now;
                whole = whole_now (left 0 (size + 1)) (next_size first size last);
                counted = counted_now;
                none = none_now;
                positive = omega arith;
                inside = λ x. omega (arith, x);
                size_small = omega (arith, more);
                small = omega (arith, s.small, s.inside more, s.positive, few);
              }

-- ---- the place by a formula

-- of n records: with p one less than its length, twice the stretches before it and p(p + 1) are twice p(n + 1) and its first record's number
abbrev pub Formula : ℕ → ℕ → Stretch → Type 0
Formula n before s = (p : ℕ) → s.size ≡ p + 1 → 2 * before + (p + 1) * p ≡ 2 * (p * (n + 1) + s.first)

-- each of a list by its place, if i come before the first
abbrev Numbered : ℕ → ℕ → List Stretch → Type 0
Numbered n i [] = Unit {0}
Numbered n i (s ∷ later) = Formula n i s × Numbered n (i + 1) later

numbered_append : (n i : ℕ) (a b : List Stretch) → Numbered n i a → Numbered n (i + length a) b → Numbered n i (a ++ b)
numbered_append n i [] b h k = let same : i + 0 ≡ i = omega arith in subst (λ (j : ℕ). Numbered n j b) same k
numbered_append n i (s ∷ a) b h k =
    let same : i + suc (length a) ≡ i + 1 + length a = omega arith in
    (h.0, numbered_append n (i + 1) a b h.1 (subst (λ (j : ℕ). Numbered n j b) same k))

numbered_at : (n i : ℕ) (before : List Stretch) (s : Stretch) (later : List Stretch) → Numbered n i (before ++ (s ∷ later))
    → Formula n (i + length before) s
numbered_at n i [] s later h = let same : i ≡ i + 0 = omega arith in subst (λ (j : ℕ). Formula n j s) same h.0
numbered_at n i (x ∷ before) s later h =
    let same : i + 1 + length before ≡ i + suc (length before) = omega arith in
    subst (λ (j : ℕ). Formula n j s) same (numbered_at n (i + 1) before s later h.1)

length_starts : (left first size : ℕ) → length (starts left first size) ≡ left
unfolding starts
length_starts zero first size = refl
length_starts (suc left) first size = ap suc (length_starts left (first + 1) size)

-- one more start is one more place
numbered_starts : (n i left first size : ℕ) → Formula n i (stretch_of first size) → Numbered n i (starts left first size)
unfolding starts
numbered_starts n i zero first size f = tt
numbered_starts n i (suc left) first size f =
    (f, numbered_starts n (i + 1) left (first + 1) size (λ p is. next ((p + 1) * p) (p * (n + 1)) (f p is)))
  where
    next : (square rows : ℕ) → 2 * i + square ≡ 2 * (rows + first) → 2 * (i + 1) + square ≡ 2 * (rows + (first + 1))
    next square rows e = omega (arith, e)

-- products with one more
one_more : (p k : ℕ) → (p + 1) * k ≡ p * k + k
one_more p k = add-mul p 1 k ∙ ap (λ (x : ℕ). p * k + x) (one-mul k)

squares : (p : ℕ) → (p + 1 + 1) * (p + 1) ≡ (p + 1) * p + 2 * (p + 1)
squares p = one_more (p + 1) (p + 1) ∙ ap (λ (x : ℕ). x + (p + 1)) (mul-add (p + 1) p 1 ∙ ap (λ (x : ℕ). (p + 1) * p + x) (mul-one (p + 1)))
    ∙ twice ((p + 1) * p)
  where
    twice : (x : ℕ) → x + (p + 1) + (p + 1) ≡ x + 2 * (p + 1)
    twice x = omega arith

-- one more length is as many places as the last had starts
numbered_sizes : (n i left p : ℕ) → left + p ≤ n → Formula n i (stretch_of 0 (p + 1)) → Numbered n i (sizes left n (p + 1))
unfolding sizes
numbered_sizes n i zero p h f = tt
numbered_sizes n i (suc left) p h f =
    numbered_append n i (starts (n + 1 - (p + 1)) 0 (p + 1)) (sizes left n (p + 1 + 1)) (numbered_starts n i (n + 1 - (p + 1)) 0 (p + 1) f)
    (subst (λ (j : ℕ). Numbered n (i + j) (sizes left n (p + 1 + 1))) (sym (length_starts (n + 1 - (p + 1)) 0 (p + 1)))
    (numbered_sizes n (i + (n + 1 - (p + 1))) left (p + 1) (omega (arith, h)) longer))
  where
    by_rows : (square rows square' rows' : ℕ) → square' ≡ square + 2 * (p + 1) → rows' ≡ rows + (n + 1) → 2 * i + square ≡ 2 * (rows + 0)
        → 2 * (i + (n + 1 - (p + 1))) + square' ≡ 2 * (rows' + 0)
    by_rows square rows square' rows' a b e = omega (arith, h, a, b, e)

    longer : Formula n (i + (n + 1 - (p + 1))) (stretch_of 0 (p + 1 + 1))
    longer q is =
        let same : p + 1 ≡ q = omega (arith, is) in
        subst (λ (k : ℕ). 2 * (i + (n + 1 - (p + 1))) + (k + 1) * k ≡ 2 * (k * (n + 1) + 0)) same
        (by_rows ((p + 1) * p) (p * (n + 1)) ((p + 1 + 1) * (p + 1)) ((p + 1) * (n + 1)) (squares p) (one_more p (n + 1)) (f p refl))

-- §14.3, §14.4: the place of a stretch of n records by its start and length
pub place_formula : (P : Stretch → Type 0) (n : ℕ) (s : Stretch) (place : ℕ) → FirstAt P (stretches n) s place → Formula n (place - 1) s
place_formula P n s place f =
    let before : 0 + length f.before ≡ place - 1 = omega (arith, f.placed) in
    subst (λ (i : ℕ). Formula n i s) before
    (numbered_at n 0 f.before s f.later (subst (Numbered n 0) f.in_order (numbered_sizes n 0 n 0 (omega arith) start)))
  where
    start : Formula n 0 (stretch_of 0 (0 + 1))
    start p is =
        let none : 0 ≡ p = omega (arith, is) in
        subst (λ (k : ℕ). 2 * 0 + (k + 1) * k ≡ 2 * (k * (n + 1) + 0)) none (ap (λ (x : ℕ). 2 * (x + 0)) (sym (zero-mul (n + 1))))
