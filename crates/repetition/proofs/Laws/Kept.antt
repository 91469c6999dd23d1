-- Repetition as a row keeps it: of the places of all points it has those of the last span, the low and the high of each in turn. An event asks
-- for those of the point span places before it, which are the oldest, so the two numbers that it puts in are its own places.
use Rattle.constraint.proofs.Library.{Bool, List, [], ◌++◌, ◌+◌, ◌-◌, ◌<◌, ◌∙◌, ◌∷◌, ◌≡◌, ◌≤◌, ap, arith, by_cases, cond, dec_lt, drop}
use Rattle.constraint.proofs.Library.{drop-append-le}
use Rattle.constraint.proofs.Library.{drop-drop, drop-nil, false, get_or-drop, length, length-append, length-drop, ltb, ltb-false, ltb-true, max, min}
use Rattle.constraint.proofs.Library.{refl, sym, true, ℕ}
use Rattle.constraint.proofs.Lists.{Rising, at_left, at_next, rising_at, split}
use Rattle.constraint.specs.{Limits.last_time, Steps.at}
use Rattle.row_type.proofs.Oldest.{front_at}
use Rattle.row_type.specs.{Parts.front, Parts.plus, declared.Parameters.Parameters}
use Rattle.repetition.proofs.Laws.Chains.{Keeps, Next, first, keeps_none, later}
use Rattle.repetition.specs.Repetition.{first_high, highest_point, lowest_point, points}

-- ---- Lows and highs in turn

pub woven : List ℕ → List ℕ → List ℕ
woven [] hs = []
woven (l ∷ ls) [] = []
woven (l ∷ ls) (h ∷ hs) = l ∷ h ∷ woven ls hs

woven_length : (ls hs : List ℕ) → length ls ≡ length hs → length (woven ls hs) ≡ length hs + length hs
unfolding woven
woven_length [] [] e = refl
woven_length [] (h ∷ hs) e = absurd (omega arith)
woven_length (l ∷ ls) [] e = absurd (omega arith)
woven_length (l ∷ ls) (h ∷ hs) e = omega (arith, woven_length ls hs (omega arith))

woven_first : (ls hs : List ℕ) → length ls ≡ length hs → (at (woven ls hs) 0 ≡ at ls 0) × (at (woven ls hs) 1 ≡ at hs 0)
unfolding woven
woven_first [] [] e = (refl, refl)
woven_first [] (h ∷ hs) e = absurd (omega arith)
woven_first (l ∷ ls) [] e = absurd (omega arith)
woven_first (l ∷ ls) (h ∷ hs) e = (refl, refl)

woven_more : (ls hs : List ℕ) (l h : ℕ) → length ls ≡ length hs → woven (ls ++ (l ∷ [])) (hs ++ (h ∷ [])) ≡ woven ls hs ++ (l ∷ h ∷ [])
unfolding woven
woven_more [] [] l h e = refl
woven_more [] (k ∷ hs) l h e = absurd (omega arith)
woven_more (k ∷ ls) [] l h e = absurd (omega arith)
woven_more (k ∷ ls) (m ∷ hs) l h e = ap {B = List ℕ} (λ r. k ∷ m ∷ r) (woven_more ls hs l h (omega arith))

-- two numbers leave, or none, as one of both does
woven_less : (ls hs : List ℕ) (stay : Bool) → length ls ≡ length hs
    → drop (cond stay 0 2) (woven ls hs) ≡ woven (drop (cond stay 0 1) ls) (drop (cond stay 0 1) hs)
unfolding woven
woven_less ls hs true e = refl
woven_less [] [] false e = refl
woven_less [] (h ∷ hs) false e = absurd (omega arith)
woven_less (l ∷ ls) [] false e = absurd (omega arith)
woven_less (l ∷ ls) (h ∷ hs) false e = refl

-- ---- What the row keeps

-- what is asked of a row of a table, and used here
pub record Asked (parameters : Parameters) : Type 0 where
  pub positive : 1 ≤ parameters.span
  pub given : parameters.upper ≤ last_time
  pub small_lower : parameters.lower ≤ last_time

module _ (parameters : Parameters) where
  abbrev KeepsPlaces : List ℕ → List ℕ → List ℕ → Type 0
  KeepsPlaces = Keeps parameters.span parameters.lower parameters.upper parameters.jitter

  -- how many of the points are no longer among the last span
  abbrev gone : List ℕ → ℕ
  gone events = length events - parameters.span

  pub record KeepsLast (events kept : List ℕ) : Type 0 where
    pub lows : List ℕ
    pub highs : List ℕ
    pub keeps : KeepsPlaces events lows highs
    pub newest : kept ≡ woven (drop (gone events) lows) (drop (gone events) highs)

  pub last_none : KeepsLast [] []
  unfolding woven
  last_none =
      record {
        lows = [];
        highs = [];
        keeps = keeps_none parameters.span parameters.lower parameters.upper parameters.jitter;
        newest = sym (ap (λ (l : List ℕ). woven l (drop (gone []) [])) (drop-nil (gone [])));
      }

  module _ (events kept : List ℕ) (row : KeepsLast events kept) where
    as_many : length (drop (gone events) row.lows) ≡ length (drop (gone events) row.highs)
    as_many =
        length-drop (gone events) row.lows ∙ ap (λ (n : ℕ). n - gone events) (row.keeps.lows_each ∙ sym row.keeps.highs_each)
        ∙ sym (length-drop (gone events) row.highs)

    -- two numbers for each point, and at most span points
    kept_length : length kept ≡ min (length events) parameters.span + min (length events) parameters.span
    kept_length =
        ap length row.newest ∙ woven_length (drop (gone events) row.lows) (drop (gone events) row.highs) as_many
        ∙ omega (arith, length-drop (gone events) row.highs, row.keeps.highs_each)

    pub kept_points : points kept ≡ min (length events) parameters.span
    kept_points = omega (arith, kept_length)

    pub kept_few : length kept ≤ parameters.span + parameters.span
    kept_few = omega (arith, kept_length)

    -- the oldest low and high
    oldest_low : front kept ≡ at row.lows (gone events + 0)
    oldest_low =
        front_at kept ∙ ap (λ l. at l 0) row.newest
        ∙ (woven_first (drop (gone events) row.lows) (drop (gone events) row.highs) as_many).0 ∙ get_or-drop (gone events) row.lows 0 0

    oldest_high : at kept 1 ≡ at row.highs (gone events + 0)
    oldest_high =
        ap (λ l. at l 1) row.newest ∙ (woven_first (drop (gone events) row.lows) (drop (gone events) row.highs) as_many).1
        ∙ get_or-drop (gone events) row.highs 0 0

    lows_near : (i : ℕ) → i < length events → at row.lows i ≤ at events i
    lows_near i h =
        by_cases (dec_lt parameters.span (length events))
        (λ full. omega (arith, row.keeps.some full i h, row.keeps.near i h))
        (λ few. omega (arith, row.keeps.first_lows i (omega arith) h))

    -- ---- an event

    module _ (asked : Asked parameters) (t : ℕ) (small : t ≤ last_time) (rising : Rising (events ++ (t ∷ []))) where
      abbrev pub IsNext : ℕ → ℕ → Type 0
      IsNext =
          Next parameters.span parameters.lower parameters.upper parameters.jitter asked.positive asked.given events row.lows
          row.highs
          row.keeps t rising

      few_events : ltb (points kept) parameters.span ≡ true → length events < parameters.span
      few_events e = omega (arith, ltb-true (points kept) parameters.span e, kept_points)

      many_events : ltb (points kept) parameters.span ≡ false → parameters.span ≤ length events
      many_events e = omega (arith, ltb-false (points kept) parameters.span e, kept_points)

      sum_low : (m : ℕ) → m + parameters.span ≡ length events → plus (at row.lows m) parameters.lower ≡ at row.lows m + parameters.lower
      sum_low m e =
          let before = rising_at (events ++ (t ∷ [])) rising m (length events) (omega arith) (omega (arith, length-append events (t ∷ []))) in
          let old = at_left events (t ∷ []) m (omega arith) in
          let new = at_next events t [] (length events) refl in
          omega (arith, lows_near m (omega arith), before, old, new)

      first_high_few : length events < parameters.span → first_high kept t ≡ at (events ++ (t ∷ [])) 0
      first_high_few few =
          split (ltb (length kept) 2) (λ b. cond b t (at kept 1) ≡ at (events ++ (t ∷ [])) 0)
          (λ e. sym (at_next events t [] 0 (omega (arith, ltb-true (length kept) 2 e, kept_length))))
          (λ e. let some : 0 < length events = omega (arith, ltb-false (length kept) 2 e, kept_length) in
          let place : at row.highs (gone events + 0) ≡ at row.highs 0 = ap (at row.highs) (omega arith) in
          omega (arith, oldest_high, place, row.keeps.first_highs 0 (omega arith) some, at_left events (t ∷ []) 0 some))

      first_high_many : (m : ℕ) → m + parameters.span ≡ length events → first_high kept t ≡ at row.highs m
      first_high_many m f =
          split (ltb (length kept) 2) (λ b. cond b t (at kept 1) ≡ at row.highs m)
          (λ e. absurd (omega (arith, ltb-true (length kept) 2 e, kept_length)))
          (λ e. oldest_high ∙ ap (at row.highs) (omega arith))

      -- the two numbers that an event at t puts in
      abbrev pub new_low : ℕ
      new_low = lowest_point parameters (points kept) (front kept) t

      abbrev pub new_high : ℕ
      new_high = highest_point parameters (points kept) (first_high kept t) t

      -- no sum reaches the limit
      sum_high : new_high ≡ min t (first_high kept t + (parameters.upper - parameters.span) + points kept)
      sum_high = omega arith

      -- they are its places
      pub is_next : IsNext new_low new_high
      is_next =
          split (ltb (points kept) parameters.span)
          (λ b. IsNext (cond b (t - parameters.jitter) (max (t - parameters.jitter) (plus (front kept) parameters.lower))) new_high)
          (λ e. first (few_events e) refl
          (sum_high
          ∙ ap (λ x. min t x) (omega (arith, few_events e, kept_points, first_high_few (few_events e)))))
          (λ e. let here : gone events + parameters.span ≡ length events = omega (arith, many_events e) in
          let low : front kept ≡ at row.lows (gone events) = oldest_low ∙ ap (at row.lows) (omega arith) in
          later (gone events) here
          (ap (λ x. max (t - parameters.jitter) (plus x parameters.lower)) low
          ∙ ap (λ x. max (t - parameters.jitter) x) (sum_low (gone events) here))
          (sum_high
          ∙ ap (λ x. min t x) (omega (arith, many_events e, kept_points, first_high_many (gone events) here))))

      -- what is kept then is of the last span again
      abbrev stay : Bool
      stay = ltb (points kept) parameters.span

      still : gone events + cond stay 0 1 ≡ gone (events ++ (t ∷ []))
      still =
          split stay (λ b. gone events + cond b 0 1 ≡ gone (events ++ (t ∷ [])))
          (λ e. omega (arith, few_events e, length-append events (t ∷ [])))
          (λ e. omega (arith, many_events e, length-append events (t ∷ [])))

      moved : (xs : List ℕ) (x : ℕ) → length xs ≡ length events
          → drop (cond stay 0 1) (drop (gone events) xs) ++ (x ∷ []) ≡ drop (gone (events ++ (t ∷ []))) (xs ++ (x ∷ []))
      moved xs x e =
          ap (λ (l : List ℕ). l ++ (x ∷ [])) (drop-drop (cond stay 0 1) (gone events) xs ∙ ap (λ (n : ℕ). drop n xs) still)
          ∙ sym (drop-append-le (gone (events ++ (t ∷ []))) xs (x ∷ []) (omega (arith, length-append events (t ∷ []))))

      pub newest_more : (low high dropped : ℕ) → cond stay 0 2 ≡ dropped → drop dropped kept ++ (low ∷ high ∷ [])
          ≡ woven (drop (gone (events ++ (t ∷ []))) (row.lows ++ (low ∷ []))) (drop (gone (events ++ (t ∷ []))) (row.highs ++ (high ∷ [])))
      newest_more low high dropped is =
          (λ i. drop (sym is i) (row.newest i) ++ (low ∷ high ∷ []))
          ∙ ap (λ (l : List ℕ). l ++ (low ∷ high ∷ [])) (woven_less (drop (gone events) row.lows) (drop (gone events) row.highs) stay as_many)
          ∙ sym (woven_more (drop (cond stay 0 1) (drop (gone events) row.lows)) (drop (cond stay 0 1) (drop (gone events) row.highs)) low high
          (length-drop (cond stay 0 1) (drop (gone events) row.lows) ∙ ap (λ (n : ℕ). n - cond stay 0 1) as_many
          ∙ sym (length-drop (cond stay 0 1) (drop (gone events) row.highs))))
          ∙ (λ i. woven (moved row.lows low row.keeps.lows_each i) (moved row.highs high row.keeps.highs_each i))
