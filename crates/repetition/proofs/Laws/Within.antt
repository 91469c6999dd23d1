-- Points within intervals: where the ends of the intervals rise, the greatest points of each chain taken singly rise too, since each is the
-- smaller of its interval's end and the point span places later less lower.
use Rattle.constraint.proofs.Library.{List, [], ◌+◌, ◌-◌, ◌<◌, ◌∷◌, ◌≡◌, ◌≤◌, ap, arith, by_cases, dec_lt, length, min, refl, suc, zero, ℕ}
use Rattle.constraint.specs.{Meets.Between, Steps.at}

module _ (span lower upper : ℕ) where
  -- one interval for each event
  pub record Intervals (lows highs : List ℕ) : Type 0 where
    pub as_many : length lows ≡ length highs
    pub some : (i : ℕ) → i < length highs → at lows i ≤ at highs i
    pub rise : (i j : ℕ) → i + 1 ≡ j → j < length highs → at highs i < at highs j
    pub lows_apart : (i j : ℕ) → i + span ≡ j → j < length highs → at lows i + lower ≤ at lows j
    pub highs_apart : (i j : ℕ) → i + span ≡ j → j < length highs → at highs j ≤ at highs i + upper

  -- one point in each interval, the greatest
  pub record Within (lows highs points : List ℕ) : Type 0 where
    pub one_each : length points ≡ length highs
    pub from_low : (i : ℕ) → i < length highs → at lows i ≤ at points i
    pub to_high : (i : ℕ) → i < length highs → at points i ≤ at highs i
    pub rise : (i j : ℕ) → i + 1 ≡ j → j < length highs → at points i < at points j
    pub apart : (i j : ℕ) → i + span ≡ j → j < length highs → Between lower upper (at points i) (at points j)
    pub last : (i : ℕ) → i < length highs → length highs ≤ i + span → at points i ≡ at highs i
    pub earlier : (i j : ℕ) → i + span ≡ j → j < length highs → at points i ≡ min (at highs i) (at points j - lower)

  intervals_tail : (l h : ℕ) (ls hs : List ℕ) → Intervals (l ∷ ls) (h ∷ hs) → Intervals ls hs
  intervals_tail l h ls hs all =
      record {
        as_many = omega (arith, all.as_many);
        some = λ i b. all.some (suc i) (omega arith);
        rise = λ i j e b. all.rise (suc i) (suc j) (omega arith) (omega arith);
        lows_apart = λ i j e b. all.lows_apart (suc i) (suc j) (omega arith) (omega arith);
        highs_apart = λ i j e b. all.highs_apart (suc i) (suc j) (omega arith) (omega arith);
      }

  module _ (positive : 1 ≤ span) (possible : lower ≤ upper) (l h : ℕ) (ls hs ps : List ℕ) (all : Intervals (l ∷ ls) (h ∷ hs))
      (rest : Within ls hs ps) (p : ℕ) (last_one : length hs < span → p ≡ h)
      (earlier_one : (j : ℕ) → j + 1 ≡ span → j < length hs → p ≡ min h (at ps j - lower)) where
    -- the point span places later leaves room
    room : (j : ℕ) → j + 1 ≡ span → j < length hs → (l + lower ≤ at ps j) × (at ps j ≤ h + upper)
    room j e b = (
      omega (arith, all.lows_apart 0 (suc j) (omega arith) (omega arith), rest.from_low j b),
      omega (arith, all.highs_apart 0 (suc j) (omega arith) (omega arith), rest.to_high j b),
    )

    first_low : l ≤ p
    first_low =
        by_cases (dec_lt (span - 1) (length hs))
        (λ b. omega (arith, earlier_one (span - 1) (omega arith) b, (room (span - 1) (omega arith) b).0, all.some 0 (omega arith)))
        (λ b. omega (arith, last_one (omega arith), all.some 0 (omega arith)))

    first_high_lem : p ≤ h
    first_high_lem =
        by_cases (dec_lt (span - 1) (length hs))
        (λ b. omega (arith, earlier_one (span - 1) (omega arith) b))
        (λ b. omega (arith, last_one (omega arith)))

    first_rise : 0 < length hs → p < at ps 0
    first_rise more =
        let next : h < at hs 0 = all.rise 0 1 (omega arith) (omega arith) in
        by_cases (dec_lt span (length hs))
        (λ b. omega (
          arith,
          earlier_one (span - 1) (omega arith) (omega arith),
          rest.earlier 0 span (omega arith) b,
          rest.rise (span - 1) span (omega arith) b,
          (room (span - 1) (omega arith) (omega arith)).0,
        ))
        (λ b. omega (arith, first_high_lem, rest.last 0 more (omega arith)))

    first_apart : (j : ℕ) → j + 1 ≡ span → j < length hs → Between lower upper p (at ps j)
    first_apart j e b = (omega (arith, earlier_one j e b, (room j e b).0), omega (arith, earlier_one j e b, (room j e b).0, (room j e b).1))

    within_more : Within (l ∷ ls) (h ∷ hs) (p ∷ ps)
    within_more =
        record {
          one_each = omega (arith, rest.one_each);
          from_low = low;
          to_high = high;
          rise = rises;
          apart = aparts;
          last = lasts;
          earlier = earliers;
        }
      where
        low : (i : ℕ) → i < length (h ∷ hs) → at (l ∷ ls) i ≤ at (p ∷ ps) i
        low zero b = first_low
        low (suc i) b = rest.from_low i (omega arith)

        high : (i : ℕ) → i < length (h ∷ hs) → at (p ∷ ps) i ≤ at (h ∷ hs) i
        high zero b = first_high_lem
        high (suc i) b = rest.to_high i (omega arith)

        rises : (i j : ℕ) → i + 1 ≡ j → j < length (h ∷ hs) → at (p ∷ ps) i < at (p ∷ ps) j
        rises i zero e b = absurd (omega arith)
        rises zero (suc zero) e b = first_rise (omega arith)
        rises zero (suc (suc j)) e b = absurd (omega arith)
        rises (suc i) (suc j) e b = rest.rise i j (omega arith) (omega arith)

        aparts : (i j : ℕ) → i + span ≡ j → j < length (h ∷ hs) → Between lower upper (at (p ∷ ps) i) (at (p ∷ ps) j)
        aparts i zero e b = absurd (omega arith)
        aparts zero (suc j) e b = first_apart j (omega arith) (omega arith)
        aparts (suc i) (suc j) e b = rest.apart i j (omega arith) (omega arith)

        lasts : (i : ℕ) → i < length (h ∷ hs) → length (h ∷ hs) ≤ i + span → at (p ∷ ps) i ≡ at (h ∷ hs) i
        lasts zero b e = last_one (omega arith)
        lasts (suc i) b e = rest.last i (omega arith) (omega arith)

        earliers : (i j : ℕ) → i + span ≡ j → j < length (h ∷ hs) → at (p ∷ ps) i ≡ min (at (h ∷ hs) i) (at (p ∷ ps) j - lower)
        earliers i zero e b = absurd (omega arith)
        earliers zero (suc j) e b = earlier_one j (omega arith) (omega arith)
        earliers (suc i) (suc j) e b = rest.earlier i j (omega arith) (omega arith)

  -- §5.10: intervals that fit together have points
  pub points_within : 1 ≤ span → lower ≤ upper → (lows highs : List ℕ) → Intervals lows highs → (points : List ℕ) × Within lows highs points
  points_within positive possible [] [] all = (
    [],
    record {
      one_each = refl;
      from_low = λ i b. absurd (omega arith);
      to_high = λ i b. absurd (omega arith);
      rise = λ i j e b. absurd (omega arith);
      apart = λ i j e b. absurd (omega arith);
      last = λ i b e. absurd (omega arith);
      earlier = λ i j e b. absurd (omega arith);
    },
  )
  points_within positive possible [] (h ∷ hs) all = absurd (omega (arith, all.as_many))
  points_within positive possible (l ∷ ls) [] all = absurd (omega (arith, all.as_many))
  points_within positive possible (l ∷ ls) (h ∷ hs) all =
      let (ps, rest) = points_within positive possible ls hs (intervals_tail l h ls hs all) in
      by_cases (dec_lt (span - 1) (length hs))
      (λ b. (
        min h (at ps (span - 1) - lower) ∷ ps,
        within_more positive possible l h ls hs ps all rest (min h (at ps (span - 1) - lower)) (λ e. absurd (omega arith))
            (λ j e c. let same : span - 1 ≡ j = omega arith in ap (λ x. min h (at ps x - lower)) same),
      ))
      (λ b. (h ∷ ps, within_more positive possible l h ls hs ps all rest h (λ e. refl) (λ j e c. absurd (omega arith))))
