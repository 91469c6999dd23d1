-- Pattern: all events hang on one hidden start, so the places of the start are the numbers from low to high; each event cuts this interval at both
-- ends, and the largest place of the start allows the latest clock.
use Rattle.constraint.proofs.Library.{Bool, List, [], ◌++◌, ◌+◌, ◌-◌, ◌<◌, ◌||◌, ◌↔◌, ◌∙◌, ◌∷◌, ◌≡◌, ◌≤◌, ap, arith, by_cases, cond, dec_lt, eq-eqb}
use Rattle.constraint.proofs.Library.{eqb, eqb-false, length, length-append, ltb, ltb-false, ltb-true, max, min, ne_eqb, refl, subst, suc, sym, zero}
use Rattle.constraint.proofs.Library.{ℕ}
use Rattle.constraint.proofs.Lists.{Each, at_left, at_next, at_right, split}
use Rattle.constraint.specs.Meets.{AtLeastApart, Between, MeetsPattern, SpansApart, number_of, place_of, point_of}
use Rattle.constraint.specs.{Limits.last_time, Limits.no_limit, Limits.waiting_limit, Steps.at}
use Rattle.row_type.proofs.Spans.{LastIs, apart_first, apart_more, far_enough_lem, last_new, last_none, last_some, last_zero}
use Rattle.row_type.proofs.Tests.{Tells, fails, holds, tells_and, tells_leb, tells_or, tells_same}
use Rattle.row_type.proofs.{OneKind.ByTurn, OneKind.Follows}
use Rattle.row_type.specs.Parts.{breaking, no_registers, plus}
use Rattle.row_type.specs.{declared.Change.Change, declared.Registers.Registers}
use Rattle.patterns.specs.Pattern.{decide_pattern, due_next, due_then, high_after, later_pattern, low_after, number_after, placed_in, point_in}
use Rattle.patterns.specs.Pattern.{step_to}

-- ---- the numbers of events in their groups, and the points of these

number_low : (n j : ℕ) → 1 ≤ n → number_of n j < n
unfolding number_of
number_low n zero some = some
number_low n (suc j) some =
    split (eqb (number_of n j + 1) n) (λ x. cond x 0 (number_of n j + 1) < n)
    (λ e. some) (λ e. let other : ¬ (number_of n j + 1 ≡ n) = eqb-false (number_of n j + 1) n e in omega (arith, number_low n j some))

-- in the first group they are those of the events
number_early : (n j : ℕ) → j < n → number_of n j ≡ j
unfolding number_of
number_early n zero few = refl
number_early n (suc j) few =
    let before : number_of n j ≡ j = number_early n j (omega arith) in
    rw (before, ne_eqb (j + 1) n (λ e. omega arith)) (omega arith)

number_again : (n j : ℕ) → j ≡ n → 1 ≤ n → number_of n j ≡ 0
unfolding number_of
number_again n zero e some = refl
number_again n (suc j) e some = let before : number_of n j ≡ j = number_early n j (omega arith) in rw (before, eq-eqb (j + 1) n (omega arith))

point_step : (n period j : ℕ) → point_of n period (suc j) ≡ point_of n period j + step_to period (number_of n (suc j))
unfolding number_of point_of
point_step n period j =
    split (eqb (number_of n j + 1) n)
    (λ x. cond x (point_of n period j + period) (point_of n period j) ≡ point_of n period j + step_to period (cond x 0 (number_of n j + 1)))
    (λ e. refl) (λ e. rw (ne_eqb (number_of n j + 1) 0 (λ z. omega arith)) (omega arith))

step_small : (period i : ℕ) → step_to period i ≤ period
step_small period i = split (eqb i 0) (λ x. cond x period 0 ≤ period) (λ e. omega arith) (λ e. omega arith)

-- ---- the places of the start

module _ (period jitter : ℕ) (offsets : List ℕ) where
  abbrev place : ℕ → ℕ
  place j = place_of period offsets j

  -- each event is 0 to jitter after its place from the start on
  abbrev pub Near : ℕ → List ℕ → Type 0
  Near start events = (j : ℕ) → j < length events → Between 0 jitter (start + place j) (at events j)

  pub near_first : (start : ℕ) (xs ys : List ℕ) → Near start (xs ++ ys) → Near start xs
  near_first start xs ys near j h = rw (at_left xs ys j h) at (near j (omega (arith, length-append xs ys)))

  module _ (start : ℕ) (events : List ℕ) (t : ℕ) where
    near_more : Near start events → Between 0 jitter (start + place (length events)) t → Near start (events ++ (t ∷ []))
    near_more near new j h =
        by_cases (dec_lt j (length events))
        (λ old. rw (at_left events (t ∷ []) j old) (near j old))
        (λ end. let e : j ≡ length events = omega (arith, length-append events (t ∷ [])) in
        rw (at_next events t [] j e) (subst (λ (m : ℕ). Between 0 jitter (start + place m) t) (sym e) new))

    near_new : Near start (events ++ (t ∷ [])) → Between 0 jitter (start + place (length events)) t
    near_new near = rw (at_next events t [] (length events) refl) at (near (length events) (omega (arith, length-append events (t ∷ []))))

  -- the start can be at each place from a to b and at no other
  pub record Starts (events : List ℕ) (a b : ℕ) : Type 0 where
    pub ordered : a ≤ b
    pub each : (start : ℕ) → a ≤ start → start ≤ b → Near start events
    pub no_other : (start : ℕ) → Near start events → (a ≤ start) × (start ≤ b)

  module _ (events : List ℕ) (t : ℕ) where
    starts_first : length events ≡ 0 → place (length events) ≤ t
        → Starts (events ++ (t ∷ [])) (t - (place (length events) + jitter)) (t - place (length events))
    starts_first empty soon =
        record {
          ordered = omega arith;
          each = λ start low high. near_more start events t (λ j h. absurd (omega arith)) (omega arith, omega arith);
          no_other = λ start near. let new = near_new start events t near in (omega (arith, new.1), omega (arith, new.0));
        }

    starts_more : (a b : ℕ) → Starts events a b → place (length events) ≤ t
        → max a (t - (place (length events) + jitter)) ≤ min b (t - place (length events))
        → Starts (events ++ (t ∷ [])) (max a (t - (place (length events) + jitter))) (min b (t - place (length events)))
    starts_more a b starts soon ordered =
        record {
          ordered = ordered;
          each = λ start low high. near_more start events t (starts.each start (omega arith) (omega arith)) (omega arith, omega arith);
          no_other = λ start near. let new = near_new start events t near in
              let old = starts.no_other start (near_first start events (t ∷ []) near) in
              (omega (arith, new.1, old.0), omega (arith, new.0, old.1));
        }

-- ---- an interval that is cut at both ends, point later

module _ (a b point offset jitter t : ℕ) where
  cut_low : max (a + point) (t - (offset + jitter)) ≡ max a (t - (point + offset + jitter)) + point
  cut_low = omega arith

  cut_high : point + offset ≤ t → min (b + point) (t - offset) ≡ min b (t - (point + offset)) + point
  cut_high there = omega arith

  cut_there : offset ≤ t → max (a + point) (t - (offset + jitter)) ≤ min (b + point) (t - offset) → point + offset ≤ t
  cut_there there ordered =
      let least : point ≤ max (a + point) (t - (offset + jitter)) = omega arith in
      let most : min (b + point) (t - offset) ≤ t - offset = omega arith in
      omega arith

  cut_ordered : offset ≤ t → max (a + point) (t - (offset + jitter)) ≤ min (b + point) (t - offset)
      → max a (t - (point + offset + jitter)) ≤ min b (t - (point + offset))
  cut_ordered there ordered =
      less (max (a + point) (t - (offset + jitter))) (min (b + point) (t - offset)) (max a (t - (point + offset + jitter)))
      (min b (t - (point + offset))) cut_low (cut_high (cut_there there ordered)) ordered
    where
      less : (x y p q : ℕ) → x ≡ p + point → y ≡ q + point → x ≤ y → p ≤ q
      less x y p q e f h = omega arith

tells_ltb : (a b : ℕ) → Tells (a < b) (ltb a b)
tells_ltb a b = split (ltb a b) (Tells (a < b)) (λ e. holds (ltb-true a b e)) (λ e. fails (omega (arith, ltb-false)))

-- ---- the row

-- what the table's row gives
pub record Given (period jitter : ℕ) (offsets : List ℕ) : Type 0 where
  pub some : 1 ≤ length offsets
  pub few : length offsets ≤ 8
  pub small_period : period ≤ last_time
  pub small_jitter : jitter ≤ last_time
  pub small_offsets : Each (λ o. o ≤ last_time) offsets

module _ (period jitter minimum : ℕ) (offsets : List ℕ) where
  abbrev n : ℕ
  n = length offsets

  -- the m-th event's point can be at each place from low to high: these are the places of the start, and as much later as the point is
  pub record PointsIn (events : List ℕ) (m low high : ℕ) : Type 0 where
    pub from : ℕ
    pub to : ℕ
    pub low_is : low ≡ from + point_of n period m
    pub high_is : high ≡ to + point_of n period m
    pub starts : Starts period jitter offsets events from to

  -- what the row keeps of its events: its words as they were
  pub record KeepsPattern (held : List ℕ) (events : List ℕ) (registers : Registers) (words : List ℕ) : Type 0 where
    pub words_stay : words ≡ held
    pub apart : AtLeastApart minimum events
    pub groups : n < length events → 0 < period
    pub number_is : registers.first ≡ number_of n (length events)
    pub last_is : LastIs events registers.fourth
    pub points : (m : ℕ) → m + 1 ≡ length events → PointsIn events m registers.second registers.third
    pub high_small : registers.third ≤ last_time

  -- nothing is due before the first event
  abbrev pub due_pattern : Registers → List ℕ → ℕ
  due_pattern registers words = cond (eqb registers.fourth 0) no_limit
      (due_next n period jitter minimum (at offsets) registers.first registers.third)

  abbrev TurnsPattern : List ℕ → List ℕ → List ℕ → ℕ → Change → Type 0
  TurnsPattern held events words t change =
      ByTurn (MeetsPattern period jitter minimum offsets) (KeepsPattern held) due_pattern events words t change

  -- ---- Start

  pattern_none : (held : List ℕ) → KeepsPattern held [] no_registers held
  unfolding SpansApart number_of
  pattern_none held =
      record {
        words_stay = refl;
        apart = λ i h. absurd (omega arith);
        groups = λ h. absurd (omega arith);
        number_is = refl;
        last_is = last_none;
        points = λ m e. absurd (omega arith);
        high_small = omega arith;
      }

  module _ (given : Given period jitter offsets) where
    -- sums of the due time do not saturate
    due_exact : (i high : ℕ) → i < n → high ≤ last_time
        → due_next n period jitter minimum (at offsets) i high ≡ high + step_to period i + at offsets i + jitter
    due_exact i high l small =
        let a = step_small period i in
        let b = given.small_period in
        let c = given.small_jitter in
        let d = given.small_offsets i l in
        sum (step_to period i) (at offsets i) (omega arith) d
      where
        sum : (s o : ℕ) → s ≤ last_time → o ≤ last_time → plus (plus (plus high s) o) jitter ≡ high + s + o + jitter
        sum s o hs ho = omega (arith, given.small_jitter)

    number_there : (j : ℕ) → number_of n j < n
    number_there j = number_low n j given.some

    -- the place behind the m-th event's, by its point
    place_after : (m : ℕ) → place_of period offsets (suc m)
        ≡ point_of n period m + step_to period (number_of n (suc m)) + at offsets (number_of n (suc m))
    place_after m = ap (λ x. x + at offsets (number_of n (suc m))) (point_step n period m)

    -- ---- Open

    module _ (held events : List ℕ) (registers : Registers) (words : List ℕ) (keeps : KeepsPattern held events registers words)
        (now : ℕ) (small : now ≤ last_time) where
      abbrev SaysNow : Type 0
      SaysNow = MeetsPattern period jitter minimum offsets events now

      none_says : length events ≡ 0 → SaysNow
      unfolding MeetsPattern
      none_says e = ((0, (λ j h. absurd (omega arith)), λ some. absurd (omega arith)), keeps.apart, keeps.groups)

      some_says : (m : ℕ) → length events ≡ suc m
          → SaysNow ↔ (now ≤ due_next n period jitter minimum (at offsets) registers.first registers.third)
      unfolding MeetsPattern
      some_says m e = (
        λ ((start, near, soon), apart, groups). omega (
          arith,
          due_is,
          next_is,
          in_points.high_is,
          (in_points.starts.no_other start near).1,
          soon (omega arith),
        ),
        λ soon. (
          (
            in_points.to,
            in_points.starts.each in_points.to in_points.starts.ordered (omega arith),
            λ some. omega (arith, due_is, next_is, in_points.high_is, soon),
          ),
          keeps.apart,
          keeps.groups,
        ),
      )
        where
          in_points : PointsIn events m registers.second registers.third
          in_points = keeps.points m (omega arith)

          number : registers.first ≡ number_of n (suc m)
          number = keeps.number_is ∙ ap (number_of n) e

          due_is : due_next n period jitter minimum (at offsets) registers.first registers.third
              ≡ registers.third + step_to period (number_of n (suc m)) + at offsets (number_of n (suc m)) + jitter
          due_is =
              ap (λ i. due_next n period jitter minimum (at offsets) i registers.third) number
              ∙ due_exact (number_of n (suc m)) registers.third (number_there (suc m)) keeps.high_small

          next_is : place_of period offsets (length events)
              ≡ point_of n period m + step_to period (number_of n (suc m)) + at offsets (number_of n (suc m))
          next_is = ap (place_of period offsets) e ∙ place_after m

      pattern_says : SaysNow ↔ (now ≤ due_pattern registers words)
      pattern_says =
          split (eqb registers.fourth 0)
          (λ x. SaysNow ↔ (now ≤ cond x no_limit (due_next n period jitter minimum (at offsets) registers.first registers.third)))
          (λ none. (λ m. omega arith, λ soon. none_says (last_zero events registers.fourth keeps.last_is none)))
          (λ some. let (m, more, is) = last_some events registers.fourth keeps.last_is some in some_says m more)

    -- ---- Events

    module _ (held events : List ℕ) (registers : Registers) (words : List ℕ) (keeps : KeepsPattern held events registers words)
        (t : ℕ) (small : t ≤ last_time) where
      abbrev all : List ℕ
      all = events ++ (t ∷ [])

      longer : length (events ++ (t ∷ [])) ≡ suc (length events)
      longer = omega (arith, length-append events (t ∷ []))

      -- the offset of the event, and its place
      offset_is : at offsets registers.first ≡ at offsets (number_of n (length events))
      offset_is = ap (at offsets) keeps.number_is

      offset_small : at offsets registers.first ≤ last_time
      offset_small = omega (arith, offset_is, given.small_offsets (number_of n (length events)) (number_there (length events)))

      number_more : number_after n registers.first ≡ number_of n (suc (length events))
      unfolding number_of
      number_more =
          let sum : plus (number_of n (length events)) 1 ≡ number_of n (length events) + 1 = omega (arith, number_there (length events), given.few) in
          ap (number_after n) keeps.number_is ∙ rw sum

      -- the number from low to high are where the event's point can be
      record Fitting (low high : ℕ) : Type 0 where
        fits : at offsets registers.first ≤ t → low ≤ high → PointsIn all (length events) low high
        only : (start : ℕ) → Near period jitter offsets start all
            → (at offsets registers.first ≤ t) × (low ≤ start + point_of n period (length events))
            × (start + point_of n period (length events) ≤ high)
        below : high ≤ t

      placed_turn : (low high : ℕ) → AtLeastApart minimum all → (n < length all → 0 < period) → Fitting low high
          → TurnsPattern held events words t (placed_in n period jitter minimum (at offsets) registers t registers.first low high)
      unfolding placed_in MeetsPattern
      placed_turn low high apart groups fitting =
          turn (tells_and (tells_leb (at offsets registers.first) t)
          (tells_and (tells_leb low high) (tells_leb t (due_then n period jitter minimum (at offsets) t registers.first high))))
        where
          due_is : due_then n period jitter minimum (at offsets) t registers.first high
              ≡ high + step_to period (number_of n (suc (length events))) + at offsets (number_of n (suc (length events))) + jitter
          due_is =
              ap (λ i. due_next n period jitter minimum (at offsets) i high) number_more
              ∙ due_exact (number_of n (suc (length events))) high (number_there (suc (length events))) (omega (arith, fitting.below))

          next_is : place_of period offsets (length all) ≡ point_of n period (length events)
              + step_to period (number_of n (suc (length events))) + at offsets (number_of n (suc (length events)))
          next_is = ap (place_of period offsets) longer ∙ place_after (length events)

          turn : {test : Bool}
              → Tells ((at offsets registers.first ≤ t) ×
              ((low ≤ high) × (t ≤ due_then n period jitter minimum (at offsets) t registers.first high))) test
              → TurnsPattern held events words t
              (cond test (point_in n period jitter minimum (at offsets) registers t registers.first low high) breaking)
          turn (holds (there, (ordered, soon))) =
              record {
                live = record {
                  words_stay = keeps.words_stay;
                  apart = apart;
                  groups = groups;
                  number_is = number_more ∙ ap (number_of n) (sym longer);
                  last_is = last_new events t (plus t 1) (omega arith);
                  points = λ m e. let last : length events ≡ m = omega (arith, longer) in
                      subst (λ (k : ℕ). PointsIn all k low high) last (fitting.fits there ordered);
                  high_small = omega (arith, fitting.below);
                };
                due_is = rw (ne_eqb (plus t 1) 0 (λ e. omega arith));
                kept_is = refl;
                in_time = soon;
              }
          turn (fails none) =
              λ ((start, near, soon), far, more). let only = fitting.only start near in
              none (only.0, (omega (arith, only.1, only.2), omega (arith, due_is, next_is, only.2, soon (omega (arith, longer)))))

      -- the first event
      first_fitting : length events ≡ 0 → Fitting (t - plus (at offsets registers.first) jitter) (t - at offsets registers.first)
      unfolding point_of
      first_fitting empty =
          record {
            fits = λ there ordered. record {
              from = t - (place_of period offsets (length events) + jitter);
              to = t - place_of period offsets (length events);
              low_is = omega (arith, at_start, offset_is, offset_small, given.small_jitter);
              high_is = omega (arith, at_start, offset_is);
              starts = starts_first period jitter offsets events t empty (omega (arith, at_start, offset_is));
            };
            only = λ start near. let new = near_new period jitter offsets start events t near in (
              omega (arith, new.0, offset_is),
              omega (arith, new.1, at_start, offset_is, offset_small, given.small_jitter),
              omega (arith, new.0, at_start, offset_is),
            );
            below = omega arith;
          }
        where
          at_start : point_of n period (length events) ≡ 0
          at_start = ap (point_of n period) empty

      -- a later one
      module _ (m : ℕ) (e : length events ≡ suc m) where
        in_points : PointsIn events m registers.second registers.third
        in_points = keeps.points m (omega arith)

        point_is : point_of n period (length events) ≡ point_of n period m + step_to period registers.first
        point_is =
            ap (point_of n period) e ∙ point_step n period m
            ∙ ap (λ i. point_of n period m + step_to period i) (sym (keeps.number_is ∙ ap (number_of n) e))

        -- the sums do not saturate, so low and high are those of the start, as much later as the point is
        low_sum : plus registers.second (step_to period registers.first) ≡ in_points.from + point_of n period (length events)
        low_sum = omega (
          arith,
          point_is,
          in_points.low_is,
          in_points.high_is,
          in_points.starts.ordered,
          keeps.high_small,
          given.small_period,
          step_small period registers.first,
        )

        high_sum : plus registers.third (step_to period registers.first) ≡ in_points.to + point_of n period (length events)
        high_sum = omega (arith, point_is, in_points.high_is, keeps.high_small, given.small_period, step_small period registers.first)

        reach_sum : plus (at offsets registers.first) jitter ≡ at offsets (number_of n (length events)) + jitter
        reach_sum = omega (arith, offset_is, offset_small, given.small_jitter)

        later_fitting : Fitting (low_after n period jitter minimum (at offsets) registers t)
            (high_after n period jitter minimum (at offsets) registers t)
        later_fitting =
            rw (low_sum, high_sum, reach_sum)
            (record {
              fits = λ there ordered. let there' = subst (λ (o : ℕ). o ≤ t) offset_is there in
                  let ordered' = subst (λ (o : ℕ). max (a + point) (t - (offset + jitter)) ≤ min (b + point) (t - o)) offset_is ordered in
                  record {
                    from = max a (t - (point + offset + jitter));
                    to = min b (t - (point + offset));
                    low_is = cut_low a b point offset jitter t;
                    high_is = ap (λ o. min (b + point) (t - o)) offset_is
                        ∙ cut_high a b point offset jitter t (cut_there a b point offset jitter t there' ordered');
                    starts = starts_more period jitter offsets events t a b in_points.starts
                        (cut_there a b point offset jitter t there' ordered') (cut_ordered a b point offset jitter t there' ordered');
                  };
              only = λ start near. let new = near_new period jitter offsets start events t near in
                  let old = in_points.starts.no_other start (near_first period jitter offsets start events (t ∷ []) near) in
                  (omega (arith, new.0, offset_is), omega (arith, new.1, old.0), omega (arith, new.0, old.1, offset_is));
              below = omega arith;
            })
          where
            a : ℕ
            a = in_points.from

            b : ℕ
            b = in_points.to

            point : ℕ
            point = point_of n period (length events)

            offset : ℕ
            offset = at offsets (number_of n (length events))

        -- a second group needs a period
        groups_tell : Tells (n < length all → 0 < period) (ltb 0 registers.first || ltb 0 period)
        groups_tell =
            tells_or (ltb 0 registers.first) (ltb 0 period)
            (λ inside many. by_cases (dec_lt n (length events)) keeps.groups
            (λ whole. absurd (omega (
              arith,
              ltb-true 0 registers.first inside,
              keeps.number_is,
              longer,
              number_again n (length events) (omega (arith, longer)) given.some,
            ))))
            (λ begins. tells_same (tells_ltb 0 period) (λ some many. some)
            (λ more. by_cases (dec_lt (length events) n)
            (λ few. absurd (omega (arith, ltb-false 0 registers.first begins, keeps.number_is, number_early n (length events) few)))
            (λ many. more (omega (arith, longer)))))

        later_event : TurnsPattern held events words t (later_pattern n period jitter minimum (at offsets) registers t)
        unfolding later_pattern MeetsPattern
        later_event =
            turn (tells_and (far_enough_lem minimum events t registers.fourth keeps.last_is keeps.apart) groups_tell)
          where
            turn : {test : Bool} → Tells (AtLeastApart minimum all × (n < length all → 0 < period)) test
                → TurnsPattern held events words t (cond test
                (placed_in n period jitter minimum (at offsets) registers t registers.first
                (low_after n period jitter minimum (at offsets) registers t)
                (high_after n period jitter minimum (at offsets) registers t)) breaking)
            turn (holds (apart, groups)) =
                placed_turn (low_after n period jitter minimum (at offsets) registers t)
                (high_after n period jitter minimum (at offsets) registers t) apart groups later_fitting
            turn (fails none) = λ (starts, apart, groups). none (apart, groups)

      pattern_event : TurnsPattern held events words t (decide_pattern n period jitter minimum (at offsets) registers t)
      unfolding decide_pattern
      pattern_event =
          split (eqb registers.fourth 0)
          (λ x. TurnsPattern held events words t (cond x
          (placed_in n period jitter minimum (at offsets) registers t registers.first (t - plus (at offsets registers.first) jitter)
          (t - at offsets registers.first))
          (later_pattern n period jitter minimum (at offsets) registers t)))
          (λ none. let empty : length events ≡ 0 = last_zero events registers.fourth keeps.last_is none in
          placed_turn (t - plus (at offsets registers.first) jitter) (t - at offsets registers.first)
          (apart_more 1 minimum no_limit events t (omega arith) keeps.apart (λ i f. absurd (omega arith)))
          (λ many. absurd (omega (arith, longer, given.some))) (first_fitting empty))
          (λ some. let (m, more, is) = last_some events registers.fourth keeps.last_is some in later_event m more)

    -- ---- what Pattern proves, with its offsets as a list

    -- the event behind the first ones is not before now, or the clock that all close at is early
    pattern_first : (xs ys : List ℕ) (now later : ℕ) → now ≤ later → Each (λ y. now ≤ y) ys
        → MeetsPattern period jitter minimum offsets (xs ++ ys) later → MeetsPattern period jitter minimum offsets xs now
    unfolding MeetsPattern
    pattern_first xs ys now later h after ((start, near, soon), apart, groups) = (
      (start, near_first period jitter offsets start xs ys near, in_time),
      apart_first 1 minimum no_limit xs ys apart,
      λ many. groups (omega (arith, length-append xs ys)),
    )
      where
        in_time : 0 < length xs → now ≤ start + place_of period offsets (length xs) + jitter
        in_time some =
            by_cases (dec_lt (length xs) (length (xs ++ ys)))
            (λ there. let place : length xs + 0 ≡ length xs = omega arith in
            omega (arith, (near (length xs) there).1, ap (at (xs ++ ys)) place, at_right xs ys 0, after 0 (omega (arith, length-append xs ys))))
            (λ none. let end : length (xs ++ ys) ≡ length xs = omega (arith, length-append xs ys) in
            omega (arith, soon (omega (arith, length-append xs ys)), ap (place_of period offsets) end))

    pub pattern_follows : (held : List ℕ) → length held ≤ waiting_limit
        → Follows (MeetsPattern period jitter minimum offsets) held
        (λ registers words t. decide_pattern n period jitter minimum (at offsets) registers t)
    pattern_follows held few =
        record {
          Keeps = KeepsPattern held;
          due = due_pattern;
          says_first = pattern_first;
          keeps_none = pattern_none held;
          due_none = refl;
          keeps_says = λ now rises small keeps. pattern_says held _ _ _ keeps now small;
          keeps_few = λ keeps. omega (arith, few, ap length keeps.words_stay);
          keeps_event = λ t rises small keeps soon. pattern_event held _ _ _ keeps t small;
        }
