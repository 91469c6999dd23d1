-- Repetition with a span: the places of each chain taken singly tell whether there are points, once the highs of the first span are drawn in.
-- Every list of points of more than span events lies in these places; and where each event has one, the greatest points of the chains rise.
use Rattle.constraint.proofs.Library.{List, [], ◌++◌, ◌+◌, ◌-◌, ◌<◌, ◌∙◌, ◌∷◌, ◌≡◌, ◌≤◌, add-zero, ap, arith, by_cases, dec_lt, inr, length}
use Rattle.constraint.proofs.Library.{length-append, max, min, refl, subst, suc, zero, ℕ, ⊎_elim}
use Rattle.constraint.proofs.Lists.{Rising, at_left, at_next, rising_by}
use Rattle.constraint.specs.{Limits.last_time, Meets.Apart, Meets.Between, Meets.HiddenPoints, Steps.at}
use Rattle.repetition.proofs.Laws.Within.{Intervals, points_within}

-- a list begins with these events
abbrev Begins : List ℕ → List ℕ → Type 0
Begins events all = (length events ≤ length all) × ((i : ℕ) → i < length events → at all i ≡ at events i)

begins_first : (events : List ℕ) (t : ℕ) (all : List ℕ) → Begins (events ++ (t ∷ [])) all → Begins events all
begins_first events t all begins = (
  omega (arith, begins.0, length-append events (t ∷ [])),
  λ i h. begins.1 i (omega (arith, length-append events (t ∷ []))) ∙ at_left events (t ∷ []) i h,
)

-- an event that is n places later is at least n later
later_by : (events : List ℕ) → Rising events → (i j : ℕ) → i < j → j < length events → at events i + (j - i) ≤ at events j
later_by events rising i j h b =
    let same : at events (i + (j - i)) ≡ at events j = ap (at events) (omega arith) in
    omega (arith, same, rising_by events rising i (j - i) (omega arith))

module _ (span lower upper jitter : ℕ) where
  -- the places of the points of all events: from its low to its high, for each
  pub record Keeps (events lows highs : List ℕ) : Type 0 where
    pub lows_each : length lows ≡ length events
    pub highs_each : length highs ≡ length events
    pub first_lows : (i : ℕ) → i < span → i < length events → at lows i ≡ at events i - jitter
    pub first_highs : (i : ℕ) → i < span → i < length events → at highs i ≡ min (at events i) (at events 0 + (upper - span) + i)
    pub near : (i : ℕ) → i < length events → (at highs i ≤ at events i) × (at events i ≤ at lows i + jitter)
    pub some : span < length events → (i : ℕ) → i < length events → at lows i ≤ at highs i
    pub rise : (i j : ℕ) → i + 1 ≡ j → j < length events → at highs i < at highs j
    pub lows_apart : (i j : ℕ) → i + span ≡ j → j < length events → at lows i + lower ≤ at lows j
    pub highs_apart : (i j : ℕ) → i + span ≡ j → j < length events → at highs j ≤ at highs i + upper
    pub every : (all points : List ℕ) → HiddenPoints span lower upper jitter all points → Begins events all → span < length all
        → (i : ℕ) → i < length events → (at lows i ≤ at points i) × (at points i ≤ at highs i)

  -- ---- Start

  pub keeps_none : Keeps [] [] []
  keeps_none =
      record {
        lows_each = refl;
        highs_each = refl;
        first_lows = λ i f b. absurd (omega arith);
        first_highs = λ i f b. absurd (omega arith);
        near = λ i b. absurd (omega arith);
        some = λ f i b. absurd (omega arith);
        rise = λ i j e b. absurd (omega arith);
        lows_apart = λ i j e b. absurd (omega arith);
        highs_apart = λ i j e b. absurd (omega arith);
        every = λ all points hidden begins f i b. absurd (omega arith);
      }

  -- ---- Points

  module _ (given : upper ≤ last_time) (events points : List ℕ) (hidden : HiddenPoints span lower upper jitter events points) where
    points_rise : (i d : ℕ) → i + d < length events → at points i + d ≤ at points (i + d)
    points_rise i zero h = rw (add-zero (at points i), add-zero i) (omega arith)
    points_rise i (suc d) h =
        let e : at points i + d ≤ at points (i + d) = points_rise i d (omega arith) in
        let f : at points (i + d) < at points (i + d + 1) = hidden.rise (i + d) (omega arith) in
        let same : i + d + 1 ≡ i + suc d = omega arith in
        let g : at points (i + d + 1) ≡ at points (i + suc d) = ap (at points) same in
        omega arith

    points_by : (i j : ℕ) → i ≤ j → j < length events → at points i + (j - i) ≤ at points j
    points_by i j h b =
        let same : at points (i + (j - i)) ≡ at points j = ap (at points) (omega arith) in
        omega (arith, same, points_rise i (j - i) (omega arith))

    points_apart : (i j : ℕ) → i + span ≡ j → j < length events → Between lower upper (at points i) (at points j)
    points_apart i j e b = limited (subst (λ (n : ℕ). Apart lower upper (at points i) (at points n)) e (hidden.apart i (omega arith)))
      where
        limited : Apart lower upper (at points i) (at points j) → Between lower upper (at points i) (at points j)
        limited a = (a.0, ⊎_elim (λ mark. absurd (omega (arith, mark))) (λ h. h) a.1)

    -- more than span points reach over the span
    span_fits : span < length events → span ≤ upper
    span_fits full = omega (arith, points_by 0 span (omega arith) full, points_apart 0 span (omega arith) full)

  -- ---- Events

  module _ (positive : 1 ≤ span) (given : upper ≤ last_time) (events lows highs : List ℕ) (keeps : Keeps events lows highs) (t : ℕ)
      (rising : Rising (events ++ (t ∷ []))) where
    -- the places of the point of an event at t: of one of the first span events, or of a later one
    pub data Next (low high : ℕ) : Type 0 where
      first : length events < span → low ≡ t - jitter → high ≡ min t (at (events ++ (t ∷ [])) 0 + (upper - span) + length events) → Next low high
      later : (m : ℕ) → m + span ≡ length events → low ≡ max (t - jitter) (at lows m + lower)
          → high ≡ min t (at highs m + (upper - span) + span) → Next low high

    -- a point of an event at t has one of these places, if there are more than span events
    next_every : (low high : ℕ) → Next low high → (all points : List ℕ) → HiddenPoints span lower upper jitter all points
        → Begins (events ++ (t ∷ [])) all → span < length all → (low ≤ at points (length events)) × (at points (length events) ≤ high)
    next_every low high next all points hidden begins full = go next
      where
        here : length events < length (events ++ (t ∷ []))
        here = omega (arith, length-append events (t ∷ []))

        at_t : at all (length events) ≡ t
        at_t = begins.1 (length events) here ∙ at_next events t [] (length events) refl

        inside : length events < length all
        inside = omega (arith, here, begins.0)

        go : Next low high → (low ≤ at points (length events)) × (at points (length events) ≤ high)
        go (first few is-low is-high) =
            let up = points_by given all points hidden (length events) span (omega arith) full in
            let over = points_by given all points hidden 0 span (omega arith) full in
            let wide = points_apart given all points hidden 0 span (omega arith) full in
            let start = begins.1 0 (omega (arith, here)) in (
              omega (arith, is-low, hidden.near (length events) inside, at_t),
              omega (arith, is-high, hidden.near (length events) inside, at_t, up, over, wide, start, hidden.near 0 (omega arith)),
            )
        go (later m e is-low is-high) =
            let old = keeps.every all points hidden (begins_first events t all begins) full m (omega arith) in
            let wide = points_apart given all points hidden m (length events) e inside in (
              omega (arith, is-low, hidden.near (length events) inside, at_t, old, wide),
              omega (arith, is-high, hidden.near (length events) inside, at_t, old, wide),
            )

    -- a point from low to high goes with those before it; each of the first span does
    abbrev pub Fitting : ℕ → ℕ → Type 0
    Fitting low high = span ≤ length events → (span ≤ upper) × (low ≤ high)

    module _ (low high : ℕ) (next : Next low high) where
      length_now : length (events ++ (t ∷ [])) ≡ length events + 1
      length_now = length-append events (t ∷ [])

      old_event : (i : ℕ) → i < length events → at (events ++ (t ∷ [])) i ≡ at events i
      old_event i h = at_left events (t ∷ []) i h

      new_event : (i : ℕ) → i ≡ length events → at (events ++ (t ∷ [])) i ≡ t
      new_event i e = at_next events t [] i e

      old_low : (i : ℕ) → i < length events → at (lows ++ (low ∷ [])) i ≡ at lows i
      old_low i h = at_left lows (low ∷ []) i (omega (arith, keeps.lows_each))

      new_low : (i : ℕ) → i ≡ length events → at (lows ++ (low ∷ [])) i ≡ low
      new_low i e = at_next lows low [] i (omega (arith, keeps.lows_each))

      old_high : (i : ℕ) → i < length events → at (highs ++ (high ∷ [])) i ≡ at highs i
      old_high i h = at_left highs (high ∷ []) i (omega (arith, keeps.highs_each))

      new_high : (i : ℕ) → i ≡ length events → at (highs ++ (high ∷ [])) i ≡ high
      new_high i e = at_next highs high [] i (omega (arith, keeps.highs_each))

      before : (i : ℕ) → i < length events → at events i + (length events - i) ≤ t
      before i h =
          omega (
            arith,
            later_by (events ++ (t ∷ [])) rising i (length events) h (omega (arith, length_now)),
            old_event i h,
            new_event (length events) refl,
          )

      -- §5.10: an event without a place for its point breaks the row
      pub next_breaks : ¬ Fitting low high → ¬ ((points : List ℕ) × HiddenPoints span lower upper jitter (events ++ (t ∷ [])) points)
      next_breaks none (points, hidden) =
          none (λ many. let full : span < length (events ++ (t ∷ [])) = omega (arith, length_now) in
          let place = next_every low high next (events ++ (t ∷ [])) points hidden (omega arith, λ i h. refl) full in
          (span_fits given (events ++ (t ∷ [])) points hidden full, omega (arith, place)))

      module _ (fits : Fitting low high) where
        next_near : (high ≤ t) × (t ≤ low + jitter)
        next_near = go next
          where
            go : Next low high → (high ≤ t) × (t ≤ low + jitter)
            go (first few is-low is-high) = (omega (arith, is-high), omega (arith, is-low))
            go (later m e is-low is-high) = (omega (arith, is-high), omega (arith, is-low))

        -- the high of a later event is that of its chain
        chain_high : (m : ℕ) → m + span ≡ length events → high ≡ min t (at highs m + (upper - span) + span) → high ≡ min t (at highs m + upper)
        chain_high m e is-high = is-high ∙ ap (λ x. min t x) (omega (arith, fits (omega arith)))

        -- the highs still rise
        next_rise : (i : ℕ) → i + 1 ≡ length events → at highs i < high
        next_rise i e = go next
          where
            chain : (m : ℕ) → m + span ≡ length events → high ≡ min t (at highs m + upper) → at highs i < high
            chain m f is-high =
                by_cases (dec_lt 0 m)
                (λ more. omega (
                  arith,
                  is-high,
                  before i (omega arith),
                  keeps.near i (omega arith),
                  keeps.highs_apart (m - 1) i (omega arith) (omega arith),
                  keeps.rise (m - 1) m (omega arith) (omega arith),
                ))
                (λ none. let same : at highs m ≡ at highs 0 = ap (at highs) (omega arith) in
                omega (
                  arith,
                  is-high,
                  before i (omega arith),
                  same,
                  keeps.near i (omega arith),
                  keeps.first_highs i (omega arith) (omega arith),
                  keeps.first_highs 0 (omega arith) (omega arith),
                  fits (omega arith),
                ))

            go : Next low high → at highs i < high
            go (first few is-low is-high) =
                omega (arith, is-high, before i (omega arith), keeps.first_highs i (omega arith) (omega arith), old_event 0 (omega arith))
            go (later m f is-low is-high) = chain m f (chain_high m f is-high)

        -- each of the first span events has a place once the next one has
        first_some : span ≡ length events → (i : ℕ) → i < length events → at lows i ≤ at highs i
        first_some many i h =
            omega (arith, before i h, reach next, fits (omega arith), keeps.first_lows i (omega arith) h, keeps.first_highs i (omega arith) h)
          where
            -- the event at t is not too late for the first point
            reach : Next low high → t ≤ at events 0 + upper + jitter
            reach (first few is-low is-high) = absurd (omega arith)
            reach (later m f is-low is-high) =
                let same : at highs m ≡ at highs 0 = ap (at highs) (omega arith) in
                let from : t ≤ low + jitter = omega (arith, is-low) in
                let to : high ≤ at highs m + upper = omega (arith, chain_high m f is-high) in
                omega (arith, from, to, same, keeps.near 0 (omega arith), fits (omega arith))

        old_some : span ≤ length events → (i : ℕ) → i < length events → at lows i ≤ at highs i
        old_some many i h = by_cases (dec_lt span (length events)) (λ f. keeps.some f i h) (λ f. first_some (omega arith) i h)

        -- what the four kinds of places say of the new one
        low_first : Next low high → length events < span → low ≡ t - jitter
        low_first (first few is-low is-high) h = is-low
        low_first (later m e is-low is-high) h = absurd (omega arith)

        high_first : Next low high → length events < span → high ≡ min t (at (events ++ (t ∷ [])) 0 + (upper - span) + length events)
        high_first (first few is-low is-high) h = is-high
        high_first (later m e is-low is-high) h = absurd (omega arith)

        low_apart : Next low high → (i : ℕ) → i + span ≡ length events → at lows i + lower ≤ low
        low_apart (first few is-low is-high) i e = absurd (omega arith)
        low_apart (later m f is-low is-high) i e = let same : at lows i ≡ at lows m = ap (at lows) (omega arith) in omega (arith, is-low, same)

        high_apart : Next low high → (i : ℕ) → i + span ≡ length events → high ≤ at highs i + upper
        high_apart (first few is-low is-high) i e = absurd (omega arith)
        high_apart (later m f is-low is-high) i e =
            let same : at highs i ≡ at highs m = ap (at highs) (omega arith) in
            omega (arith, chain_high m f is-high, same)

        -- by cases: an earlier place, or the new one
        each_place : {P : Type 0} (i : ℕ) → i < length (events ++ (t ∷ [])) → (i < length events → P) → (i ≡ length events → P) → P
        each_place i b old new = by_cases (dec_lt i (length events)) old (λ h. new (omega (arith, length_now)))

        pub keeps_more : Keeps (events ++ (t ∷ [])) (lows ++ (low ∷ [])) (highs ++ (high ∷ []))
        keeps_more =
            record {
              lows_each = omega (arith, length-append lows (low ∷ []), length_now, keeps.lows_each);
              highs_each = omega (arith, length-append highs (high ∷ []), length_now, keeps.highs_each);
              first_lows = λ i f b. each_place i b
                  (λ h. omega (arith, old_low i h, old_event i h, keeps.first_lows i f h))
                  (λ e. omega (arith, new_low i e, new_event i e, low_first next (omega arith)));
              first_highs = λ i f b. each_place i b
                  (λ h. omega (arith, old_high i h, old_event i h, old_event 0 (omega arith), keeps.first_highs i f h))
                  (λ e. omega (arith, new_high i e, new_event i e, high_first next (omega arith)));
              near = λ i b. each_place i b
                  (λ h. let old = keeps.near i h in
                  (omega (arith, old_high i h, old_event i h, old), omega (arith, old_low i h, old_event i h, old)))
                  (λ e. (omega (arith, new_high i e, new_event i e, next_near), omega (arith, new_low i e, new_event i e, next_near)));
              some = λ f i b. each_place i b
                  (λ h. omega (arith, old_low i h, old_high i h, old_some (omega (arith, length_now)) i h))
                  (λ e. omega (arith, new_low i e, new_high i e, fits (omega (arith, length_now))));
              rise = λ i j e b. each_place j b
                  (λ h. omega (arith, old_high i (omega arith), old_high j h, keeps.rise i j e h))
                  (λ f. omega (arith, old_high i (omega arith), new_high j f, next_rise i (omega arith)));
              lows_apart = λ i j e b. each_place j b
                  (λ h. omega (arith, old_low i (omega arith), old_low j h, keeps.lows_apart i j e h))
                  (λ f. omega (arith, old_low i (omega arith), new_low j f, low_apart next i (omega arith)));
              highs_apart = λ i j e b. each_place j b
                  (λ h. omega (arith, old_high i (omega arith), old_high j h, keeps.highs_apart i j e h))
                  (λ f. omega (arith, old_high i (omega arith), new_high j f, high_apart next i (omega arith)));
              every = λ all points hidden begins full i b. each_place i b
                  (λ h. let old = keeps.every all points hidden (begins_first events t all begins) full i h in
                  (omega (arith, old_low i h, old), omega (arith, old_high i h, old)))
                  (λ e. let same : at points i ≡ at points (length events) = ap (at points) e in
                  let place = next_every low high next all points hidden begins full in
                  (omega (arith, new_low i e, same, place), omega (arith, new_high i e, same, place)));
            }

  -- ---- Open

  module _ (positive : 1 ≤ span) (possible : lower ≤ upper) (events lows highs : List ℕ) (keeps : Keeps events lows highs) where
    -- more than span events have the greatest points of the chains
    many_points : span < length events → (points : List ℕ) × HiddenPoints span lower upper jitter events points
    many_points full =
        let intervals : Intervals span lower upper lows highs =
        record {
          as_many = omega (arith, keeps.lows_each, keeps.highs_each);
          some = λ i b. keeps.some full i (omega (arith, keeps.highs_each));
          rise = λ i j e b. keeps.rise i j e (omega (arith, keeps.highs_each));
          lows_apart = λ i j e b. keeps.lows_apart i j e (omega (arith, keeps.highs_each));
          highs_apart = λ i j e b. keeps.highs_apart i j e (omega (arith, keeps.highs_each));
        }
        in
        let (points, within) = points_within span lower upper positive possible lows highs intervals in (
          points,
          record {
            one_each = omega (arith, within.one_each, keeps.highs_each);
            near = λ i b. let low = within.from_low i (omega (arith, keeps.highs_each)) in
                let high = within.to_high i (omega (arith, keeps.highs_each)) in
                (omega (arith, high, keeps.near i b), omega (arith, low, keeps.near i b));
            rise = λ i b. within.rise i (i + 1) refl (omega (arith, keeps.highs_each));
            apart = λ i b. let far = within.apart i (i + span) refl (omega (arith, keeps.highs_each)) in (far.0, inr far.1);
          },
        )

    -- at most span events are points themselves
    few_points : Rising events → length events ≤ span → HiddenPoints span lower upper jitter events events
    few_points rising few =
        record {
          one_each = refl;
          near = λ i b. (omega arith, omega arith);
          rise = λ i b. omega (arith, later_by events rising i (i + 1) (omega arith) b);
          apart = λ i b. absurd (omega arith);
        }

    -- §5.10
    pub keeps_says : Rising events → (points : List ℕ) × HiddenPoints span lower upper jitter events points
    keeps_says rising = by_cases (dec_lt span (length events)) many_points (λ few. (events, few_points rising (omega arith)))
