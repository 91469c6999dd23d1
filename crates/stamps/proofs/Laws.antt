-- The last true time of a choice can be at each place from the earliest to the stamp, and a choice goes on with any later place of the next stamp; so
-- each two neighbours can take the ends of their ranges, and the tests on these ends tell what each choice and what some choice does.
use Rattle.std.specs.Prelude.{Option, Some, None}
use Rattle.stamps.proofs.Names.{Accepts, Apart, LateRow, Bool, Call, Each, List, Registers, MeetsRepeat, NotLater, Places, PointsOf}
use Rattle.stamps.proofs.Names.{ReadsStamps}
use Rattle.stamps.proofs.Names.{Parameters, SpansApart, Sporadic, StampedVerdict, Stamps, Step, Tells, TrueTimes, [], ◌&&◌, ◌++◌, ◌+◌, ◌-◌}
use Rattle.stamps.proofs.Names.{◌<◌, ◌∙◌}
use Rattle.stamps.proofs.Names.{◌∷◌, ◌≡◌, ◌≤◌, ap, apart_first, arith, at, at_left, at_next, both_occur, by_cases, call_after, close_verdict}
use Rattle.stamps.proofs.Names.{cond, dec_lt, each_meets, eqb, eqb-false, eqb-true, event, fails, false, first_places, first_coloured}
use Rattle.stamps.proofs.Names.{first_stamp, get_or-take, highest, holds, inl, inr, last_time, later_place, later_places, later_stamp, length}
use Rattle.stamps.proofs.Names.{length-append, length-take, registers_of, max, min, next_high, next_low, no_limit, no_registers}
use Rattle.stamps.proofs.Names.{none_meets, plus}
use Rattle.stamps.proofs.Names.{points_first, points_more, refl, parameters_of, split, stamp_after, stamps_verdict, step_for, stream, stride}
use Rattle.stamps.proofs.Names.{subst, sym}
use Rattle.stamps.proofs.Names.{take, tells_and, tells_leb, times, times_close, times_other, times_own, times_tick, true, ℕ, ⊎_elim}

-- the hidden points of Sporadic with that jitter: of any choice, and of one that is lower to upper apart
abbrev any_parameters : ℕ → Parameters
any_parameters late = parameters_of (Sporadic 0 0 no_limit late 0)

abbrev row_parameters : LateRow → Parameters
row_parameters a = parameters_of (Sporadic 0 a.lower a.upper a.late 0)

-- a choice of true times
abbrev Chosen : ℕ → List ℕ → List ℕ → Type 0
Chosen late events points = PointsOf (any_parameters late) events points

true_chosen : (late : ℕ) (events points : List ℕ) → TrueTimes late events points → Chosen late events points
true_chosen late events points c =
    record { one_each = c.one_each; near = c.near; rise = c.rise; apart = λ i h. (omega (arith, c.rise i h), inl refl) }

chosen_true : (late : ℕ) (events points : List ℕ) → Chosen late events points → TrueTimes late events points
chosen_true late events points c = record { one_each = c.one_each; near = c.near; rise = c.rise }

-- the two closest true times of neighbours, and the test on the widest
closest : (early stamp next lower : ℕ) → early < next → early ≤ stamp → max 1 (next - stamp) < lower
    → (early ≤ min stamp (next - 1)) × ((min stamp (next - 1) ≤ stamp) × ((min stamp (next - 1) < next) × (¬ (min stamp (next - 1) + lower ≤ next))))
closest early stamp next lower above in_range narrow = (omega arith, (omega arith, (omega arith, λ h. omega arith)))

not_less : (x y : ℕ) → ¬ (x < y) → y ≤ x
not_less x y h = omega arith

reaches : (x upper t : ℕ) → t ≤ last_time → NotLater upper x t → t ≤ plus x upper
reaches x upper t small later = ⊎_elim (λ f. omega arith) (λ h. omega arith) later

module _ (a : LateRow) where
  abbrev AllApart : List ℕ → Type 0
  AllApart points = SpansApart 1 a.lower a.upper points

  -- a choice that is lower to upper apart
  apart_of : (events points : List ℕ) → PointsOf (row_parameters a) events points → Chosen a.late events points × AllApart points
  unfolding SpansApart
  apart_of events points c = (
    record { one_each = c.one_each; near = c.near; rise = c.rise; apart = λ i h. (omega (arith, c.rise i h), inl refl) },
    λ i h. c.apart i (omega (arith, c.one_each)),
  )

  of_apart : (events points : List ℕ) → Chosen a.late events points → AllApart points → PointsOf (row_parameters a) events points
  unfolding SpansApart
  of_apart events points c apart =
      record { one_each = c.one_each; near = c.near; rise = c.rise; apart = λ i h. apart i (omega (arith, c.one_each)) }

  -- ---- what is known of the stamps

  -- each choice is lower to upper apart, or one is not
  abbrev EachAs : List ℕ → Bool → Type 0
  EachAs events true = (points : List ℕ) → Chosen a.late events points → AllApart points
  EachAs events false = (points : List ℕ) × Chosen a.late events points × (¬ AllApart points)

  -- the last true time of those that are can be from low to high; or none is
  abbrev SomeAs : List ℕ → ℕ → ℕ → ℕ → Bool → Type 0
  SomeAs events n low high true = Places (row_parameters a) events n low high
  SomeAs events n low high false = (points : List ℕ) → ¬ PointsOf (row_parameters a) events points

  pub record Later (events : List ℕ) (s : Stamps) : Type 0 where
    n : ℕ
    last : n + 1 ≡ length events
    small : s.stamp ≤ last_time
    stamp_is : at events n ≡ s.stamp
    choices : Places (any_parameters a.late) events n s.earliest s.stamp
    each : EachAs events s.each
    some : SomeAs events n s.low s.high s.some

  -- none so far, or these
  abbrev pub Keeps : List ℕ → Option Stamps → Type 0
  Keeps events None = length events ≡ 0
  Keeps events (Some s) = Later events s

  -- ---- the first stamp

  first_later : (events : List ℕ) (t : ℕ) → t ≤ last_time → length events ≡ 0 → Later (events ++ (t ∷ [])) (first_stamp a t)
  unfolding SpansApart
  first_later events t small empty =
      record {
        n = length events;
        last = omega (arith, length-append events (t ∷ []));
        small = small;
        stamp_is = at_next events t [] (length events) refl;
        choices = first_places (any_parameters a.late) events t small empty;
        each = λ points c i h. absurd (omega (arith, c.one_each, length-append events (t ∷ []), empty, h));
        some = first_places (row_parameters a) events t small empty;
      }

  -- ---- a later stamp

  abbrev registers_with : ℕ → ℕ → Registers
  registers_with low high = registers_of 0 low high no_registers

  -- with no limit the next can be as late as its stamp
  all_high : (low high t : ℕ) → highest (any_parameters a.late) (registers_with low high) t ≡ t
  all_high low high t =
      split (eqb no_limit no_limit) (λ x. cond x t (min (plus high no_limit) t) ≡ t) (λ e. refl)
      (λ e. absurd (eqb-false no_limit no_limit e refl))

  module _ (small_lower : a.lower ≤ last_time) (events : List ℕ) (s : Stamps) (known : Later events s)
      (t : ℕ) (small : t ≤ last_time) (after : s.stamp < t) where
    abbrev next : ℕ
    next = next_low 0 a.late s.earliest t

    abbrev more : List ℕ
    more = events ++ (t ∷ [])

    early : s.earliest ≤ s.stamp
    early = known.choices.ordered

    -- the next true time can be from here to its stamp
    next_choices : Places (any_parameters a.late) more (length events) next t
    next_choices =
        subst (λ (high : ℕ). Places (any_parameters a.late) more (length events) next high) (all_high s.earliest s.stamp t)
        (later_places (any_parameters a.late) events t small (registers_with s.earliest s.stamp)
        known.n known.last known.choices (omega arith) (omega arith)
        (rw (all_high s.earliest s.stamp t) (omega (arith, early))))

    -- a choice goes on with a later time in the next one's range
    goes_on : (points : List ℕ) → Chosen a.late events points → (q : ℕ) → at points known.n < q → next ≤ q → q ≤ t
        → Chosen a.late more (points ++ (q ∷ []))
    goes_on points c q above from to =
        points_more 0 no_limit a.late events t points q c (omega arith, omega arith)
        (λ m f. let same : m ≡ known.n = omega (arith, known.last) in
        let is : at points m ≡ at points known.n = ap (at points) same in
        (omega (arith, is, above), (omega (arith, is, above), inl refl)))

    before_is : (points : List ℕ) (q : ℕ) → Chosen a.late events points → at (points ++ (q ∷ [])) known.n ≡ at points known.n
    before_is points q c = at_left points (q ∷ []) known.n (omega (arith, c.one_each, known.last))

    last_is : (points : List ℕ) (q : ℕ) → Chosen a.late events points → at (points ++ (q ∷ [])) (known.n + 1) ≡ q
    last_is points q c = at_next points q [] (known.n + 1) (omega (arith, c.one_each, known.last))

    -- ---- each choice

    -- two true times of the last two stamps
    abbrev PairsApart : Type 0
    PairsApart = (a.lower ≤ max 1 (next - s.stamp)) × (t ≤ plus s.earliest a.upper)

    pair_apart : PairsApart → (p q : ℕ) → s.earliest ≤ p → p ≤ s.stamp → next ≤ q → q ≤ t → p < q → Apart a.lower a.upper p q
    pair_apart (narrow, wide) p q low high from to above = (omega arith, inr (omega arith))

    first_of : (points : List ℕ) → Chosen a.late more points → Chosen a.late events (take (length events) points)
    first_of points c = points_first 1 0 no_limit a.late events (t ∷ []) points c

    each_more : EachAs events true → PairsApart → EachAs more true
    unfolding SpansApart
    each_more all fits points c i h =
        by_cases (dec_lt (i + 1) (length events))
        (λ old. rw (get_or-take (length events) points i 0 (omega arith), get_or-take (length events) points (i + 1) 0 old) at
        (all (take (length events) points) (first_of points c) i
        (omega (arith, length-take (length events) points, c.one_each, length-append events (t ∷ [])))))
        (λ end.
        let same : i ≡ known.n = omega (arith, known.last, c.one_each, length-append events (t ∷ [])) in
        let before = rw (get_or-take (length events) points known.n 0 (omega (arith, known.last))) at
        (known.choices.no_other (take (length events) points) (first_of points c)) in
        let now = next_choices.no_other points c in
        subst (λ (j : ℕ). Apart a.lower a.upper (at points j) (at points (j + 1))) (sym same)
        (subst (λ (j : ℕ). Apart a.lower a.upper (at points known.n) (at points j)) (sym known.last)
        (pair_apart fits (at points known.n) (at points (length events)) before.0 before.1 now.0 now.1
        (subst (λ (j : ℕ). at points known.n < at points j) known.last
        (c.rise known.n (omega (arith, known.last, length-append events (t ∷ []))))))))

    -- a choice that was not lower to upper apart goes on with the stamp
    each_still : EachAs events false → EachAs more false
    each_still (points, c, not) = (
      points ++ (t ∷ []),
      goes_on points c t (omega (arith, (known.choices.no_other points c).1, after)) (omega (arith, early)) (omega arith),
      λ apart. not (apart_first 1 a.lower a.upper points (t ∷ []) apart),
    )

    -- two true times that are not
    each_by_lem : (p q : ℕ) → s.earliest ≤ p → p ≤ s.stamp → next ≤ q → q ≤ t → p < q → ¬ Apart a.lower a.upper p q → EachAs more false
    unfolding SpansApart
    each_by_lem p q low high from to above not =
        let (points, c, is) = known.choices.each p low high in (
          points ++ (q ∷ []),
          goes_on points c q (omega (arith, is, above)) from to,
          λ apart. not
              (subst (λ (x : ℕ). Apart a.lower a.upper x q) (before_is points q c ∙ is)
              (subst (λ (x : ℕ). Apart a.lower a.upper (at (points ++ (q ∷ [])) known.n) x) (last_is points q c)
              (apart known.n (omega (arith, length-append points (q ∷ []), c.one_each, known.last))))),
        )

    next_above : s.earliest < next
    next_above = omega (arith, early, after)

    next_below : next ≤ t
    next_below = omega (arith, early, after)

    each_fails : ¬ PairsApart → EachAs more false
    each_fails not =
        by_cases (dec_lt (max 1 (next - s.stamp)) a.lower)
        (λ narrow.
        let pair = closest s.earliest s.stamp next a.lower next_above early narrow in
        each_by_lem (min s.stamp (next - 1)) next pair.0 pair.1.0 (omega arith) next_below pair.1.1.0 (λ apart. pair.1.1.1 apart.0))
        (λ enough. each_by_lem s.earliest t (omega arith) early next_below (omega arith) (omega (arith, early, after))
        (λ apart. not (not_less (max 1 (next - s.stamp)) a.lower enough, reaches s.earliest a.upper t small apart.1)))

    each_after : (b : Bool) → EachAs events b → {test : Bool} → Tells PairsApart test → EachAs more (b && test)
    each_after true all (holds fits) = each_more all fits
    each_after true all (fails not) = each_fails not
    each_after false one tells = each_still one

    -- ---- some choice

    abbrev Possible : ℕ → ℕ → Type 0
    Possible low high = (stride a.lower ≤ a.upper) × (next_low a.lower a.late low t ≤ next_high a.upper high t)

    some_after : (low high : ℕ) (b : Bool) → SomeAs events known.n low high b → {test : Bool} → Tells (Possible low high) test
        → SomeAs more (length events) (next_low a.lower a.late low t) (next_high a.upper high t) (b && test)
    some_after low high true places (holds fits) =
        later_places (row_parameters a) events t small (registers_with low high) known.n known.last places small_lower fits.0 fits.1
    some_after low high true places (fails not) = λ points c.
        let place = later_place (row_parameters a) events t small (registers_with low high) known.n known.last places small_lower points c in
        not (place.0, omega (arith, place.1.0, place.1.1))
    some_after low high false none tells = λ points c.
        none (take (length events) points) (points_first 1 a.lower a.upper a.late events (t ∷ []) points c)

    later_later : Later more (later_stamp a s t)
    unfolding later_stamp
    later_later =
        record {
          n = length events;
          last = omega (arith, length-append events (t ∷ []));
          small = small;
          stamp_is = at_next events t [] (length events) refl;
          choices = next_choices;
          each = each_after s.each known.each
              (tells_and (tells_leb a.lower (max 1 (next - s.stamp))) (tells_leb t (plus s.earliest a.upper)));
          some = some_after s.low s.high s.some known.some
              (tells_and (tells_leb (stride a.lower) a.upper)
              (tells_leb (next_low a.lower a.late s.low t) (next_high a.upper s.high t)));
        }

  -- ---- one stamp more, and a call more

  keeps_stamp : a.lower ≤ last_time → (events : List ℕ) (s : Option Stamps) → Keeps events s → (t : ℕ) → t ≤ last_time
      → Each (λ x. x < t) events → Keeps (events ++ (t ∷ [])) (Some (stamp_after a s t))
  keeps_stamp small_lower events (Some s) known t small above =
      later_later small_lower events s known t small
      (subst (λ (x : ℕ). x < t) known.stamp_is (above known.n (omega (arith, known.last))))
  keeps_stamp small_lower events None empty t small above = first_later events t small empty

  -- §12.3
  pub keeps_call : a.event < first_coloured → a.lower ≤ last_time → (steps : List Step) (s : Option Stamps) → Keeps (times a.event steps) s
      → (call : Call) → Accepts steps (step_for call)
      → Keeps (times a.event (steps ++ (step_for call ∷ []))) (call_after a s call)
  keeps_call plain small_lower steps s keeps (Call.Event k t) accepts =
      split (eqb k a.event) (λ x. Keeps (times a.event (steps ++ (event k t ∷ []))) (cond x (Some (stamp_after a s t)) s))
      (λ e. let same : k ≡ a.event = eqb-true k a.event e in
      subst (λ (j : ℕ). Keeps (times a.event (steps ++ (event j t ∷ []))) (Some (stamp_after a s t))) (sym same)
      (subst (λ (l : List ℕ). Keeps l (Some (stamp_after a s t))) (sym (times_own a.event t steps))
      (keeps_stamp small_lower (times a.event steps) s keeps t accepts.time_small
      (subst (λ (j : ℕ). Each (λ x. x < t) (times j steps)) same accepts.in_order.1))))
      (λ e. subst (λ (l : List ℕ). Keeps l s) (sym (times_other a.event k t steps (eqb-false k a.event e))) keeps)
  keeps_call plain small_lower steps s keeps (Call.ColouredEvent k c t) accepts =
      subst (λ (l : List ℕ). Keeps l s) (sym (times_other a.event (stream k c) t steps (λ same. omega (arith, same, plain)))) keeps
  keeps_call plain small_lower steps s keeps (Call.Tick t) accepts = subst (λ (l : List ℕ). Keeps l s) (sym (times_tick a.event t steps)) keeps
  keeps_call plain small_lower steps s keeps Call.Close accepts = subst (λ (l : List ℕ). Keeps l s) (sym (times_close a.event steps)) keeps

  -- ---- at the close

  module _ (events : List ℕ) (now : ℕ) (small_now : now ≤ last_time) where
    abbrev MeetsNow : List ℕ → Type 0
    MeetsNow points = MeetsRepeat 1 a.lower a.upper points now

    no_stamps_lem : length events ≡ 0 → ReadsStamps a.late a.lower a.upper events now StampedVerdict.Kept
    unfolding MeetsRepeat SpansApart
    no_stamps_lem empty =
        each_meets (λ points c. (λ i h. absurd (omega (arith, c.one_each, empty, h)), λ i h. absurd (omega (arith, c.one_each, empty, h))))

    module _ (s : Stamps) (known : Later events s) where
      end : (points : List ℕ) → Chosen a.late events points → (i : ℕ) → i < length points → length points ≤ i + 1
          → at points i ≡ at points known.n
      end points c i h j = let same : i ≡ known.n = omega (arith, c.one_each, known.last) in ap (at points) same

      silent : (points : List ℕ) → Chosen a.late events points → MeetsNow points → now ≤ plus (at points known.n) a.upper
      unfolding MeetsRepeat
      silent points c meets =
          ⊎_elim (λ f. omega arith) (λ h. omega arith)
          (meets.1 known.n (omega (arith, c.one_each, known.last)) (omega (arith, c.one_each, known.last)))

      -- each choice, and one that does not meet the row
      EachMeets : Bool → Type 0
      EachMeets true = (points : List ℕ) → TrueTimes a.late events points → MeetsNow points
      EachMeets false = (points : List ℕ) × TrueTimes a.late events points × (¬ MeetsNow points)

      each_now : (b : Bool) → EachAs events b → {test : Bool} → Tells (now ≤ plus s.earliest a.upper) test → EachMeets (b && test)
      unfolding MeetsRepeat EachMeets
      each_now true all (holds soon) = λ points c.
          let chosen = true_chosen a.late events points c in
          (all points chosen, λ i h j. inr (omega (arith, end points chosen i h j, (known.choices.no_other points chosen).0, soon)))
      each_now true all (fails not) =
          let (points, c, is) = known.choices.each s.earliest (omega arith) known.choices.ordered in
          (points, chosen_true a.late events points c, λ meets. not (omega (arith, silent points c meets, is)))
      each_now false (points, c, not) tells = (points, chosen_true a.late events points c, λ meets. not meets.0)

      SomeMeets : Bool → Type 0
      SomeMeets true = (points : List ℕ) × TrueTimes a.late events points × MeetsNow points
      SomeMeets false = (points : List ℕ) → TrueTimes a.late events points → ¬ MeetsNow points

      some_now : (b : Bool) → SomeAs events known.n s.low s.high b → {test : Bool} → Tells (now ≤ plus s.high a.upper) test
          → SomeMeets (b && test)
      unfolding MeetsRepeat SomeMeets
      some_now true places (holds soon) =
          let (points, c, is) = places.each s.high places.ordered (omega arith) in
          let (chosen, apart) = apart_of events points c in
          (points, chosen_true a.late events points chosen, (apart, λ i h j. inr (omega (arith, end points chosen i h j, is, soon))))
      some_now true places (fails not) = λ points c meets.
          let chosen = true_chosen a.late events points c in
          not (omega (arith, silent points chosen meets, (places.no_other points (of_apart events points chosen meets.0)).1))
      some_now false none tells = λ points c meets. none points (of_apart events points (true_chosen a.late events points c) meets.0)

      reads_by : (x y : Bool) → EachMeets x → SomeMeets y
          → ReadsStamps a.late a.lower a.upper events now (cond x StampedVerdict.Kept (cond y StampedVerdict.Unsure StampedVerdict.Broken))
      unfolding EachMeets SomeMeets
      reads_by true y all some = each_meets all
      reads_by false true (other, oc, not) (one, c, meets) = both_occur one other c meets oc not
      reads_by false false fail none = none_meets none

    -- §12.3
    pub reads_now : (s : Option Stamps) → Keeps events s → ReadsStamps a.late a.lower a.upper events now (stamps_verdict a s now)
    unfolding close_verdict
    reads_now (Some s) known =
        reads_by s known _ _ (each_now s known s.each known.each (tells_leb now (plus s.earliest a.upper)))
        (some_now s known s.some known.some (tells_leb now (plus s.high a.upper)))
    reads_now None empty = no_stamps_lem empty
