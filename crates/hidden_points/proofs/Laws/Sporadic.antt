-- Sporadic: the places where the last hidden point can be are the numbers from low to high, since each place of the next point has a place of
-- the last one before it, so the machine's test tells whether an event has a point; and the latest place allows the latest clock.
use Rattle.constraint.proofs.Library.{Bool, List, [], ◌&&◌, ◌++◌, ◌+◌, ◌-◌, ◌<◌, ◌↔◌, ◌∙◌, ◌∷◌, ◌≡◌, ◌≤◌, ◌⊎◌, ap, arith, by_cases, cond, dec_lt, eqb}
use Rattle.constraint.proofs.Library.{eqb-false, eqb-true, get_or-take, inl, inr, leb, length, length-append, length-take, min, ne_eqb, refl, subst}
use Rattle.constraint.proofs.Library.{sym, take, ℕ, ⊎_elim}
use Rattle.constraint.proofs.Lists.{Each, at_next, at_right, split}
use Rattle.constraint.proofs.{Continuations.continues_clock, Continuations.continues_late, Continuations.not_later_earlier, History.times_append}
use Rattle.constraint.specs.Meets.{AtLeastApart, Between, HiddenPoints, LastNotLater, Meets, MeetsSporadic, SpansApart}
use Rattle.constraint.specs.{Accepted.InRange, Continuation.Open, Limits.last_time, Limits.no_limit, Steps.Step, Steps.at, Steps.clock, Steps.times}
use Rattle.constraint.specs.{Waiting.waiting, Constraint.Sporadic}
use Rattle.row_type.proofs.FitsRow.{FitsRow, Steady, fits_steady, keeping_first_three, steady_breaking, steady_by, steady_drop}
use Rattle.row_type.proofs.Spans.{LastIs, apart_first, apart_more, far_enough_lem, last_new, last_none, last_some, last_zero}
use Rattle.row_type.proofs.Tests.{Tells, fails, holds, tells_and, tells_leb}
use Rattle.row_type.proofs.{Exact.Exact, Exact.Sound, OneKind.ByTurn, OneKind.exact_one_kind}
use Rattle.row_type.specs.Parts.{breaking, far_enough, registers_of, no_registers, plus}
use Rattle.row_type.specs.{Parameters.parameters_of, Words.first_three_saved, declared.Change.Change, declared.Registers.Registers}
use Rattle.row_type.specs.{declared.Parameters.Parameters}
use Rattle.hidden_points.proofs.Laws.Points.{NextPoint, points_first, points_more, points_near, points_next, points_none}
use Rattle.hidden_points.specs.Sporadic.{decide_sporadic, due_point, high_of, highest, later_sporadic, low_of, lowest, machine_sporadic, point_at}
use Rattle.hidden_points.specs.Sporadic.{stride}

abbrev pub PointsOf : Parameters → List ℕ → List ℕ → Type 0
PointsOf parameters events points = HiddenPoints 1 parameters.lower parameters.upper parameters.jitter events points

-- the point of the n-th event from 0, which is the last, can be at each place from low to high and at no other
pub record Places (parameters : Parameters) (events : List ℕ) (n low high : ℕ) : Type 0 where
  pub ordered : low ≤ high
  pub each : (p : ℕ) → low ≤ p → p ≤ high → (points : List ℕ) × PointsOf parameters events points × (at points n ≡ p)
  pub no_other : (points : List ℕ) → PointsOf parameters events points → (low ≤ at points n) × (at points n ≤ high)

-- what the row keeps of its events: no times, the last, and the places of its point
record KeepsSporadic (parameters : Parameters) (events : List ℕ) (registers : Registers) (kept : List ℕ) : Type 0 where
  no_times : kept ≡ []
  apart : AtLeastApart parameters.minimum events
  last_is : LastIs events registers.last
  places : (n : ℕ) → n + 1 ≡ length events → Places parameters events n (low_of registers) (high_of registers)

-- nothing is due before the first event; then the last point's latest place gives the due time
abbrev due_sporadic : Parameters → Registers → List ℕ → ℕ
due_sporadic parameters registers kept = cond (eqb registers.last 0) no_limit (due_point parameters (high_of registers))

-- what an event at t makes of the row
abbrev TurnsSporadic : Parameters → List ℕ → List ℕ → ℕ → Change → Type 0
TurnsSporadic parameters events kept t change =
    ByTurn (MeetsSporadic parameters.lower parameters.upper parameters.jitter parameters.minimum) (KeepsSporadic parameters)
    (due_sporadic parameters) events kept t change

-- ---- Start

sporadic_none : (parameters : Parameters) → KeepsSporadic parameters [] no_registers []
unfolding SpansApart
sporadic_none parameters =
    record { no_times = refl; apart = λ i h. absurd (omega arith); last_is = last_none; places = λ n e. absurd (omega arith) }

-- ---- Events

-- q can be the point of an event at t, behind the point p
abbrev pub NextAt : Parameters → ℕ → ℕ → ℕ → Type 0
NextAt parameters t p q = NextPoint parameters.lower parameters.upper p q × Between 0 parameters.jitter q t

-- q is one of the places from the lowest to the highest
abbrev pub IsPlace : Parameters → Registers → ℕ → ℕ → Type 0
IsPlace parameters registers t q = (lowest parameters registers t ≤ q) × (q ≤ highest parameters registers t)

module _ (parameters : Parameters) (registers : Registers) (t : ℕ) (small : t ≤ last_time) where
  below_highest : (q : ℕ) → q ≤ highest parameters registers t → (q ≤ t)
      × ((parameters.upper ≡ no_limit) ⊎ (q ≤ high_of registers + parameters.upper))
  below_highest q =
      split (eqb parameters.upper no_limit)
      (λ x. q ≤ cond x t (min (plus (high_of registers) parameters.upper) t) → (q ≤ t)
      × ((parameters.upper ≡ no_limit) ⊎ (q ≤ high_of registers + parameters.upper)))
      (λ e h. (h, inl (eqb-true parameters.upper no_limit e)))
      (λ e h. (omega arith, inr (omega arith)))

  upto_highest : (q : ℕ) → q ≤ t → (parameters.upper ≡ no_limit) ⊎ (q ≤ high_of registers + parameters.upper) → q ≤ highest parameters registers t
  upto_highest q soon reach =
      split (eqb parameters.upper no_limit) (λ x. q ≤ cond x t (min (plus (high_of registers) parameters.upper) t))
      (λ e. soon)
      (λ e. ⊎_elim (λ f. absurd (eqb-false parameters.upper no_limit e f)) (λ h. omega arith) reach)

  -- each place of the next point has a place of the last one before it
  place_before : low_of registers ≤ high_of registers → stride parameters.lower ≤ parameters.upper → (q : ℕ) → IsPlace parameters registers t q
      → (p : ℕ) × (low_of registers ≤ p) × (p ≤ high_of registers) × NextAt parameters t p q
  place_before ordered possible q place =
      let (soon, reach) = below_highest q place.1 in (
        min (high_of registers) (q - stride parameters.lower),
        omega arith,
        omega arith,
        ((omega arith, (omega arith, ⊎_elim inl (λ h. inr (omega arith)) reach)), (omega arith, omega arith)),
      )

  -- and behind a place of the last point there is no other place of the next one
  place_behind : parameters.lower ≤ last_time → (p q : ℕ) → low_of registers ≤ p → p ≤ high_of registers → NextAt parameters t p q
      → (stride parameters.lower ≤ parameters.upper) × IsPlace parameters registers t q
  place_behind small_lower p q low high next = (
    ⊎_elim (λ e. omega arith) (λ h. omega arith) next.0.1.1,
    (omega arith, upto_highest q (omega arith) (⊎_elim inl (λ h. inr (omega arith)) next.0.1.1)),
  )

module _ (parameters : Parameters) (events : List ℕ) (t : ℕ) (small : t ≤ last_time) where
  -- the point of the first event
  pub first_places : length events ≡ 0 → Places parameters (events ++ (t ∷ [])) (length events) (t - parameters.jitter) t
  first_places empty =
      record {
        ordered = omega arith;
        each = λ p low high. (
          p ∷ [],
          points_more parameters.lower parameters.upper parameters.jitter events t [] p
              (points_none parameters.lower parameters.upper parameters.jitter events empty)
              (omega arith) (λ n e. absurd (omega arith)),
          at_next [] p [] (length events) empty,
        );
        no_other =
            λ points hidden. let near : Between 0 parameters.jitter (at points (length events)) t =
            points_near parameters.lower parameters.upper parameters.jitter events t points hidden in
            (omega arith, omega arith);
      }

  module _ (registers : Registers) (n : ℕ) (e : n + 1 ≡ length events) (places : Places parameters events n (low_of registers) (high_of registers))
    where
      -- the point of a later event
      pub later_place : parameters.lower ≤ last_time → (points : List ℕ) → PointsOf parameters (events ++ (t ∷ [])) points
          → (stride parameters.lower ≤ parameters.upper) × IsPlace parameters registers t (at points (length events))
      later_place small_lower points hidden =
          place_behind parameters registers t small small_lower (at points n) (at points (length events)) before.0 before.1 (
            points_next parameters.lower parameters.upper parameters.jitter events t points hidden n e,
            points_near parameters.lower parameters.upper
                parameters.jitter events t points hidden,
          )
        where
          before : (low_of registers ≤ at points n) × (at points n ≤ high_of registers)
          before =
              rw (get_or-take (length events) points n 0 (omega arith)) at
              (places.no_other (take (length events) points)
              (points_first 1 parameters.lower parameters.upper parameters.jitter events (t ∷ []) points hidden))

      later_points : (p q : ℕ) → NextAt parameters t p q → (points : List ℕ) × PointsOf parameters events points × (at points n ≡ p)
          → (points : List ℕ) × PointsOf parameters (events ++ (t ∷ [])) points × (at points (length events) ≡ q)
      later_points p q next (points, hidden, is) = (
        points ++ (q ∷ []),
        points_more parameters.lower parameters.upper parameters.jitter events t points q hidden next.1
            (λ m f. subst (λ (x : ℕ). NextPoint parameters.lower parameters.upper x q) (last m f) next.0),
        at_next points q [] (length events) (sym hidden.one_each),
      )
        where
          last : (m : ℕ) → m + 1 ≡ length events → p ≡ at points m
          last m f = let same : n ≡ m = omega arith in sym is ∙ ap (at points) same

      pub later_places : parameters.lower ≤ last_time → stride parameters.lower ≤ parameters.upper
          → lowest parameters registers t ≤ highest parameters registers t
          → Places parameters (events ++ (t ∷ [])) (length events) (lowest parameters registers t) (highest parameters registers t)
      later_places small_lower possible ordered =
          record {
            ordered = ordered;
            each = λ q low high. let (p, low-p, high-p, next) = place_before parameters registers t small places.ordered possible q (low, high) in
                later_points p q next (places.each p low-p high-p);
            no_other = λ points hidden. (later_place small_lower points hidden).1;
          }

module _ (parameters : Parameters) (events : List ℕ) (registers : Registers) (kept : List ℕ) (keeps : KeepsSporadic parameters events registers kept)
    (t : ℕ)
    (small : t ≤ last_time) where
  -- what it keeps with the event
  keeps_more : (low high : ℕ) → AtLeastApart parameters.minimum (events ++ (t ∷ []))
      → Places parameters (events ++ (t ∷ [])) (length events) low high
      → t - parameters.jitter ≤ high → TurnsSporadic parameters events kept t (point_at parameters registers t low high)
  keeps_more low high apart places near =
      record {
        live = record {
          no_times = keeps.no_times;
          apart = apart;
          last_is = last_new events t (plus t 1) (omega arith);
          places = λ n e. let last : length events ≡ n = omega (arith, length-append events (t ∷ [])) in
              subst (λ (m : ℕ). Places parameters (events ++ (t ∷ [])) m low high) last places;
        };
        due_is = rw (ne_eqb (plus t 1) 0 (λ e. omega arith));
        kept_is = refl;
        in_time = omega arith;
      }

  later_event : parameters.lower ≤ last_time → (n : ℕ) → n + 1 ≡ length events
      → TurnsSporadic parameters events kept t (later_sporadic parameters registers t)
  unfolding later_sporadic MeetsSporadic
  later_event small_lower n e =
      turn
      (tells_and (far_enough_lem parameters.minimum events t registers.last keeps.last_is keeps.apart)
      (tells_and (tells_leb (stride parameters.lower) parameters.upper)
      (tells_leb (lowest parameters registers t) (highest parameters registers t))))
    where
      turn : {test : Bool}
          → Tells (AtLeastApart parameters.minimum (events ++ (t ∷ [])) ×
          ((stride parameters.lower ≤ parameters.upper) × (lowest parameters registers t ≤ highest parameters registers t))) test
          → TurnsSporadic parameters events kept t
          (cond test (point_at parameters registers t (lowest parameters registers t) (highest parameters registers t)) breaking)
      turn (holds (apart, some)) =
          keeps_more (lowest parameters registers t) (highest parameters registers t) apart
          (later_places parameters events t small registers n e (keeps.places n e) small_lower some.0 some.1) (omega arith)
      turn (fails none) =
          λ m. let place =
          later_place parameters events t small registers n e (keeps.places n e) small_lower m.0.0 m.0.1 in none
          (m.1, (place.0, omega arith))

  sporadic_event : parameters.lower ≤ last_time
      → (kind : ℕ) → TurnsSporadic parameters events kept t (decide_sporadic parameters registers kept kind t)
  unfolding decide_sporadic
  sporadic_event small_lower kind =
      split (eqb registers.last 0)
      (λ x. TurnsSporadic parameters events kept t
      (cond x (point_at parameters registers t (t - parameters.jitter) t) (later_sporadic parameters registers t)))
      (λ none. let empty : length events ≡ 0 = last_zero events registers.last keeps.last_is none in
      keeps_more (t - parameters.jitter) t
      (apart_more 1 parameters.minimum no_limit events t (omega arith) keeps.apart (λ i e. absurd (omega arith)))
      (first_places parameters events t small empty) (omega arith))
      (λ some. let (n, more, is) = last_some events registers.last keeps.last_is some in later_event small_lower n (omega arith))

-- ---- Open

-- the last of the first points has another behind it, whose event is not before now, or the clock that all close at is early
last_first : (lower upper jitter : ℕ) (xs ys points : List ℕ) (now later : ℕ) → now ≤ later → Each (λ y. now ≤ y) ys
    → HiddenPoints 1 lower upper jitter (xs ++ ys) points → LastNotLater upper jitter points later
    → LastNotLater upper jitter (take (length xs) points) now
last_first lower upper jitter xs ys points now later h after hidden last i e =
    rw (get_or-take (length xs) points i 0 (omega (arith, count)))
    (by_cases (dec_lt (i + 1) (length points))
    (λ there. let next : now ≤ at (xs ++ ys) (i + 1) = behind (omega (arith, hidden.one_each)) in
    let near = hidden.near (i + 1) (omega (arith, hidden.one_each)) in
    ⊎_elim inl (λ reach. inr (omega arith)) (hidden.apart i (omega (arith, hidden.one_each))).1)
    (λ none. not_later_earlier (at points i + jitter) now later h (last i (omega (arith, count, hidden.one_each, length-append xs ys)))))
  where
    count : i + 1 ≡ length xs
    count = e ∙ length-take (length xs) points ∙ omega (arith, hidden.one_each, length-append xs ys)

    behind : i + 1 < length (xs ++ ys) → now ≤ at (xs ++ ys) (i + 1)
    behind there =
        let place : length xs + 0 ≡ i + 1 = omega (arith, count) in
        subst (λ (n : ℕ). now ≤ at (xs ++ ys) n) place (rw (at_right xs ys 0) (after 0 (omega (arith, count, length-append xs ys))))

sporadic_first : (lower upper jitter minimum : ℕ) (xs ys : List ℕ) (now later : ℕ) → now ≤ later → Each (λ y. now ≤ y) ys
    → MeetsSporadic lower upper jitter minimum (xs ++ ys) later → MeetsSporadic lower upper jitter minimum xs now
unfolding MeetsSporadic
sporadic_first lower upper jitter minimum xs ys now later h after ((points, hidden, last), apart) = (
  (
    take (length xs) points,
    points_first 1 lower upper jitter xs ys points hidden,
    last_first lower upper jitter xs ys points now later h after hidden last,
  ),
  apart_first 1 minimum no_limit xs ys apart,
)

-- so a signal that is silent for too long leaves no continuation: its last point is not after its last event
pub silent_sporadic_shut : (kind lower upper jitter minimum : ℕ) (steps : List Step) → ¬ (upper ≡ no_limit) → (i : ℕ)
    → i + 1 ≡ length (times kind steps) → at (times kind steps) i + upper + jitter < clock steps
    → ¬ Open (Sporadic kind lower upper jitter minimum) steps
unfolding Meets MeetsSporadic
silent_sporadic_shut kind lower upper jitter minimum steps limit i last silent (further, follows, m) =
    let now =
    sporadic_first lower upper jitter minimum (times kind steps) (times kind further) (clock steps) (clock (steps ++ further))
    (continues_clock follows) (continues_late follows kind) (rw (times_append kind steps further) at m) in
    ⊎_elim limit (λ soon. omega (arith, now.0.1.near i (omega arith))) (now.0.2 i (omega (arith, now.0.1.one_each)))

module _ (parameters : Parameters) (events : List ℕ) (registers : Registers) (kept : List ℕ) (keeps : KeepsSporadic parameters events registers kept)
    (now : ℕ)
    (small : now ≤ last_time) where
  abbrev SaysNow : Type 0
  SaysNow = MeetsSporadic parameters.lower parameters.upper parameters.jitter parameters.minimum events now

  -- before the first event
  none_says : length events ≡ 0 → SaysNow
  unfolding MeetsSporadic
  none_says e = (([], points_none parameters.lower parameters.upper parameters.jitter events e, λ i f. absurd (omega arith)), keeps.apart)

  -- the point at its latest place allows each clock up to the due time, and no place allows a later one
  some_says : (n : ℕ) → n + 1 ≡ length events → SaysNow ↔ (now ≤ due_point parameters (high_of registers))
  unfolding MeetsSporadic
  some_says n e = (
    λ m. ⊎_elim (λ f. omega arith) (λ h. omega (arith, (places.no_other m.0.0 m.0.1).1)) (m.0.2 n (omega (arith, m.0.1.one_each))),
    λ soon. let (points, hidden, is) = places.each (high_of registers) places.ordered (omega arith) in (
      (points, hidden, λ i f. let same : i ≡ n = omega (arith, hidden.one_each) in inr (omega (arith, ap (at points) same))),
      keeps.apart,
    ),
  )
    where
      places : Places parameters events n (low_of registers) (high_of registers)
      places = keeps.places n e

  sporadic_says : SaysNow ↔ (now ≤ due_sporadic parameters registers kept)
  sporadic_says =
      split (eqb registers.last 0) (λ x. SaysNow ↔ (now ≤ cond x no_limit (due_point parameters (high_of registers))))
      (λ none. (λ m. omega arith, λ soon. none_says (last_zero events registers.last keeps.last_is none)))
      (λ some. let (n, more, is) = last_some events registers.last keeps.last_is some in some_says n (omega arith))

-- ---- Exact

-- §5.4
pub exact_sporadic : (kind lower upper jitter minimum : ℕ) → Sound (Sporadic kind lower upper jitter minimum)
    → Exact (Sporadic kind lower upper jitter minimum) (decide_sporadic (parameters_of (Sporadic kind lower upper jitter minimum)))
unfolding Meets waiting InRange
exact_sporadic kind lower upper jitter minimum sound =
    exact_one_kind (Sporadic kind lower upper jitter minimum) (decide_sporadic parameters)
    (record {
      kind = kind;
      Says = MeetsSporadic lower upper jitter minimum;
      words = [];
      one_kind = refl;
      start_words_lem = refl;
      meets = λ steps. (λ m. m, λ m. m);
      none_waits = refl;
      waits_none = λ steps. refl;
      follows = record {
        Keeps = KeepsSporadic parameters;
        due = due_sporadic parameters;
        says_first = sporadic_first lower upper jitter minimum;
        keeps_none = sporadic_none parameters;
        due_none = refl;
        keeps_says = λ now rises small keeps. sporadic_says parameters _ _ _ keeps now small;
        keeps_few = λ keeps. omega (arith, ap length keeps.no_times);
        keeps_event = λ t rises small keeps soon. sporadic_event parameters _ _ _ keeps t small sound.in_range.1.0 kind;
      };
    })
  where
    parameters : Parameters
    parameters = parameters_of (Sporadic kind lower upper jitter minimum)

-- ---- In a row

-- no times are kept, and an event that the row goes on with changes three marks
steady_sporadic : (parameters : Parameters) (m : Registers) (times : List ℕ) (kind t : ℕ)
    → Steady first_three_saved m times (decide_sporadic parameters
    m times kind t)
unfolding decide_sporadic later_sporadic
steady_sporadic parameters m times kind t =
    steady_by (eqb m.last 0) (steady_drop 0 (ap (registers_of (plus t 1) (t - parameters.jitter) t)))
    (steady_by (far_enough parameters.minimum m.last t &&
    (leb (stride parameters.lower) parameters.upper && leb (lowest parameters m t) (highest parameters m t)))
    (steady_drop 0 (ap (registers_of (plus t 1) (lowest parameters m t) (highest parameters m t)))) (steady_breaking keeping_first_three))

pub fits_sporadic : FitsRow machine_sporadic
fits_sporadic = fits_steady keeping_first_three steady_sporadic
