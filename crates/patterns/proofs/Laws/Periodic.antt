-- A Pattern of one offset 0 is a Sporadic whose points are one period apart: the points are the start and what follows it at each period.
use Rattle.constraint.proofs.Library.{List, [], ◌++◌, ◌+◌, ◌-◌, ◌<◌, ◌↔◌, ◌∙◌, ◌∷◌, ◌≡◌, ◌≢◌, ap, arith, inr, length, refl, suc, sym, zero, ℕ, ⊎_elim}
use Rattle.constraint.specs.Meets.{HiddenPoints, MeetsPattern, MeetsSporadic, number_of, place_of, point_of}
use Rattle.constraint.specs.Constraint.{Pattern, Sporadic}
use Rattle.constraint.specs.{Continuation.Open, Limits.no_limit, Meets.Meets, Steps.Step, Steps.at, Steps.clock, Steps.times}

-- ---- a group of one

one_number : (j : ℕ) → number_of 1 j ≡ 0
unfolding number_of
one_number zero = refl
one_number (suc j) = rw (one_number j)

one_point : (period j : ℕ) → point_of 1 period (suc j) ≡ point_of 1 period j + period
unfolding point_of
one_point period j = rw (one_number j)

one_place : (period j : ℕ) → place_of period (0 ∷ []) j ≡ point_of 1 period j
one_place period j = ap (λ i. point_of 1 period j + at (0 ∷ []) i) (one_number j) ∙ omega arith

place_next : (period j : ℕ) → place_of period (0 ∷ []) (j + 1) ≡ place_of period (0 ∷ []) j + period
place_next period j =
    let e : j + 1 ≡ suc j = omega arith in
    ap (place_of period (0 ∷ [])) e ∙ omega (arith, one_place period (suc j), one_place period j, one_point period j)

place_first : (period : ℕ) → place_of period (0 ∷ []) 0 ≡ 0
unfolding number_of point_of
place_first period = refl

-- ---- the points of n events, the first at p

from : ℕ → ℕ → ℕ → List ℕ
from period p zero = []
from period p (suc n) = p ∷ from period (p + period) n

from_length : (period p n : ℕ) → length (from period p n) ≡ n
unfolding from
from_length period p zero = refl
from_length period p (suc n) = ap suc (from_length period (p + period) n)

from_at : (period p n j : ℕ) → j < n → at (from period p n) j ≡ p + place_of period (0 ∷ []) j
unfolding from
from_at period p zero j h = absurd (omega arith)
from_at period p (suc n) zero h = omega (arith, place_first period)
from_at period p (suc n) (suc j) h =
    let e : j + 1 ≡ suc j = omega arith in
    from_at period (p + period) n j (omega arith) ∙ omega (arith, place_next period j, ap (place_of period (0 ∷ [])) e)

-- ---- the theorem

module _ (period jitter minimum : ℕ) (given : period ≢ no_limit) (events : List ℕ) (now : ℕ) where
  periodic_sporadic : MeetsPattern period jitter minimum (0 ∷ []) events now → MeetsSporadic period period jitter minimum events now
  unfolding MeetsPattern MeetsSporadic
  periodic_sporadic ((start, near, soon), apart, groups) = (
    (
      points,
      record {
        one_each = from_length period start (length events);
        near = λ i h. rw (is i h) (near i h);
        rise = λ i h. omega (arith, is i (omega arith), is (i + 1) h, place_next period i, groups (omega arith));
        apart = λ i h. (
          omega (arith, is i (omega arith), is (i + 1) h, place_next period i),
          inr (omega (arith, is i (omega arith), is (i + 1) h, place_next period i)),
        );
      },
      λ i e. let last : i + 1 ≡ length events = e ∙ from_length period start (length events) in
          inr (omega (arith, is i (omega (arith, last)), place_next period i, ap (place_of period (0 ∷ [])) last, soon (omega (arith, last)))),
    ),
    apart,
  )
    where
      points : List ℕ
      points = from period start (length events)

      is : (i : ℕ) → i < length events → at (from period start (length events)) i ≡ start + place_of period (0 ∷ []) i
      is i h = from_at period start (length events) i h

  -- each point is where the start puts it
  points_from : (points : List ℕ) → HiddenPoints 1 period period jitter events points → (i : ℕ) → i < length events
      → at points i ≡ at points 0 + place_of period (0 ∷ []) i
  points_from points hidden zero h = omega (arith, place_first period)
  points_from points hidden (suc i) h =
      let e : i + 1 ≡ suc i = omega arith in
      let apart = hidden.apart i (omega arith) in
      ⊎_elim (λ none. absurd (given none))
      (λ within. omega (
        arith,
        apart.0,
        points_from points hidden i (omega arith),
        place_next period i,
        ap (place_of period (0 ∷ [])) e,
        ap (at points) e,
      ))
      apart.1

  sporadic_periodic : MeetsSporadic period period jitter minimum events now → MeetsPattern period jitter minimum (0 ∷ []) events now
  unfolding MeetsPattern MeetsSporadic
  sporadic_periodic ((points, hidden, last), apart) = (
    (
      at points 0,
      (λ j h. rw (sym (points_from points hidden j h)) (hidden.near j h)),
      λ some. let i : ℕ = length events - 1 in
          let e : i + 1 ≡ length events = omega arith in
          ⊎_elim (λ none. absurd (given none))
          (λ within. omega (arith, points_from points hidden i (omega arith), place_next period i, ap (place_of period (0 ∷ [])) e))
          (last i (omega (arith, hidden.one_each))),
    ),
    apart,
    λ many. let apart = hidden.apart 0 (omega arith) in
        ⊎_elim (λ none. absurd (given none)) (λ within. omega (arith, hidden.rise 0 (omega arith))) apart.1,
  )

  -- §5.15: a Pattern of one offset 0 asks what a Sporadic asks whose lower is its upper
  pub pattern_periodic : MeetsPattern period jitter minimum (0 ∷ []) events now ↔ MeetsSporadic period period jitter minimum events now
  pattern_periodic = (periodic_sporadic, sporadic_periodic)

-- §5.15: so the two are open after the same steps
pub pattern_sporadic : (kind period jitter minimum : ℕ) → period ≢ no_limit → (steps : List Step)
    → Open (Pattern kind period jitter minimum (0 ∷ [])) steps ↔ Open (Sporadic kind period period jitter minimum) steps
unfolding Meets
pattern_sporadic kind period jitter minimum given steps = (
  λ (further, follows, meets). (further, follows, (same (steps ++ further)).0 meets),
  λ (further, follows, meets). (further, follows, (same (steps ++ further)).1 meets),
)
  where
    same : (all : List Step) → MeetsPattern period jitter minimum (0 ∷ []) (times kind all) (clock all)
        ↔ MeetsSporadic period period jitter minimum (times kind all) (clock all)
    same all = pattern_periodic period jitter minimum given (times kind all) (clock all)
