-- An Arbitrary is its Repeats: it is open exactly while each of them is. Each Repeat is open only while the recorded events meet it at the present
-- clock, so the empty continuation serves all of them together.
use Rattle.constraint.proofs.Continuations.{continues_clock, continues_late}
use Rattle.constraint.proofs.History.{times_append}
use Rattle.constraint.proofs.Library.{List, [], ◌++◌, ◌+◌, ◌<◌, ◌↔◌, ◌≡◌, append-nil, arith, length, length-map, ℕ}
use Rattle.constraint.specs.Constraint.{Arbitrary, Constraint, Repeat}
use Rattle.constraint.specs.Continuation.{Open, stop}
use Rattle.constraint.specs.Meets.{Meets, MeetsArbitrary, MeetsRepeat}
use Rattle.constraint.specs.Steps.{Step, at, clock, times}
use Rattle.repeat_burst.proofs.Laws.Repeat.{repeat_first}
use Rattle.repeat_burst.specs.Arbitrary.{maxima_in, minima_in}

-- the i-th of them, from 0 on
abbrev pub repeat_of : ℕ → List (ℕ × ℕ) → ℕ → Constraint
repeat_of kind pairs i = Repeat kind (i + 1) (at (minima_in pairs) i) (at (maxima_in pairs) i)

-- a Repeat that is open is met now
met_now : (kind span lower upper : ℕ) (steps : List Step) → Open (Repeat kind span lower upper) steps
    → MeetsRepeat span lower upper (times kind steps) (clock steps)
unfolding Meets
met_now kind span lower upper steps (further, follows, meets) =
    repeat_first span lower upper (times kind steps) (times kind further) (clock steps) (clock (steps ++ further)) (continues_clock follows)
    (continues_late follows kind) (rw (times_append kind steps further) at meets)

-- §5.16
pub arbitrary_repeats : (kind : ℕ) (pairs : List (ℕ × ℕ)) (steps : List Step)
    → Open (Arbitrary kind pairs) steps ↔ ((i : ℕ) → i < length pairs → Open (repeat_of kind pairs i) steps)
unfolding Meets MeetsArbitrary
arbitrary_repeats kind pairs steps = (
  λ (further, follows, meets) i inside. (further, follows, meets i (omega (arith, as_many))),
  λ each. (
    [],
    stop,
    rw (append-nil steps)
        (λ i inside. met_now kind (i + 1) (at (minima_in pairs) i) (at (maxima_in pairs) i) steps (each i (omega (arith, as_many)))),
  ),
)
  where
    as_many : length (minima_in pairs) ≡ length pairs
    as_many = length-map pairs (λ p. p.0)
