-- Pattern can be met, and can be missed: by an event, by the clock alone, by jitter that adds up, by a second group without a period.
use Rattle.constraint.proofs.Library.{[], ◌+◌, ◌<◌, ◌∷◌, arith, suc, zero, ℕ}
use Rattle.constraint.specs.Meets.{Between, MeetsPattern, SpansApart, number_of, place_of, point_of}
use Rattle.constraint.specs.{Steps.at}

-- §5.15: period 10, jitter 1, offsets 0 and 3: a group may be begun at the close, with 5 alone
pub pattern_begun : MeetsPattern 10 1 0 (0 ∷ 3 ∷ []) (5 ∷ []) 9
unfolding MeetsPattern SpansApart number_of point_of
pattern_begun = ((5, (λ j h. near j h), λ some. omega arith), (λ i h. absurd (omega arith)), λ many. absurd (omega arith))
  where
    near : (j : ℕ) → j < 1 → Between 0 1 (5 + place_of 10 (0 ∷ 3 ∷ []) j) (at (5 ∷ []) j)
    near zero h = (omega arith, omega arith)
    near (suc j) h = absurd (omega arith)

-- §5.15: the second event is 3 or 4 after the first, and 10 is not
pub pattern_missed : ¬ MeetsPattern 10 1 0 (0 ∷ 3 ∷ []) (5 ∷ 10 ∷ []) 10
unfolding MeetsPattern number_of point_of
pattern_missed ((start, near, soon), apart, groups) = omega (arith, near 0 (omega arith), near 1 (omega arith))

-- §5.15: 5 and no event until 10: the second is overdue
pub pattern_silent : ¬ MeetsPattern 10 1 0 (0 ∷ 3 ∷ []) (5 ∷ []) 10
unfolding MeetsPattern number_of point_of
pattern_silent ((start, near, soon), apart, groups) = omega (arith, near 0 (omega arith), soon (omega arith))

-- §5.15: period 5, jitter 1, one offset 0: 0, 6, 12 are each 6 apart, and no start has all three
pub pattern_adds_up : ¬ MeetsPattern 5 1 0 (0 ∷ []) (0 ∷ 6 ∷ 12 ∷ []) 12
unfolding MeetsPattern number_of point_of
pattern_adds_up ((start, near, soon), apart, groups) = omega (arith, near 0 (omega arith), near 2 (omega arith))

-- §5.15: without a period there is one group
pub pattern_no_period : ¬ MeetsPattern 0 1 0 (0 ∷ []) (2 ∷ 3 ∷ []) 3
unfolding MeetsPattern
pattern_no_period ((start, near, soon), apart, groups) = omega (arith, groups (omega arith))
