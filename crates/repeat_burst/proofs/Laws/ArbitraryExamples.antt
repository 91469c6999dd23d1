-- Arbitrary can be missed by an event, by the clock alone, and by a pair that is not the first.
use Rattle.constraint.proofs.Library.{[], ◌∷◌, arith, ⊎_elim}
use Rattle.constraint.specs.{Limits.no_limit, Meets.MeetsArbitrary, Meets.MeetsRepeat, Meets.SpansApart}

-- §5.16: five or more with one event between: not 0, 2, 4
pub arbitrary_missed : ¬ MeetsArbitrary (2 ∷ 5 ∷ []) (no_limit ∷ no_limit ∷ []) (0 ∷ 2 ∷ 4 ∷ []) 4
unfolding MeetsArbitrary MeetsRepeat SpansApart
arbitrary_missed m = omega (arith, ((m 1 (omega arith)).0 0 (omega arith)).0)

-- §5.16: at most 3 with one event between: an event at 2 and none until 6
pub arbitrary_silent : ¬ MeetsArbitrary (0 ∷ 0 ∷ []) (no_limit ∷ 3 ∷ []) (2 ∷ []) 6
unfolding MeetsArbitrary MeetsRepeat
arbitrary_silent m = ⊎_elim (λ e. omega arith) (λ h. omega arith) ((m 1 (omega arith)).1 0 (omega arith) (omega arith))
