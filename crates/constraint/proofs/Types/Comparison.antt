-- A Comparison looks at no event: it says the same of every list of steps.
use Rattle.constraint.proofs.Names.{Comparison, Meets, [], arith, refl, waiting, ℕ}
use Rattle.constraint.proofs.Lawful.{Lawful}

pub lawful_comparison : (operator left right : ℕ) → Lawful (Comparison operator left right)
unfolding Meets waiting
lawful_comparison operator left right = record { same = λ a b in_order same earlier m. m; waits_same = λ a b same. refl }

-- §5.17: one that is true is met, and one that is false is not
pub comparison_met : Meets (Comparison 1 2 3) [] × ¬ Meets (Comparison 1 3 2) []
unfolding Meets
comparison_met = (omega arith, λ m. omega (arith, m))
