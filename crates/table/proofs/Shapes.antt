-- Past the end of a list stands 0, so what is above 0 is there.
use Rattle.table.proofs.Names.{List, [], ◌<◌, ◌∷◌, arith, at, length, suc, zero, ℕ}

pub there : (list : List ℕ) (i : ℕ) → 0 < at list i → i < length list
there [] i above = absurd (omega arith)
there (x ∷ list) zero above = omega arith
there (x ∷ list) (suc i) above = omega (arith, there list i above)
