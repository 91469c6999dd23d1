-- What the code's tests mean, and the row of an entry that is not in use. No definition of the contract uses these.
use Rattle.std.specs.Prelude.{ℕ, Bool, true, false, List, [], ◌∷◌, ◌≢◌}
use Rattle.constraint.specs.Constraint.{Constraint, Order}

-- §9.1: the test answers one question: true means "yes"
abbrev pub Decides : Type 0 → Bool → Type 0
Decides asked true = asked
Decides asked false = ¬ asked

-- the row in an entry that is not in use
abbrev pub filler : Constraint
filler = Order 0 0

-- the kind is not in the list
abbrev pub Absent : ℕ → List ℕ → Type 0
Absent k [] = Unit
Absent k (j ∷ ks) = (k ≢ j) × Absent k ks
