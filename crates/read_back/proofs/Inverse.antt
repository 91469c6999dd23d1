-- A row's numbers and constants give its fields again: for each type, and for each n, both are written out.
use Rattle.constraint.proofs.Library.{List, [], ◌∷◌, ◌≡◌, ap, arith, ltb, refl, take, true, ℕ}
use Rattle.constraint.specs.Constraint.{Constraint, Delay, StrongDelay, Repeat, Sporadic, Burst, Order, StrongSynchronization, ExecutionTime}
use Rattle.constraint.specs.Constraint.{Reaction, Repetition, Synchronization, Age, OutputSynchronization, InputSynchronization, Pattern}
use Rattle.constraint.specs.Constraint.{Arbitrary, Comparison}
use Rattle.constraint.specs.Types.{type_of}
use Rattle.table_row.proofs.ByType.{CountFits}
use Rattle.table_row.specs.Records.{roles_of, row_read}
use Rattle.row_type.specs.Parameters.{parameters_of, start_ring}
use Rattle.row_type.specs.declared.Parameters.{Parameters}
use Rattle.read_back.specs.Back.{constant_limit, constants_from, row_back, values_back}

-- the row of some numbers and constants
abbrev back_with : Parameters → List ℕ → Constraint
back_with p constants = row_read p.tag (values_back (roles_of p.tag p.span) p constants (constants_from p.tag) 0)

-- rows of the type have constants
abbrev pub Constant : ℕ → Type 0
Constant t = ltb (constants_from t) 18 ≡ true

-- the words have the constants of the row, if its type has any
abbrev pub HasConstants : Constraint → List ℕ → Type 0
HasConstants c words = Constant (type_of c) → take constant_limit words ≡ take constant_limit (start_ring c)

module _ (w : List ℕ) where
  -- §9.14: so the row of a constraint's numbers and constants is the constraint
  pub inverse : (c : Constraint) → CountFits c → HasConstants c w → row_back (parameters_of c) w ≡ c
  unfolding row_back values_back row_read
  inverse (Delay a b x y) fits has = refl
  inverse (StrongDelay a b x y) fits has = refl
  inverse (Repeat a b x y) fits has = refl
  inverse (Sporadic a x y z w) fits has = refl
  inverse (Burst a b x y) fits has = refl
  inverse (Order a b) fits has = refl
  inverse (StrongSynchronization [] x) fits has = absurd (omega (arith, fits refl))
  inverse (StrongSynchronization (k0 ∷ []) x) fits has = absurd (omega (arith, fits refl))
  inverse (StrongSynchronization (k0 ∷ k1 ∷ []) x) fits has = refl
  inverse (StrongSynchronization (k0 ∷ k1 ∷ k2 ∷ []) x) fits has = refl
  inverse (StrongSynchronization (k0 ∷ k1 ∷ k2 ∷ k3 ∷ []) x) fits has = refl
  inverse (StrongSynchronization (k0 ∷ k1 ∷ k2 ∷ k3 ∷ k4 ∷ ks) x) fits has = absurd (omega (arith, fits refl))
  inverse (ExecutionTime a b c d x y) fits has = refl
  inverse (Reaction a b x y) fits has = refl
  inverse (Repetition a b x y z) fits has = refl
  inverse (Synchronization [] x) fits has = absurd (omega (arith, fits refl))
  inverse (Synchronization (k0 ∷ []) x) fits has = absurd (omega (arith, fits refl))
  inverse (Synchronization (k0 ∷ k1 ∷ []) x) fits has = refl
  inverse (Synchronization (k0 ∷ k1 ∷ k2 ∷ []) x) fits has = refl
  inverse (Synchronization (k0 ∷ k1 ∷ k2 ∷ k3 ∷ []) x) fits has = refl
  inverse (Synchronization (k0 ∷ k1 ∷ k2 ∷ k3 ∷ k4 ∷ ks) x) fits has = absurd (omega (arith, fits refl))
  inverse (Age a b x y) fits has = refl
  inverse (OutputSynchronization a [] x) fits has = absurd (omega (arith, fits refl))
  inverse (OutputSynchronization a (k0 ∷ []) x) fits has = absurd (omega (arith, fits refl))
  inverse (OutputSynchronization a (k0 ∷ k1 ∷ []) x) fits has = refl
  inverse (OutputSynchronization a (k0 ∷ k1 ∷ k2 ∷ []) x) fits has = refl
  inverse (OutputSynchronization a (k0 ∷ k1 ∷ k2 ∷ k3 ∷ []) x) fits has = refl
  inverse (OutputSynchronization a (k0 ∷ k1 ∷ k2 ∷ k3 ∷ k4 ∷ ks) x) fits has = absurd (omega (arith, fits refl))
  inverse (InputSynchronization [] a x) fits has = absurd (omega (arith, fits refl))
  inverse (InputSynchronization (k0 ∷ []) a x) fits has = absurd (omega (arith, fits refl))
  inverse (InputSynchronization (k0 ∷ k1 ∷ []) a x) fits has = refl
  inverse (InputSynchronization (k0 ∷ k1 ∷ k2 ∷ []) a x) fits has = refl
  inverse (InputSynchronization (k0 ∷ k1 ∷ k2 ∷ k3 ∷ []) a x) fits has = refl
  inverse (InputSynchronization (k0 ∷ k1 ∷ k2 ∷ k3 ∷ k4 ∷ ks) a x) fits has = absurd (omega (arith, fits refl))
  inverse (Pattern a x y z []) fits has = absurd (omega (arith, fits refl))
  inverse (Pattern a x y z (k0 ∷ [])) fits has = ap (back_with (parameters_of (Pattern a x y z (k0 ∷ [])))) (has refl)
  inverse (Pattern a x y z (k0 ∷ k1 ∷ [])) fits has = ap (back_with (parameters_of (Pattern a x y z (k0 ∷ k1 ∷ [])))) (has refl)
  inverse (Pattern a x y z (k0 ∷ k1 ∷ k2 ∷ [])) fits has = ap (back_with (parameters_of (Pattern a x y z (k0 ∷ k1 ∷ k2 ∷ [])))) (has refl)
  inverse (Pattern a x y z (k0 ∷ k1 ∷ k2 ∷ k3 ∷ [])) fits has = ap (back_with (parameters_of (Pattern a x y z (k0 ∷ k1 ∷ k2 ∷ k3 ∷ [])))) (has refl)
  inverse (Pattern a x y z (k0 ∷ k1 ∷ k2 ∷ k3 ∷ k4 ∷ [])) fits has =
      ap (back_with (parameters_of (Pattern a x y z (k0 ∷ k1 ∷ k2 ∷ k3 ∷ k4 ∷ [])))) (has refl)
  inverse (Pattern a x y z (k0 ∷ k1 ∷ k2 ∷ k3 ∷ k4 ∷ k5 ∷ [])) fits has =
      ap (back_with (parameters_of (Pattern a x y z (k0 ∷ k1 ∷ k2 ∷ k3 ∷ k4 ∷ k5 ∷ [])))) (has refl)
  inverse (Pattern a x y z (k0 ∷ k1 ∷ k2 ∷ k3 ∷ k4 ∷ k5 ∷ k6 ∷ [])) fits has =
      ap (back_with (parameters_of (Pattern a x y z (k0 ∷ k1 ∷ k2 ∷ k3 ∷ k4 ∷ k5 ∷ k6 ∷ [])))) (has refl)
  inverse (Pattern a x y z (k0 ∷ k1 ∷ k2 ∷ k3 ∷ k4 ∷ k5 ∷ k6 ∷ k7 ∷ [])) fits has =
      ap (back_with (parameters_of (Pattern a x y z (k0 ∷ k1 ∷ k2 ∷ k3 ∷ k4 ∷ k5 ∷ k6 ∷ k7 ∷ [])))) (has refl)
  inverse (Pattern a x y z (k0 ∷ k1 ∷ k2 ∷ k3 ∷ k4 ∷ k5 ∷ k6 ∷ k7 ∷ k8 ∷ ks)) fits has = absurd (omega (arith, fits refl))
  inverse (Arbitrary a []) fits has = absurd (omega (arith, fits refl))
  inverse (Arbitrary a (k0 ∷ [])) fits has = ap (back_with (parameters_of (Arbitrary a (k0 ∷ [])))) (has refl)
  inverse (Arbitrary a (k0 ∷ k1 ∷ [])) fits has = ap (back_with (parameters_of (Arbitrary a (k0 ∷ k1 ∷ [])))) (has refl)
  inverse (Arbitrary a (k0 ∷ k1 ∷ k2 ∷ [])) fits has = ap (back_with (parameters_of (Arbitrary a (k0 ∷ k1 ∷ k2 ∷ [])))) (has refl)
  inverse (Arbitrary a (k0 ∷ k1 ∷ k2 ∷ k3 ∷ [])) fits has = ap (back_with (parameters_of (Arbitrary a (k0 ∷ k1 ∷ k2 ∷ k3 ∷ [])))) (has refl)
  inverse (Arbitrary a (k0 ∷ k1 ∷ k2 ∷ k3 ∷ k4 ∷ [])) fits has = ap (back_with (parameters_of (Arbitrary a (k0 ∷ k1 ∷ k2 ∷ k3 ∷ k4 ∷ [])))) (has refl)
  inverse (Arbitrary a (k0 ∷ k1 ∷ k2 ∷ k3 ∷ k4 ∷ k5 ∷ [])) fits has =
      ap (back_with (parameters_of (Arbitrary a (k0 ∷ k1 ∷ k2 ∷ k3 ∷ k4 ∷ k5 ∷ [])))) (has refl)
  inverse (Arbitrary a (k0 ∷ k1 ∷ k2 ∷ k3 ∷ k4 ∷ k5 ∷ k6 ∷ [])) fits has =
      ap (back_with (parameters_of (Arbitrary a (k0 ∷ k1 ∷ k2 ∷ k3 ∷ k4 ∷ k5 ∷ k6 ∷ [])))) (has refl)
  inverse (Arbitrary a (k0 ∷ k1 ∷ k2 ∷ k3 ∷ k4 ∷ k5 ∷ k6 ∷ k7 ∷ [])) fits has =
      ap (back_with (parameters_of (Arbitrary a (k0 ∷ k1 ∷ k2 ∷ k3 ∷ k4 ∷ k5 ∷ k6 ∷ k7 ∷ [])))) (has refl)
  inverse (Arbitrary a (k0 ∷ k1 ∷ k2 ∷ k3 ∷ k4 ∷ k5 ∷ k6 ∷ k7 ∷ k8 ∷ ks)) fits has = absurd (omega (arith, fits refl))
  inverse (Comparison o x y) fits has = refl
