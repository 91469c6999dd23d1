-- Tests that tell whether something holds.
use mir.Val.{bool_byte}
use Rattle.row_type.proofs.Names.{Bool, ◌&&◌, ◌||◌, ◌≡◌, ◌≤◌, arith, cond, false, leb, leb-false, leb-true, refl, split, true, ℕ}

-- the number that the library makes of a test
pub bool_number : (b : Bool) → bool_byte b ≡ cond b 1 0
bool_number true = refl
bool_number false = refl

pub data Tells (P : Type 0) : Bool → Type 0 where
  holds : P → Tells P true
  fails : ¬ P → Tells P false

pub tells_leb : (a b : ℕ) → Tells (a ≤ b) (leb a b)
tells_leb a b = split (leb a b) (Tells (a ≤ b)) (λ e. holds (leb-true a b e)) (λ e. fails (omega (arith, leb-false)))

pub tells_same : {P Q : Type 0} {a : Bool} → Tells P a → (P → Q) → (Q → P) → Tells Q a
tells_same (holds p) f g = holds (f p)
tells_same (fails n) f g = fails (λ q. n (g q))

pub tells_and : {P Q : Type 0} {a b : Bool} → Tells P a → Tells Q b → Tells (P × Q) (a && b)
tells_and (holds p) (holds q) = holds (p, q)
tells_and (holds p) (fails n) = fails (λ both. n both.1)
tells_and (fails n) q = fails (λ both. n both.0)

-- the second test is asked only where the first is false
pub tells_or : {P : Type 0} (a b : Bool) → (a ≡ true → P) → (a ≡ false → Tells P b) → Tells P (a || b)
tells_or true b p q = holds (p refl)
tells_or false b p q = q refl
