-- What the proofs of code share, here and in the crates above: a call that asks for nothing, and a choice whose test is known.
use Rattle.ring.proofs.Names.{Bool, ◌≡◌, cond, false, true}

-- what a callee asks that requires nothing
pub free : {A K : Type 0} → A → K → Unit {0}
free c κs = tt

pub cond_true : {A : Type 0} (b : Bool) (x y : A) → b ≡ true → cond b x y ≡ x
cond_true b x y e = rw e

pub cond_false : {A : Type 0} (b : Bool) (x y : A) → b ≡ false → cond b x y ≡ y
cond_false b x y e = rw e
