-- The first time still free of a stream is one more than its last: every earlier one is below it, as its times rise.
use Rattle.constraint.proofs.Names.{List, [], ◌++◌, ◌<◌, ◌∷◌, ◌≡◌, ◌≤◌, arith, max, suc, ℕ}
use Rattle.constraint.proofs.Lists.{Each, each_cons, each_none, each_tail}

-- one more than the last of a rising list of times
unfoldable pub next_free : List ℕ → ℕ
next_free [] = 0
next_free (t ∷ ts) = max (suc t) (next_free ts)

pub next_above : (ts : List ℕ) → Each (λ s. s < next_free ts) ts
unfolding next_free
next_above [] = each_none (λ s. s < 0)
next_above (t ∷ ts) = each_cons (λ s. s < max (suc t) (next_free ts)) t ts (omega arith) (λ i h. omega (arith, next_above ts i h))

pub next_least : (ts : List ℕ) (x : ℕ) → Each (λ s. s < x) ts → next_free ts ≤ x
unfolding next_free
next_least [] x e = omega arith
next_least (t ∷ ts) x e = omega (arith, e 0 (omega arith), next_least ts x (each_tail (λ s. s < x) t ts e))

pub next_snoc : (ts : List ℕ) (t : ℕ) → Each (λ s. s < t) ts → next_free (ts ++ (t ∷ [])) ≡ suc t
unfolding next_free
next_snoc [] t e = omega arith
next_snoc (s ∷ ts) t e = omega (arith, e 0 (omega arith), next_snoc ts t (each_tail (λ s. s < t) s ts e))
