-- Kinds fit one by one: a list's kinds fit if its first is at most 63 and differs from the others, and the others fit.
use Rattle.constraint.proofs.Names.{Absent, KindsFit, List, [], ◌<◌, ◌∷◌, ◌≢◌, ◌≤◌, arith, at, last_kind, length, suc, zero, ℕ}

-- the first may stand before the others
abbrev pub FirstFits : ℕ → List ℕ → Type 0
FirstFits k ks = (k ≤ last_kind) × Absent k ks

absent_at : (k : ℕ) (ks : List ℕ) → Absent k ks → (j : ℕ) → j < length ks → k ≢ at ks j
absent_at k [] h j b = absurd (omega arith)
absent_at k (x ∷ ks) h zero b = h.0
absent_at k (x ∷ ks) h (suc j) b = absent_at k ks h.1 j (omega arith)

absent_of : (k : ℕ) (ks : List ℕ) → ((j : ℕ) → j < length ks → k ≢ at ks j) → Absent k ks
absent_of k [] h = tt
absent_of k (x ∷ ks) h = (h 0 (omega arith), absent_of k ks (λ j b. h (suc j) (omega arith)))

pub kinds_none : KindsFit []
unfolding KindsFit
kinds_none = (λ i h. absurd (omega arith), λ i j h k. absurd (omega arith))

pub kinds_more : (k : ℕ) (ks : List ℕ) → FirstFits k ks → KindsFit ks → KindsFit (k ∷ ks)
unfolding KindsFit
kinds_more k ks first fit = (low, apart)
  where
    low : (i : ℕ) → i < length (k ∷ ks) → at (k ∷ ks) i ≤ last_kind
    low zero h = first.0
    low (suc i) h = fit.0 i (omega arith)

    apart : (i j : ℕ) → i < j → j < length (k ∷ ks) → at (k ∷ ks) i ≢ at (k ∷ ks) j
    apart i zero h b = absurd (omega arith)
    apart zero (suc j) h b = absent_at k ks first.1 j (omega arith)
    apart (suc i) (suc j) h b = fit.1 i j (omega arith) (omega arith)

pub kinds_first : (k : ℕ) (ks : List ℕ) → KindsFit (k ∷ ks) → FirstFits k ks
unfolding KindsFit
kinds_first k ks fit = (fit.0 0 (omega arith), absent_of k ks (λ j b. fit.1 0 (suc j) (omega arith) (omega arith)))

pub kinds_rest : (k : ℕ) (ks : List ℕ) → KindsFit (k ∷ ks) → KindsFit ks
unfolding KindsFit
kinds_rest k ks fit = (λ i h. fit.0 (suc i) (omega arith), λ i j h b. fit.1 (suc i) (suc j) (omega arith) (omega arith))
