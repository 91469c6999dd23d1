-- Rows of several kinds: the kinds are small and differ, and what holds of the kind at each place holds of each of them.
use Rattle.row_type.proofs.Names.{Constraint, Each, KindsFit, List, ◌<◌, ◌∙◌, ◌≡◌, ◌≤◌, ap, arith, at, by_cases, dec_lt, last_kind, length}
use Rattle.row_type.proofs.Names.{stream_count, streams, subst, sym, ℕ}
use Rattle.row_type.proofs.Exact.{OfStream}

pub kinds_small : (ks : List ℕ) → KindsFit ks → Each (λ k. k ≤ last_kind) ks
unfolding KindsFit
kinds_small ks fit = fit.0

pub kinds_stream : (ks : List ℕ) → KindsFit ks → Each (λ k. k < stream_count) ks
kinds_stream ks fit i h = omega (arith, kinds_small ks fit i h)

pub kinds_apart : (ks : List ℕ) → KindsFit ks → (i j : ℕ) → i < length ks → j < length ks → ¬ (i ≡ j) → ¬ (at ks i ≡ at ks j)
unfolding KindsFit
kinds_apart ks fit i j h g apart e = by_cases (dec_lt i j) (λ l. fit.1 i j l g e) (λ l. fit.1 j i (omega arith) h (sym e))

-- what holds of each stream by its place holds of a stream of the row
pub by_place : (c : Constraint) (ss : List ℕ) → streams c ≡ ss → (P : ℕ → Type 0) → ((i : ℕ) → i < length ss → P (at ss i)) → {s : ℕ}
    → OfStream c s → P s
by_place c ss are P each (i, h, e) = subst P (ap (λ (l : List ℕ). at l i) (sym are) ∙ e) (each i (subst (λ (l : List ℕ). i < length l) are h))
