-- The row's test of an event's kind is right: its five numbers are the constraint's kinds and, for those that it lacks, 64, which is no kind; and
-- an event is of one of the row's streams just where it is of one of its kinds.
use Rattle.row.proofs.Names.{Constraint, KindsSuit, Known, List, [], ◌++◌, ◌<◌, ◌||◌, ◌∙◌, ◌∷◌, ◌≡◌, ◌≤◌, among, among_kinds, among_where}
use Rattle.row.proofs.Names.{ap, arith, concerns, eqb, false, few_kinds, fields_of, kind_small, kind_of, kinds, kinds_are, kinds_small, length}
use Rattle.row.proofs.Names.{ne_eqb}
use Rattle.row.proofs.Names.{no_event, no_kind, refl, replicate, parameters_of, split, stream_count, streams, suc, take, true, zero, ℕ}
use Rattle.row.proofs.Exact.{OfStream, Sound}

-- the kinds that a row lacks are no event's
among_absent : (k n m : ℕ) → ¬ (k ≡ no_kind) → among k (take n (replicate m no_kind)) ≡ false
among_absent k zero m h = refl
among_absent k (suc n) zero h = refl
among_absent k (suc n) (suc m) h = rw (ne_eqb k no_kind h) (among_absent k n m h)

among_first : (k n m : ℕ) (ks : List ℕ) → ¬ (k ≡ no_kind) → length ks ≤ n → among k (take n (ks ++ replicate m no_kind)) ≡ among k ks
among_first k n m [] h few = among_absent k n m h
among_first k zero m (j ∷ ks) h few = absurd (omega arith)
among_first k (suc n) m (j ∷ ks) h few =
    split (eqb k j) (λ x. (x || among k (take n (ks ++ replicate m no_kind))) ≡ (x || among k ks)) (λ e. refl)
    (λ e. among_first k n m ks h (omega arith))

concerns_kind : (c : Constraint) → Known c → (k : ℕ) → ¬ (k ≡ no_kind) → concerns (parameters_of c) k ≡ among k (kinds c)
concerns_kind c known k h = ap (among k) (kinds_are c) ∙ among_first k 5 5 (kinds c) h (few_kinds known.0 c known.1)

pub concerns_stream : (c : Constraint) → Known c → (s : ℕ) → s < stream_count → concerns (parameters_of c) (kind_of s) ≡ among (kind_of s) (kinds c)
concerns_stream c known s h = concerns_kind c known (kind_of s) (λ e. omega (arith, kind_small s h))

pub concerns_own : (c : Constraint) → Sound c → (s : ℕ) → s < stream_count → concerns (parameters_of c) (kind_of s) ≡ among s (streams c)
unfolding KindsSuit
concerns_own c sound s h = concerns_stream c sound.known s h ∙ among_kinds s (fields_of c) sound.kinds_suit

pub among_own : (c : Constraint) (s : ℕ) → among s (streams c) ≡ true → OfStream c s
among_own c s e = among_where s (streams c) e

-- no event concerns the row, because no kind is that large
pub concerns_none : (c : Constraint) → Sound c → concerns (parameters_of c) no_event ≡ false
concerns_none c sound =
    rw (concerns_kind c sound.known no_event (λ e. omega arith))
    (split (among no_event (kinds c)) (λ x. x ≡ false)
    (λ e. let (i, h, is) = among_where no_event (kinds c) e in absurd (omega (arith, kinds_small (kinds c) sound.kinds_fit i h))) (λ e. refl))
