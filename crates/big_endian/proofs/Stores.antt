-- Stores one after the other: a list of bytes is stored as its parts are, and nothing is stored past the end.
use Rattle.constraint.proofs.Library.{List, [], ◌++◌, ◌+◌, ◌∙◌, ◌∷◌, ◌≡◌, ◌≤◌, add-suc, add-zero, arith, drop}
use Rattle.constraint.proofs.Library.{◌-◌, ap, append_assoc, by_cases, dec_lt, drop-drop, length, length-set, length-take-le, min, sym, take}
use Rattle.constraint.proofs.Library.{take-nil, zero}
use Rattle.constraint.proofs.Library.{refl, set, set_out, sets, sets-eq, suc, suc-add, zero-add, ℕ}

pub stores_past : (l : List ℕ) (i : ℕ) (vs : List ℕ) → length l ≤ i → sets l i vs ≡ l
stores_past l i [] h = refl
stores_past l i (v ∷ vs) h = rw (set_out l i v h) (stores_past l (suc i) vs (omega arith))

pub stores_append : (l : List ℕ) (i : ℕ) (vs ws : List ℕ) → sets l i (vs ++ ws) ≡ sets (sets l i vs) (i + length vs) ws
stores_append l i [] ws = rw add-zero
stores_append l i (v ∷ vs) ws = rw (add-suc, ← suc-add) (stores_append (set l i v) (suc i) vs ws)

-- stores at the front leave what stands behind them
pub stores_front : (l vs : List ℕ) → length vs ≤ length l → sets l 0 vs ≡ vs ++ drop (length vs) l
stores_front l vs h = sets-eq vs l 0 (omega arith) ∙ rw zero-add

-- what would go past the end is not stored
stores_fit : (l : List ℕ) (i : ℕ) (vs : List ℕ) (n : ℕ) → n ≡ min (length vs) (length l - i) → sets l i (take n vs) ≡ sets l i vs
stores_fit l i [] n e = rw take-nil
stores_fit l i (v ∷ vs) zero e = sym (stores_past l i (v ∷ vs) (omega arith))
stores_fit l i (v ∷ vs) (suc n) e = stores_fit (set l i v) (suc i) vs n (rw length-set (omega arith))

stores_inside : (l : List ℕ) (i : ℕ) (vs : List ℕ) (n : ℕ) → i ≤ length l → n ≡ min (length vs) (length l - i)
    → take i l ++ (take n vs ++ drop n (drop i l)) ≡ sets l i vs
stores_inside l i vs n inside e =
    let many : length (take n vs) ≡ n = length-take-le n vs (omega arith) in
    let fits : i + length (take n vs) ≤ length l = rw many (omega arith) in
    rw (drop-drop, ← append_assoc)
    (sym (sets-eq (take n vs) l i fits ∙ ap (λ (k : ℕ). take i l ++ take n vs ++ drop (i + k) l) many) ∙ stores_fit l i vs n e)

-- so it is where a part of the list is copied to
pub stores_part : (l : List ℕ) (place : ℕ) (vs : List ℕ) (from n : ℕ) → from ≡ min place (length l) → n ≡ min (length vs) (length l - from)
    → take from l ++ (take n vs ++ drop n (drop from l)) ≡ sets l place vs
stores_part l place vs from n start e =
    stores_inside l from vs n (omega arith) e
    ∙ by_cases (dec_lt (length l) place) (λ past. stores_past l from vs (omega arith) ∙ sym (stores_past l place vs (omega arith)))
    (λ within. ap (λ (i : ℕ). sets l i vs) (omega arith))
