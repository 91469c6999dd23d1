-- The oldest of the times that a row keeps, and the due time that it gives: by cases on the list.
use Rattle.row_type.proofs.Names.{Each, List, Rising, [], ◌++◌, ◌+◌, ◌<◌, ◌∷◌, ◌≡◌, ◌≤◌, arith, at, drop, due_oldest, due_or, each_cons}
use Rattle.row_type.proofs.Names.{each_none, eq-eqb, eqb, false, front, last_time, length, ne_eqb, none_left}
use Rattle.row_type.proofs.Names.{plus, refl, ring, ring_length, suc, sym, zero, ℕ}

-- ---- the oldest time

pub front_at : (times : List ℕ) → front times ≡ at times 0
front_at [] = refl
front_at (t ∷ times) = refl

-- none is left where the length says so
pub none_left_length : (times : List ℕ) (n : ℕ) → length times ≡ n → eqb n 0 ≡ none_left times
none_left_length [] n e = eq-eqb n 0 (sym e)
none_left_length (t ∷ times) n e = ne_eqb n 0 (λ z. omega arith)

pub none_left_ring : (l : List ℕ) (f n : ℕ) → none_left (ring l f n) ≡ eqb n 0
none_left_ring l f n = sym (none_left_length (ring l f n) n (ring_length l f n))

pub none_left_pushed : (times : List ℕ) (t : ℕ) → none_left (times ++ (t ∷ [])) ≡ false
none_left_pushed [] t = refl
none_left_pushed (s ∷ times) t = refl

-- ---- the due time that it gives

pub due_or_pushed : (upper t : ℕ) (times : List ℕ) → due_or (plus t upper) upper times ≡ due_oldest upper (times ++ (t ∷ []))
due_or_pushed upper t [] = refl
due_or_pushed upper t (s ∷ times) = refl

-- the times rise, so a clock that is not past it is past that of none
pub due_each : (upper t : ℕ) (times : List ℕ) → Rising times → t ≤ due_oldest upper times → Each (λ s. t ≤ s + upper) times
due_each upper t [] rise h = each_none (λ s. t ≤ s + upper)
due_each upper t (s ∷ times) rise h = each_cons (λ s. t ≤ s + upper) s times (omega arith) (λ i k. omega (arith, rise.0 i k))

-- it is past that of the oldest just where it is past it
pub due_within : (upper t : ℕ) (times : List ℕ) → t ≤ due_oldest upper times → 0 < length times → t ≤ at times 0 + upper
due_within upper t [] h some = absurd (omega arith)
due_within upper t (s ∷ times) h some = omega arith

pub due_reached : (upper t : ℕ) (times : List ℕ) → t ≤ last_time → (0 < length times → t ≤ at times 0 + upper) → t ≤ due_oldest upper times
due_reached upper t [] small h = omega arith
due_reached upper t (s ∷ times) small h = omega (arith, h (omega arith))

pub due_passed : (upper t : ℕ) (times : List ℕ) → t ≤ last_time → due_oldest upper times < t → (0 < length times) × (at times 0 + upper < t)
due_passed upper t [] small h = absurd (omega arith)
due_passed upper t (s ∷ times) small h = (omega arith, omega arith)

-- it stays so where t is pushed, and where some are dropped
pub due_pushed : (upper t : ℕ) (times : List ℕ) → t ≤ last_time → t ≤ due_oldest upper times → t ≤ due_oldest upper (times ++ (t ∷ []))
due_pushed upper t [] small h = omega arith
due_pushed upper t (s ∷ times) small h = h

due_tail : (upper t s : ℕ) (times : List ℕ) → t ≤ last_time → Each (λ x. s < x) times → t ≤ plus s upper → t ≤ due_oldest upper times
due_tail upper t s [] small later h = omega arith
due_tail upper t s (x ∷ times) small later h = omega (arith, later 0 (omega arith))

pub due_dropped : (upper t n : ℕ) (times : List ℕ) → t ≤ last_time → Rising times → t ≤ due_oldest upper times → t ≤ due_oldest upper (drop n times)
due_dropped upper t zero times small rise h = h
due_dropped upper t (suc n) [] small rise h = h
due_dropped upper t (suc n) (s ∷ times) small rise h = due_dropped upper t n times small rise.1 (due_tail upper t s times small rise.0 h)
