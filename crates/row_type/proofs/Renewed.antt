-- Where the oldest leave a ring for as many words, these are put behind it, and its length stays: the place behind it is the same before and after.
use Rattle.row_type.proofs.Names.{List, Push, PushTwo, ◌%◌, ◌+◌, ◌-◌, ◌<◌, ◌∙◌, ◌≡◌, ◌≤◌, ap, arith, edited, lt-ltb, place_is, push_ring}
use Rattle.row_type.proofs.Names.{refl, ring_of, ring_place, set, sym, ℕ}

-- from one place on to another, and from there further
mod_left : (m n : ℕ) → (m % 64 + n) % 64 ≡ (m + n) % 64
mod_left m n = omega arith

further : (head m n : ℕ) → ring_place (ring_place head m) n ≡ ring_place head (m + n)
further head m n =
    let sum : head + m + n ≡ head + (m + n) = omega arith in
    place_is (ring_place head m) n ∙ ap (λ (p : ℕ). (p + n) % 64) (place_is head m) ∙ mod_left (head + m) n ∙ ap (λ (k : ℕ). k % 64) sum
    ∙ sym (place_is head (m + n))

-- the end of a ring stays where it is
pub end_stays : (head len d : ℕ) → d ≤ len → ring_place (ring_place head d) (len - d) ≡ ring_place head len
end_stays head len d some = further head d (len - d) ∙ ap (λ (n : ℕ). ring_place head n) (omega arith)

pub one_renewed : (times : List ℕ) (head len t : ℕ) → 0 < len → len ≤ 64
    → edited (Push 1 t) (ring_of times head len) ≡ ring_of (set times (ring_place head len) t) (ring_place head 1) len
unfolding push_ring
one_renewed times head len t some few =
    let back : len - 1 + 1 ≡ len = omega arith in
    rw (lt-ltb (len - 1) 64 (omega arith), end_stays head len 1 some, back) refl

pub two_renewed : (times : List ℕ) (head len first second : ℕ) → 2 ≤ len → len ≤ 64
    → edited (PushTwo 2 first second) (ring_of times head len)
    ≡ ring_of (set (set times (ring_place head len) first) (ring_place (ring_place head len) 1) second) (ring_place head 2) len
unfolding push_ring
two_renewed times head len first second some few =
    let back : len - 2 + 1 + 1 ≡ len = omega arith in
    let behind : ring_place (ring_place head 2) (len - 2 + 1) ≡ ring_place (ring_place head len) 1 =
    further head 2 (len - 2 + 1) ∙ ap (λ (n : ℕ). ring_place head n) (omega arith) ∙ sym (further head len 1) in
    rw (lt-ltb (len - 2) 64 (omega arith), lt-ltb (len - 2 + 1) 64 (omega arith), end_stays head len 2 some, behind, back) refl
