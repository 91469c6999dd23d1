-- A number and its n bytes say the same: each byte is the number's digit to base 256, so either gives back the other.
use Rattle.constraint.proofs.Library.{List, [], ◌%◌, ◌*◌, ◌+◌, ◌-◌, ◌/◌, ◌<◌, ◌^◌, ◌∙◌, ◌∷◌, ◌≡◌, ◌≤◌, add-mul, add-one, ap, ap₂, arith, drop-cons}
use Rattle.constraint.proofs.Library.{drop_of_length-le, le_trans, length, mod-eq_of_lt, mul_assoc, mul-le-mul_left, mul-le-mul_right, one-le-pow}
use Rattle.constraint.proofs.Library.{by_cases, dec_lt, drop, length-drop, min, sym, take, take_all}
use Rattle.constraint.proofs.Library.{one-mul, pow-le-pow_right, pow-succ', refl, suc, take-nil, zero, zero-add, ℕ}
use Rattle.constraint.specs.{Bytes.Bytes, Bytes.bytes_at, Bytes.bytes_of, Bytes.number, Bytes.number_behind, Steps.at}
use lib.Arith.{digits_div, digits_lt, mod-mul}

power_positive : (n : ℕ) → 0 < 256 ^ n
power_positive n = one-le-pow n 256 (omega arith)

pub bytes_length : (n x : ℕ) → length (bytes_of n x) ≡ n
unfolding bytes_of
bytes_length zero x = refl
bytes_length (suc n) x = ap suc (bytes_length n x)

bytes_rest : (byte : ℕ) (bytes : List ℕ) → Bytes (byte ∷ bytes) → Bytes bytes
unfolding Bytes
bytes_rest byte bytes h i k = h (suc i) (omega arith)

-- a digit moves up one place
place : (high byte power : ℕ) → (high * 256 + byte) * power ≡ high * (256 * power) + byte * power
place high byte power = add-mul (high * 256) byte power ∙ rw (mul_assoc high 256 power)

-- what stands before counts for its place
behind : (high : ℕ) (bytes : List ℕ) → number_behind high bytes ≡ high * 256 ^ length bytes + number bytes
unfolding number_behind
behind high [] = omega arith
behind high (byte ∷ bytes) =
    let power = 256 ^ length bytes in
    rw (pow-succ' 256 (length bytes), behind (high * 256 + byte) bytes, behind (0 + byte) bytes, zero-add byte) (omega (arith, place high byte power))

pub number_below : (bytes : List ℕ) → Bytes bytes → number bytes < 256 ^ length bytes
unfolding number_behind Bytes
number_below [] h = omega arith
number_below (byte ∷ bytes) h =
    rw (pow-succ' 256 (length bytes), behind (0 + byte) bytes, zero-add byte)
    (digits_lt (h 0 (omega arith)) (number_below bytes (bytes_rest byte bytes h)))

-- the number of the n bytes of x is x, where n bytes hold it
digits : (n high x : ℕ) → number_behind high (bytes_of n x) ≡ high * 256 ^ n + x % 256 ^ n
unfolding number_behind bytes_of
digits zero high x = omega arith
digits (suc n) high x =
    let power = 256 ^ n in
    rw (digits n (high * 256 + x / 256 ^ n % 256) x, pow-succ' 256 n, mod-mul x {m = 256} {c = 256 ^ n} (omega arith) (power_positive n))
    (omega (arith, place high (x / power % 256) power))

-- §4.1
pub number_of_bytes : (n x : ℕ) → x < 256 ^ n → number (bytes_of n x) ≡ x
number_of_bytes n x h = digits n 0 x ∙ rw (mod-eq_of_lt h) (omega arith)

-- §4.1: the bytes of the number of bytes are those bytes
pub bytes_of_number : (high : ℕ) (bytes : List ℕ) → Bytes bytes → bytes_of (length bytes) (number_behind high bytes) ≡ bytes
unfolding number_behind bytes_of Bytes
bytes_of_number high [] h = refl
bytes_of_number high (byte ∷ bytes) h =
    let later = bytes_rest byte bytes h in
    let first : number_behind (high * 256 + byte) bytes / 256 ^ length bytes % 256 ≡ byte =
    rw (behind (high * 256 + byte) bytes, digits_div (high * 256 + byte) (number_below bytes later)) (omega (arith, h 0 (omega arith))) in
    ap₂ (λ (b : ℕ) (l : List ℕ). b ∷ l) first (bytes_of_number (high * 256 + byte) bytes later)

-- Reading a byte more

-- what stands for `value` leaves room in eight bytes for `left` bytes more
abbrev pub Room : ℕ → ℕ → Type 0
Room value left = suc value * 256 ^ left ≤ 256 ^ 8

pub room_first : (width : ℕ) → width ≤ 8 → Room 0 width
room_first width h = rw one-mul (pow-le-pow_right (omega arith) h)

pub room_now : (value left : ℕ) → Room value left → 0 < left → suc value * 256 ≤ 256 ^ 8
room_now value zero room h = absurd (omega arith)
room_now value (suc left) room h =
    le_trans (mul-le-mul_left (suc value) (pow-le-pow_right {n = 256} (omega arith) {i = 1} {j = suc left} (omega arith))) room

pub room_next : (value left byte : ℕ) → Room value left → 0 < left → byte < 256 → Room (value * 256 + byte) (left - 1)
room_next value zero byte room h b = absurd (omega arith)
room_next value (suc left) byte room h b =
    let less : suc (value * 256 + byte) ≤ suc value * 256 = omega arith in
    let one_less : suc left - 1 ≡ left = omega arith in
    rw one_less (le_trans (mul-le-mul_right (256 ^ left) less) (rw (mul_assoc, ← pow-succ') room))

-- the first of the bytes left is read
pub number_more : (bytes : List ℕ) (value place left : ℕ) → place < length bytes → 0 < left
    → number_behind value (bytes_at left bytes place) ≡ number_behind (value * 256 + at bytes place) (bytes_at (left - 1) bytes (place + 1))
unfolding number_behind
number_more bytes value place zero there h = absurd (omega arith)
number_more bytes value place (suc left) there h =
    let one_less : suc left - 1 ≡ left = omega arith in
    rw (one_less, add-one place, drop-cons bytes place 0 there)

-- there is no byte left
pub number_end : (bytes : List ℕ) (value place left : ℕ) → length bytes ≤ place → number_behind value (bytes_at left bytes place) ≡ value
unfolding number_behind
number_end bytes value place left h = rw (drop_of_length-le bytes h, take-nil left)

-- what stands from a place on, where a part that ends with the list begins there or at its end
pub rest_is : (l : List ℕ) (start from : ℕ) → from ≡ min start (length l) → take (length l - from) (drop from l) ≡ drop start l
rest_is l start from e =
    take_all (length l - from) (drop from l) (rw length-drop (omega arith))
    ∙ by_cases (dec_lt (length l) start)
    (λ past. drop_of_length-le l (omega arith) ∙ sym (drop_of_length-le l (omega arith)))
    (λ within. ap (λ (i : ℕ). drop i l) (omega arith))
