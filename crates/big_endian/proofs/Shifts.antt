-- A shift by eight bits for each of n bytes divides by 256 ^ n, so it cuts a number where the definition cuts it.
use Rattle.constraint.proofs.Library.{List, [], ◌%◌, ◌*◌, ◌+◌, ◌-◌, ◌/◌, ◌<◌, ◌^◌, ◌∷◌, ◌≡◌, ◌≤◌, add-one, ap, arith, div-one, get_or, mod-eq_of_lt}
use Rattle.constraint.proofs.Library.{mul-suc, pow-suc, refl, set, sets, suc, zero, ℕ}
use Rattle.constraint.specs.Bytes.{bytes_of}
use lib.{Bits.bit_or, Bits.or_shifted, Pow.pow-add}

power_of_bytes : (n : ℕ) → 2 ^ (8 * n) ≡ 256 ^ n
power_of_bytes zero = refl
power_of_bytes (suc n) = rw (mul-suc 8 n, pow-add 2 (8 * n) 8, power_of_bytes n, pow-suc 256 n)

-- a shift down by n bytes
pub shifted_down : (n x : ℕ) → x / 2 ^ (8 * n) ≡ x / 256 ^ n
shifted_down n x = ap (λ (power : ℕ). x / power) (power_of_bytes n)

-- a byte behind a number that leaves room for it, by a shift up
pub shifted_up : (value byte : ℕ) → suc value * 256 ≤ 256 ^ 8 → byte < 256 → bit_or (value * 2 ^ 8 % 2 ^ 64) byte ≡ value * 256 + byte
shifted_up value byte room h =
    let fits : value * 256 < 2 ^ 64 = omega (arith, room) in
    rw (mod-eq_of_lt fits) (or_shifted value 8 byte h)

-- the first of the bytes left is cut out by a shift and stored
pub stores_shifted : (l : List ℕ) (next left x byte : ℕ) → 0 < left → byte ∷ [] ≡ bytes_of 1 (x / 2 ^ (8 * (left - 1)))
    → sets l next (bytes_of left x) ≡ sets (set l next byte) (next + 1) (bytes_of (left - 1) x)
unfolding bytes_of
stores_shifted l next zero x byte h cut = absurd (omega arith)
stores_shifted l next (suc left) x byte h cut =
    let one_less : suc left - 1 ≡ left = omega arith in
    rw (ap (λ (bytes : List ℕ). get_or bytes 0 0) cut, div-one, one_less, shifted_down left x, add-one next)
