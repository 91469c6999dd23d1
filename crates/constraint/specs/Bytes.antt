-- Numbers as bytes (§4.1; 01, table).
use Rattle.std.specs.Prelude.{ℕ, zero, suc, ◌+◌, ◌*◌, ◌/◌, ◌%◌, ◌^◌, ◌<◌, List, [], ◌∷◌, length, take, drop}
use Rattle.constraint.specs.Steps.{at}

-- §4.1; 01, table: every number in the list is a byte
unfoldable pub Bytes : List ℕ → Type 0
Bytes list = (i : ℕ) → i < length list → at list i < 256

-- §4.1; 01, table: the big-endian number in the bytes, if the bytes before them stand for `high`
unfoldable pub number_behind : ℕ → List ℕ → ℕ
number_behind high [] = high
number_behind high (byte ∷ bytes) = number_behind (high * 256 + byte) bytes

-- §4.1; 01, table: the big-endian number in the bytes
abbrev pub number : List ℕ → ℕ
number bytes = number_behind 0 bytes

-- §4.1; 01, table: a number in n bytes, the most significant byte first
unfoldable pub bytes_of : ℕ → ℕ → List ℕ
bytes_of zero x = []
bytes_of (suc n) x = x / 256 ^ n % 256 ∷ bytes_of n x

-- §4.3; 01, table: n bytes of a list, from a place on
abbrev pub bytes_at : ℕ → List ℕ → ℕ → List ℕ
bytes_at n list place = take n (drop place list)

-- §4.3; 01, table: the number in n bytes of a list, from a place on
abbrev pub number_at : ℕ → List ℕ → ℕ → ℕ
number_at n list place = number (bytes_at n list place)
