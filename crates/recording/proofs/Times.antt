-- Eight bytes, each counted by its place, add up to their number.
use Rattle.constraint.proofs.Library.{List, ◌*◌, ◌+◌, ◌<◌, ◌∙◌, ◌≡◌, ◌≤◌, arith, drop-cons, length, suc, ℕ}
use Rattle.constraint.specs.{Bytes.bytes_at, Bytes.number_at, Bytes.number_behind, Steps.at}

-- the first of the bytes left
next : (bytes : List ℕ) (value place left after less : ℕ) → place < length bytes → left ≡ suc less → after ≡ suc place
    → number_behind value (bytes_at left bytes place) ≡ number_behind (value * 256 + at bytes place) (bytes_at less bytes after)
unfolding number_behind
next bytes value place left after less there one_less one_more = rw (one_less, one_more, drop-cons bytes place 0 there)

pub number_of_eight : (bytes : List ℕ) (start : ℕ) → start + 8 ≤ length bytes
    → number_at 8 bytes start ≡ at bytes (start + 7) * 1 + at bytes (start + 6) * 256 + at bytes (start + 5) * 65536
    + at bytes (start + 4) * 16777216 + at bytes (start + 3) * 4294967296 + at bytes (start + 2) * 1099511627776
    + at bytes (start + 1) * 281474976710656 + at bytes start * 72057594037927936
unfolding number_behind
number_of_eight bytes start there =
    next bytes _ start 8 (start + 1) 7 (omega arith) (omega arith) (omega arith)
    ∙ next bytes _ (start + 1) 7 (start + 2) 6 (omega arith) (omega arith) (omega arith)
    ∙ next bytes _ (start + 2) 6 (start + 3) 5 (omega arith) (omega arith) (omega arith)
    ∙ next bytes _ (start + 3) 5 (start + 4) 4 (omega arith) (omega arith) (omega arith)
    ∙ next bytes _ (start + 4) 4 (start + 5) 3 (omega arith) (omega arith) (omega arith)
    ∙ next bytes _ (start + 5) 3 (start + 6) 2 (omega arith) (omega arith) (omega arith)
    ∙ next bytes _ (start + 6) 2 (start + 7) 1 (omega arith) (omega arith) (omega arith)
    ∙ next bytes _ (start + 7) 1 (start + 8) 0 (omega arith) (omega arith) (omega arith)
    ∙ omega arith

pub number_of_two : (bytes : List ℕ) (start : ℕ) → start + 2 ≤ length bytes
    → number_at 2 bytes start ≡ at bytes (start + 1) * 1 + at bytes start * 256
unfolding number_behind
number_of_two bytes start there =
    next bytes _ start 2 (start + 1) 1 (omega arith) (omega arith) (omega arith)
    ∙ next bytes _ (start + 1) 1 (start + 2) 0 (omega arith) (omega arith) (omega arith)
    ∙ omega arith
