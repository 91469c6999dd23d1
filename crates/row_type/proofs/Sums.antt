-- Sums that form deadlines are exact: the largest is a point at the last time with an upper and a jitter, three times the last time, which is below
-- the
-- mark (§1.1). So a sum saturates only where the mark itself is added.
use Rattle.row_type.proofs.Names.{◌*◌, ◌+◌, ◌<◌, ◌≡◌, ◌≤◌, arith, last_time, no_limit, plus, ℕ}

-- §1.10
abbrev pub largest_sum : ℕ
largest_sum = 3 * last_time

-- §1.10
pub largest_below_mark : largest_sum < no_limit
largest_below_mark = omega arith

-- §1.10: a time and a bound; a point, an upper and a jitter; the time after one
pub sum_exact : (t bound : ℕ) → t ≤ last_time → bound ≤ last_time → plus t bound ≡ t + bound
sum_exact t bound h k = omega arith

-- §1.10
pub point_sum_exact : (point upper jitter : ℕ) → point ≤ last_time → upper ≤ last_time → jitter ≤ last_time
    → (plus (plus point upper) jitter ≡ point + upper + jitter) × (point + upper + jitter ≤ largest_sum)
point_sum_exact point upper jitter h k l = (omega arith, omega arith)
