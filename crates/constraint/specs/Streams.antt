-- Streams: times rise strictly within a stream (§1.9; CR 6).
use Rattle.std.specs.Prelude.{ℕ, ◌+◌, ◌*◌, ◌-◌, ◌/◌, cond, ltb}
use Rattle.constraint.specs.Limits.{first_coloured}

-- §1.9; CR 6: the stream of a coloured kind and a colour. A plain kind is a stream by itself
abbrev pub stream : ℕ → ℕ → ℕ
stream kind colour = first_coloured + 8 * (kind - first_coloured) + colour

-- §1.9; CR 6: the kind of a stream's events
abbrev pub kind_of : ℕ → ℕ
kind_of s = cond (ltb s first_coloured) s (first_coloured + (s - first_coloured) / 8)
