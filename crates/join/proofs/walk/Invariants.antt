-- The version is stored, and then, turn by turn, what is left of the record that comes next.
use Rattle.join.proofs.Names.{HeadAt, List, Records, Step, ◌+◌, ◌-◌, ◌≡◌, ◌≤◌, length}
use Rattle.join.proofs.Names.{ℕ}
use Rattle.join.proofs.{Walking.Walking}
use Rattle.join.proofs.walk.Given as goal

-- the last place
abbrev last : ℕ
last = 18446744073709551615

abbrev pub invariant-loop-a : goal.invariant-loop-a
invariant-loop-a l =
    (l.part.size ≤ l.limit) × (length l.buffer ≡ length l.initial.buffer)
    × HeadAt l.first l.a.place l.a.head × HeadAt l.second l.b.place l.b.head
    × (l.a.place + l.a.head.size ≤ last)
    × (l.b.place + l.b.head.size ≤ last)
    × ((a b : List Step) → Records l.first 1 a → Records l.second 1 b
    → Walking l.first l.second l.initial.buffer l.limit l.a.place l.b.place l.part.clock l.part.size l.buffer a b)
    × (length l.first ≤ last) × (length l.second ≤ last)

abbrev pub decreases-loop-a : goal.decreases-loop-a
decreases-loop-a l =
    (length l.first - l.a.place) + (length l.second - l.b.place)
