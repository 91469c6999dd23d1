-- A host's calls on lent memory, one after the other, each known by its contract alone (§3.4, §11.2).
use Rattle.std.specs.Prelude.{ℕ, ◌<◌, ◌≡◌, List, [], ◌∷◌, map}
use Rattle.constraint.specs.Run.{Request}
use Rattle.constraint.specs.declared.Call.{Call}
use Rattle.in_place.specs.Layout.{Words}
use Rattle.in_place.specs.Contract.{Takes}

-- what a host lends to the calls
abbrev pub Memory : Type 0
Memory = Words

-- §3.4, §11.2: events, ticks, closes and withdrawals from the memory before to the memory after, and the numbers that they answer
pub data Host : Memory → List Request → List ℕ → Memory → Type 0 where
  over : {h : Memory} → Host h [] [] h
  asked : {h mid end : Memory} {requests : List Request} {numbers : List ℕ} (r : Request) (number : ℕ)
      → Takes h r number mid → Host mid requests numbers end → Host h (r ∷ requests) (number ∷ numbers) end

-- §9.2, §11.2: each of them that is refused leaves the memory as it was
abbrev pub Untouched : {h end : Memory} {requests : List Request} {numbers : List ℕ} → Host h requests numbers end → Type 0
Untouched over = Unit {0}
Untouched (asked {h = h} {mid = mid} r number takes rest) = (0 < number → mid ≡ h) × Untouched rest

-- §11.5: the numbers that answer to calls that are all taken
abbrev pub none_refused : List Call → List ℕ
none_refused calls = map (λ call. 0) calls
