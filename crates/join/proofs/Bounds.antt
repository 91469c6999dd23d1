-- A joined recording is never longer than both recordings together: each record keeps its bytes or is dropped.
use Rattle.std.specs.Prelude.{Option, Some, None, is_some}
use Rattle.join.proofs.Names.{List, Records, Step, [], ◌+◌, ◌-◌, ◌≤◌, ◌≡◌, ◌∷◌, ap, arith, body_at, call_bytes, call_of, cond}
use Rattle.join.proofs.Names.{bytes_of, eqb, eqb-true, is_dropped, joined_bytes, leb, length, length-append, length-take-le, length_at}
use Rattle.join.proofs.Names.{Bool, OutgrowsIn, Walks, both, false, not, sym, true}
use Rattle.join.proofs.Names.{Call, at, call_at, colour_in, number_at, step_for}
use Rattle.join.proofs.Names.{merged, more, none, split, step_bytes, steps_bytes, drop, length-drop, time_of, undropped, ℕ}

-- how many bytes steps have
abbrev size : List Step → ℕ
size steps = length (steps_bytes steps)

size_more : (s : Step) (steps : List Step) → size (s ∷ steps) ≡ length (step_bytes s) + size steps
unfolding steps_bytes
size_more s steps = length-append (step_bytes s) (steps_bytes steps)

-- ---- a record

call_size : (version : ℕ) (body : List ℕ) → 8 ≤ length body → length (call_bytes (call_of version body)) ≤ 2 + length body
unfolding bytes_of
call_size version body long =
    split (eqb (length body) 9) (λ x. length (call_bytes (cond x plain (cond (eqb (length body) 10) coloured ticked))) ≤ 2 + length body)
    (λ e. omega (arith, eqb-true (length body) 9 e))
    (λ e. split (eqb (length body) 10) (λ x. length (call_bytes (cond x coloured ticked)) ≤ 2 + length body)
    (λ e. omega (arith, eqb-true (length body) 10 e)) (λ e. omega (arith, long)))
  where
    plain : Call
    plain = Call.Event (at body 0) (number_at 8 body 1)

    coloured : Call
    coloured = Call.ColouredEvent (at body 0) (colour_in version (at body 1)) (number_at 8 body 2)

    ticked : Call
    ticked = Call.Tick (number_at 8 body 0)

-- the records from a place on have at most the bytes from there on
records_size : (bytes : List ℕ) {place : ℕ} {steps : List Step} → Records bytes place steps → size steps ≤ length bytes - place
unfolding steps_bytes
records_size bytes (none end) = omega arith
records_size bytes {place} (more {rest = rest} there whole same soon records) =
    let n = length_at bytes place in
    let body : length (body_at bytes place) ≡ n =
    length-take-le n (drop (place + 2) bytes) (omega (arith, whole.0.0, whole.0.1, length-drop (place + 2) bytes)) in
    omega (
      arith,
      size_more (step_for (call_at bytes place)) rest,
      ap length same,
      call_size (at bytes 0) (body_at bytes place) (omega (arith, body, whole.1)),
      body,
      whole.0.1,
      records_size bytes records,
    )

-- ---- both

merged_size : (first second : List Step) → size (merged first second) ≡ size first + size second
unfolding merged steps_bytes
merged_size [] second = omega arith
merged_size (a ∷ first) [] = omega arith
merged_size (a ∷ first) (b ∷ second) =
    split (leb (time_of a) (time_of b))
    (λ x. size (cond x (a ∷ merged first (b ∷ second)) (b ∷ merged (a ∷ first) second)) ≡ size (a ∷ first) + size (b ∷ second))
    (λ e. omega (arith, size_more a (merged first (b ∷ second)), size_more a first, merged_size first (b ∷ second)))
    (λ e. omega (arith, size_more b (merged (a ∷ first) second), size_more b second, merged_size (a ∷ first) second))

undropped_size : (now : ℕ) (steps : List Step) → size (undropped now steps) ≤ size steps
unfolding undropped steps_bytes
undropped_size now [] = omega arith
undropped_size now (s ∷ steps) =
    split (is_dropped now s) (λ x. size (cond x (undropped now steps) (s ∷ undropped (time_of s) steps)) ≤ size (s ∷ steps))
    (λ e. omega (arith, size_more s steps, undropped_size now steps))
    (λ e. omega (arith, size_more s steps, size_more s (undropped (time_of s) steps), undropped_size (time_of s) steps))

pub joined_size : (one two : List ℕ) (first second : List Step) → Records one 1 first → Records two 1 second
    → length (joined_bytes one two first second) ≤ 1 + (length one - 1) + (length two - 1)
joined_size one two first second records others =
    omega (arith, undropped_size 0 (merged first second), merged_size first second, records_size one records, records_size two others)

-- what the walk measures says whether the joined recording is longer than the limit
pub measured_decides : (one two before : List ℕ) (limit : ℕ) (r : Option ℕ) (after : List ℕ) → Walks one two before limit r after
    → (long : Bool) → is_some r ≡ not long → OutgrowsIn one two limit long
measured_decides one two before limit (Some found) after walks true e = both e
measured_decides one two before limit (Some found) after walks false e = λ first second records others h.
    let measured = walks first second records others in omega (arith, measured.0, measured.1, h)
measured_decides one two before limit None after walks true e = walks
measured_decides one two before limit None after walks false e = both (sym e)
