-- The target answers every source that the loop has passed; once it has passed 64 it has passed every time of the ring, which repeats itself.
use Rattle.constraint.proofs.Library.{Bool, List, [], ◌%◌, ◌+◌, ◌<◌, ◌∙◌, ◌∷◌, ◌≡◌, ◌≤◌, ap, arith, by_cases, false, get_or, leb}
use Rattle.constraint.proofs.Library.{length, min, refl, suc, sym, true, zero, ℕ, ℕ_discrete}
use Rattle.delay_order.specs.Delay.{answered_by}
use Rattle.ring.proofs.{Laws.ring_length, Laws.ring_read, Laws.ring_round}
use Rattle.ring.specs.Ring.{ring, time_at}
use Rattle.delay_order.proofs.delay.answered.Goals as goal

module _ (lower t : ℕ) where
  -- the target answers each of the first n
  abbrev Passed : List ℕ → ℕ → Type 0
  Passed sources n = (i : ℕ) → i < n → leb (get_or sources i 0 + lower) t ≡ true

  stopped : (sources : List ℕ) (n : ℕ) → n < length sources → Passed sources n → leb (get_or sources n 0 + lower) t ≡ false
      → answered_by lower t sources ≡ n
  unfolding answered_by
  stopped [] n h passed e = absurd (omega arith)
  stopped (s ∷ sources) zero h passed e = rw e
  stopped (s ∷ sources) (suc n) h passed e =
      rw (passed 0 (omega arith)) (ap suc (stopped sources n (omega arith) (λ i k. passed (suc i) (omega arith)) e))

  all_passed : (sources : List ℕ) → Passed sources (length sources) → answered_by lower t sources ≡ length sources
  unfolding answered_by
  all_passed [] passed = refl
  all_passed (s ∷ sources) passed = rw (passed 0 (omega arith)) (ap suc (all_passed sources (λ i k. passed (suc i) (omega arith))))

module _ (lower t : ℕ) (times : List ℕ) (head len n : ℕ) (passed : (i : ℕ) → i < n → leb (time_at times head i + lower) t ≡ true) where
  -- s is the source at n, and r says whether the target answers it
  module _ (s : ℕ) (at : s ≡ time_at times head n) (r : Bool) (test : r ≡ leb (s + lower) t) where
    stops : n < len → r ≡ false → n ≡ answered_by lower t (ring times head len)
    stops here e =
        sym (stopped lower t (ring times head len) n (rw ring_length here) (λ i h. rw (← ring_read times head len i (omega arith)) (passed i h))
        (rw (← ring_read times head len n here, ← at) (sym test ∙ e)))

    one_more : r ≡ true → (i : ℕ) → i < n + 1 → leb (time_at times head i + lower) t ≡ true
    one_more e i h = by_cases (ℕ_discrete i n) (λ same. rw (same, ← at) (sym test ∙ e)) (λ other. passed i (omega arith))

  -- every source is one of those passed
  ends : min len 64 ≤ n → len ≡ answered_by lower t (ring times head len)
  ends over =
      sym (all_passed lower t (ring times head len)
      (λ i h. let here : i < len = rw ring_length at h in
      rw (← ring_read times head len i here, ring_round times head i) (passed (i % 64) (omega arith)))
      ∙ ring_length times head len)

pub returns-then-not-reaches : goal.returns-then-not-reaches
returns-then-not-reaches c =
    let s = c.at in let r = c.reaches in
    let a = c.args in
    stops a.lower a.t a.times.words.now a.times.head a.times.len _ c.loop-n.invariant _ s.ensures _ r.ensures (omega arith) c.if-not-reaches.true

pub loop-n-preserved : goal.loop-n-preserved
loop-n-preserved c =
    let s = c.at in let r = c.reaches in
    let a = c.args in
    one_more a.lower a.t a.times.words.now a.times.head a.times.len _ c.loop-n.invariant _ s.ensures _ r.ensures c.if-not-reaches.false

pub returns : goal.returns
returns c =
    let a = c.args in
    ends a.lower a.t a.times.words.now a.times.head a.times.len _ c.loop-n.invariant (omega arith)
