-- What is true of verdicts for every row type: a row that is open was open after every earlier step, so the step that broke it is the first after
-- which no continuation is left, and stays it.
use Rattle.constraint.proofs.Names.{BrokenAt, Constraint, List, Meets, Open, Step, [], ◌++◌, ◌+◌, ◌<◌, ◌∷◌, ◌≡◌, ◌≤◌, append-nil, arith}
use Rattle.constraint.proofs.Names.{by_cases, dec_lt, length, length-append, stop, subst, suc, sym, take, take_all, take-append-le, zero, ℕ}
use Rattle.constraint.proofs.{Continuations.open_before, History.Valid, History.valid_more, History.valid_none}

length_snoc : (steps : List Step) (s : Step) → length (steps ++ (s ∷ [])) ≡ length steps + 1
length_snoc steps s = length-append steps (s ∷ [])

-- the steps before the last
take_before : (steps : List Step) (s : Step) (k : ℕ) → k ≤ length steps → take k (steps ++ (s ∷ [])) ≡ take k steps
take_before steps s k h = take-append-le k steps (s ∷ []) h

-- all of them
take_whole : (steps : List Step) (s : Step) (k : ℕ) → length steps < k → take k (steps ++ (s ∷ [])) ≡ steps ++ (s ∷ [])
take_whole steps s k h = take_all k (steps ++ (s ∷ [])) (omega (arith, length_snoc steps s))

module _ (c : Constraint) where
  pub open_prefix : {steps : List Step} → Valid steps → Open c steps → (k : ℕ) → Open c (take k steps)
  open_prefix valid_none o zero = o
  open_prefix valid_none o (suc k) = o
  open_prefix (valid_more {steps = steps} s v a) o k =
      by_cases (dec_lt (length steps) k)
      (λ h. subst (Open c) (sym (take_whole steps s k h)) o)
      (λ h. subst (Open c) (sym (take_before steps s k (omega arith))) (open_prefix v (open_before c steps s a o) k))

  -- a row that no continuation is left for now, and one was left for before the last step
  pub broken_now : (steps : List Step) (s : Step) → Valid steps → Open c steps → ¬ Open c (steps ++ (s ∷ []))
      → BrokenAt c (steps ++ (s ∷ [])) (length steps + 1)
  broken_now steps s v o shut =
      record {
        counted = omega (arith, length_snoc steps s);
        before = λ k h. subst (Open c) (sym (take_before steps s k (omega arith))) (open_prefix v o k);
        after = λ p. shut (subst (Open c) (take_whole steps s (length steps + 1) (omega arith)) p);
      }

  -- broken stays broken, at the same step
  pub broken_later : (steps : List Step) (s : Step) (n : ℕ) → BrokenAt c steps n → BrokenAt c (steps ++ (s ∷ [])) n
  broken_later steps s n b =
      record {
        counted = omega (arith, length_snoc steps s, b.counted);
        before = λ k h. subst (Open c) (sym (take_before steps s k (omega (arith, b.counted)))) (b.before k h);
        after = λ p. b.after (subst (Open c) (take_before steps s n b.counted) p);
      }

  -- a broken row is not open, now or later
  pub broken_shut : {steps : List Step} (n : ℕ) → Valid steps → BrokenAt c steps n → ¬ Open c steps
  broken_shut n v b o = b.after (open_prefix v o n)

  -- §2.5: the step is one that was taken: every row is open before any step
  pub broken_once : (steps : List Step) (n m : ℕ) → BrokenAt c steps n → BrokenAt c steps m → n ≡ m
  broken_once steps n m p q =
      by_cases (dec_lt n m) (λ h. absurd (p.after (q.before n h)))
      (λ h. by_cases (dec_lt m n) (λ g. absurd (q.after (p.before m g))) (λ g. omega arith))

  -- after the close a row is open exactly when what was recorded meets its definition
  pub open_of_meets : (steps : List Step) → Meets c steps → Open c steps
  open_of_meets steps m = ([], stop, subst (Meets c) (sym (append-nil steps)) m)
