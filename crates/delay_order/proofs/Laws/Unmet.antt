-- The sources with no target in their interval, as a list: it is filtered source by source and target by target, and Delay is met just where
-- it is empty.
use Rattle.constraint.proofs.Library.{List, [], ◌++◌, ◌+◌, ◌<◌, ◌||◌, ◌∙◌, ◌∷◌, ◌≡◌, ◌≤◌, ◌⊎◌, and-eq-true_iff, ap, arith, cond, eq-eqb, eqb}
use Rattle.constraint.proofs.Library.{eqb-true, false≢true, inl, inr, le-leb, leb, leb-true, length, refl, suc, sym, true, true≢false, zero, ℕ}
use Rattle.constraint.proofs.Library.{⊎_elim}
use Rattle.constraint.proofs.Lists.{Each, Rising, each_cons, each_none, each_tail, or-true, split}
use Rattle.constraint.specs.{Limits.no_limit, Meets.Apart, Meets.MeetsDelay, Steps.at, Waiting.answered, Waiting.in_interval, Waiting.unanswered}

-- a target in the interval of the source at s
abbrev pub Answered : ℕ → ℕ → List ℕ → ℕ → Type 0
Answered lower upper targets s = (j : ℕ) × (j < length targets) × Apart lower upper s (at targets j)

-- the sources with no target in their interval
abbrev pub unmet : ℕ → ℕ → List ℕ → List ℕ → List ℕ
unmet lower upper [] targets = []
unmet lower upper (s ∷ sources) targets =
    cond (answered lower upper s targets) (unmet lower upper sources targets) (s ∷ unmet lower upper sources targets)

module _ (lower upper : ℕ) where
  -- the mark, or a target in time
  in_interval_lem : (s t : ℕ) → in_interval lower upper s t ≡ true → Apart lower upper s t
  in_interval_lem s t e =
      let h = (and-eq-true_iff (leb (s + lower) t) (eqb upper no_limit || leb t (s + upper))).0 e in (
        leb-true (s + lower) t h.0,
        ⊎_elim (λ f. inl (eqb-true upper no_limit f)) (λ f. inr (leb-true t (s + upper) f)) (or-true (eqb upper no_limit) (leb t (s + upper)) h.1),
      )

  pub interval_true : (s t : ℕ) → Apart lower upper s t → in_interval lower upper s t ≡ true
  interval_true s t b = rw (le-leb (s + lower) t b.0) (limit b.1)
    where
      limit : (upper ≡ no_limit) ⊎ (t ≤ s + upper) → (eqb upper no_limit || leb t (s + upper)) ≡ true
      limit (inl e) = rw (eq-eqb upper no_limit e)
      limit (inr h) = rw (le-leb t (s + upper) h) (mathlib.Core.Bool.or-true (eqb upper no_limit))

  pub answered_true : (s : ℕ) (targets : List ℕ) → answered lower upper s targets ≡ true → Answered lower upper targets s
  unfolding answered
  answered_true s [] e = absurd (false≢true e)
  answered_true s (t ∷ targets) e =
      split (in_interval lower upper s t) (λ x. (x || answered lower upper s targets) ≡ true → Answered lower upper (t ∷ targets) s)
      (λ f g. (0, omega arith, in_interval_lem s t f))
      (λ f g. let h = answered_true s targets g in (suc h.0, omega (arith, h.1), h.2)) e

  pub answered_by_lem : (s : ℕ) (targets : List ℕ) (j : ℕ) → j < length targets → Apart lower upper s (at targets j)
      → answered lower upper s targets ≡ true
  unfolding answered
  answered_by_lem s [] j h b = absurd (omega arith)
  answered_by_lem s (t ∷ targets) zero h b = rw (interval_true s t b)
  answered_by_lem s (t ∷ targets) (suc j) h b =
      rw (answered_by_lem s targets j (omega arith) b) (mathlib.Core.Bool.or-true (in_interval lower upper s t))

  answered_append : (s : ℕ) (targets more : List ℕ)
      → answered lower upper s (targets ++ more) ≡ (answered lower upper s targets || answered lower upper s more)
  unfolding answered
  answered_append s [] more = refl
  answered_append s (t ∷ targets) more =
      split (in_interval lower upper s t)
      (λ x. (x || answered lower upper s (targets ++ more)) ≡ ((x || answered lower upper s targets) || answered lower upper s more))
      (λ e. refl) (λ e. answered_append s targets more)

  pub unmet_sources : (sources more targets : List ℕ)
      → unmet lower upper (sources ++ more) targets ≡ unmet lower upper sources targets ++ unmet lower upper more targets
  unmet_sources [] more targets = refl
  unmet_sources (s ∷ sources) more targets =
      split (answered lower upper s targets)
      (λ x. cond x (unmet lower upper (sources ++ more) targets) (s ∷ unmet lower upper (sources ++ more) targets)
      ≡ cond x (unmet lower upper sources targets) (s ∷ unmet lower upper sources targets) ++ unmet lower upper more targets)
      (λ e. unmet_sources sources more targets) (λ e. ap (λ (l : List ℕ). s ∷ l) (unmet_sources sources more targets))

  pub unmet_targets : (sources targets more : List ℕ)
      → unmet lower upper sources (targets ++ more) ≡ unmet lower upper (unmet lower upper sources targets) more
  unmet_targets [] targets more = refl
  unmet_targets (s ∷ sources) targets more =
      rw (answered_append s targets more, unmet_targets sources targets more)
      (split (answered lower upper s targets)
      (λ x. cond (x || answered lower upper s more) (unmet lower upper (unmet lower upper sources targets) more)
      (s ∷ unmet lower upper (unmet lower upper sources targets) more)
      ≡ unmet lower upper (cond x (unmet lower upper sources targets) (s ∷ unmet lower upper sources targets)) more)
      (λ e. refl) (λ e. refl))

  unmet_each : (P : ℕ → Type 0) (sources targets : List ℕ) → Each P sources → Each P (unmet lower upper sources targets)
  unmet_each P [] targets e = e
  unmet_each P (s ∷ sources) targets e =
      split (answered lower upper s targets) (λ x. Each P (cond x (unmet lower upper sources targets) (s ∷ unmet lower upper sources targets)))
      (λ f. unmet_each P sources targets (each_tail P s sources e))
      (λ f. each_cons P s (unmet lower upper sources targets) (e 0 (omega arith)) (unmet_each P sources targets (each_tail P s sources e)))

  pub unmet_rising : (sources targets : List ℕ) → Rising sources → Rising (unmet lower upper sources targets)
  unmet_rising [] targets r = r
  unmet_rising (s ∷ sources) targets r =
      split (answered lower upper s targets) (λ x. Rising (cond x (unmet lower upper sources targets) (s ∷ unmet lower upper sources targets)))
      (λ f. unmet_rising sources targets r.1)
      (λ f. (unmet_each (λ x. s < x) sources targets r.0, unmet_rising sources targets r.1))

  pub unmet_unanswered : (sources targets : List ℕ) → Each (λ s. ¬ Answered lower upper targets s) (unmet lower upper sources targets)
  unmet_unanswered [] targets = each_none (λ s. ¬ Answered lower upper targets s)
  unmet_unanswered (s ∷ sources) targets =
      split (answered lower upper s targets)
      (λ x. Each (λ s. ¬ Answered lower upper targets s) (cond x (unmet lower upper sources targets) (s ∷ unmet lower upper sources targets)))
      (λ e. unmet_unanswered sources targets)
      (λ e. each_cons (λ s. ¬ Answered lower upper targets s) s (unmet lower upper sources targets)
      (λ a. true≢false (sym (answered_by_lem s targets a.0 a.1 a.2) ∙ e)) (unmet_unanswered sources targets))

  pub unmet_count : (sources targets : List ℕ) → unanswered lower upper sources targets ≡ length (unmet lower upper sources targets)
  unfolding unanswered
  unmet_count [] targets = refl
  unmet_count (s ∷ sources) targets =
      split (answered lower upper s targets)
      (λ x. cond x 0 1 + unanswered lower upper sources targets ≡ length
      (cond x (unmet lower upper sources targets) (s ∷ unmet lower upper sources targets)))
      (λ e. omega (arith, unmet_count sources targets)) (λ e. omega (arith, unmet_count sources targets))

  -- the definition is true just where there is none
  pub meets_unmet : (sources targets : List ℕ) → MeetsDelay lower upper sources targets → unmet lower upper sources targets ≡ []
  unfolding MeetsDelay
  meets_unmet [] targets m = refl
  meets_unmet (s ∷ sources) targets m =
      let h = m 0 (omega arith) in
      rw (answered_by_lem s targets h.0 h.1 h.2) (meets_unmet sources targets (each_tail (Answered lower upper targets) s sources m))

  pub unmet_meets : (sources targets : List ℕ) → unmet lower upper sources targets ≡ [] → MeetsDelay lower upper sources targets
  unfolding MeetsDelay
  unmet_meets [] targets e = each_none (Answered lower upper targets)
  unmet_meets (s ∷ sources) targets e =
      split (answered lower upper s targets)
      (λ x. cond x (unmet lower upper sources targets) (s ∷ unmet lower upper sources targets) ≡ [] → Each (Answered lower upper targets)
      (s ∷ sources))
      (λ f g. each_cons (Answered lower upper targets) s sources (answered_true s targets f) (unmet_meets sources targets g))
      (λ f g. absurd (let z : ◌≡◌ {A = ℕ} 0 1 = cc in omega arith)) e
