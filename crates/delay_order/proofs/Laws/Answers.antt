-- Targets that answer waiting sources: each comes as early as it may, and is in time since the sources rise as fast as the targets have to.
use Rattle.constraint.proofs.Library.{List, [], ◌++◌, ◌+◌, ◌<◌, ◌∷◌, ◌≡◌, ◌≤◌, ap, arith, length, max, refl, suc, zero, ℕ}
use Rattle.constraint.proofs.{Counting.next_above, Counting.next_free, Lists.Each, Lists.Rising, Lists.each_cons, Lists.each_none}
use Rattle.constraint.proofs.{Lists.rising_append}
use Rattle.constraint.specs.{Meets.Between, Steps.at}

-- a target for each source, none before `start`
abbrev pub answers : ℕ → ℕ → List ℕ → List ℕ
answers lower start [] = []
answers lower start (s ∷ sources) = max (s + lower) start ∷ answers lower (suc (max (s + lower) start)) sources

pub answers_count : (lower start : ℕ) (sources : List ℕ) → length (answers lower start sources) ≡ length sources
answers_count lower start [] = refl
answers_count lower start (s ∷ sources) = ap suc (answers_count lower (suc (max (s + lower) start)) sources)

answers_late : (lower start : ℕ) (sources : List ℕ) → Each (λ t. start ≤ t) (answers lower start sources)
answers_late lower start [] = each_none (λ t. start ≤ t)
answers_late lower start (s ∷ sources) =
    each_cons (λ t. start ≤ t) (max (s + lower) start) (answers lower (suc (max (s + lower) start)) sources) (omega arith)
    (λ i h. omega (arith, answers_late lower (suc (max (s + lower) start)) sources i h))

answers_rising : (lower start : ℕ) (sources : List ℕ) → Rising (answers lower start sources)
answers_rising lower start [] = tt
answers_rising lower start (s ∷ sources) =
    (answers_late lower (suc (max (s + lower) start)) sources, answers_rising lower (suc (max (s + lower) start)) sources)

pub answers_between : (lower upper start : ℕ) (sources : List ℕ) → lower ≤ upper → Rising sources → Each (λ s. start ≤ s + upper) sources
    → (i : ℕ) → i < length sources → Between lower upper (at sources i) (at (answers lower start sources) i)
answers_between lower upper start [] sound rise in_time i h = absurd (omega arith)
answers_between lower upper start (s ∷ sources) sound rise in_time zero h = (omega arith, omega (arith, in_time 0 (omega arith)))
answers_between lower upper start (s ∷ sources) sound rise in_time (suc i) h =
    answers_between lower upper (suc (max (s + lower) start)) sources sound rise.1 (λ j k. omega (arith, rise.0 j k, in_time 0 (omega arith))) i
    (omega arith)

-- the first place for a further target, and that targets from there on may follow
abbrev pub first_free : ℕ → List ℕ → ℕ
first_free now targets = max now (next_free targets)

pub answers_follow : (lower now : ℕ) (targets sources : List ℕ) → Rising targets → Rising (targets ++ answers lower (first_free now targets) sources)
answers_follow lower now targets sources rise =
    rising_append targets (answers lower (first_free now targets) sources) rise (answers_rising lower (first_free now targets) sources)
    (λ i h j k. omega (arith, next_above targets i h, answers_late lower (first_free now targets) sources j k))

pub answers_from_now : (lower now : ℕ) (targets sources : List ℕ) → Each (λ t. now ≤ t) (answers lower (first_free now targets) sources)
answers_from_now lower now targets sources i h = omega (arith, answers_late lower (first_free now targets) sources i h)
