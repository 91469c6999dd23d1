-- Groups of times by place: the i-th group has the i-th time of each column. One more time goes to the first group that its column lacks, and
-- the oldest group leaves when no column lacks it, so first times are enough to say which times still fit.
use Rattle.constraint.proofs.Library.{List, [], ◌++◌, ◌+◌, ◌-◌, ◌<◌, ◌∙◌, ◌∷◌, ◌≡◌, ◌≤◌, ◌⊎◌, ap, arith, by_cases, dec_lt, drop, get_or-drop, inl}
use Rattle.constraint.proofs.Library.{inr}
use Rattle.constraint.proofs.Library.{length, length-append, length-drop, refl, suc, sym, zero, ℕ, ℕ_discrete, ⊎_elim}
use Rattle.constraint.proofs.Lists.{Each, Rising, at_left, at_next, rising_at}
use Rattle.constraint.specs.Steps.{at}

-- n columns whose first `done` groups are complete; the groups begun after these have the first times `firsts`, and all times of a group are
-- within tolerance of one another
pub record Groups (n tolerance done : ℕ) (column : ℕ → List ℕ) (firsts : List ℕ) : Type 0 where
  pub complete : (j : ℕ) → j < n → done ≤ length (column j)
  pub begun : (j : ℕ) → j < n → length (column j) ≤ done + length firsts
  pub first : (i : ℕ) → i < length firsts → (j : ℕ) × (j < n) × (done + i < length (column j)) × (at (column j) (done + i) ≡ at firsts i)
  pub after : (j i : ℕ) → j < n → done + i < length (column j) → at firsts i ≤ at (column j) (done + i)
  pub spread : (j k i : ℕ) → j < n → k < n → i < length (column j) → i < length (column k) → at (column j) i ≤ at (column k) i + tolerance

-- some column lacks the oldest group
abbrev pub Behind : ℕ → ℕ → (ℕ → List ℕ) → Type 0
Behind n done column = (j : ℕ) × (j < n) × (length (column j) ≡ done)

-- the k-th column has one more time, t
pub record Added (n k t : ℕ) (column longer : ℕ → List ℕ) : Type 0 where
  pub own : longer k ≡ column k ++ (t ∷ [])
  pub other : (j : ℕ) → j < n → ¬ (j ≡ k) → longer j ≡ column j

-- ---- Start

pub groups_none : (n tolerance : ℕ) (column : ℕ → List ℕ) → ((j : ℕ) → length (column j) ≡ 0) → Groups n tolerance 0 column []
groups_none n tolerance column none =
    record {
      complete = λ j h. omega arith;
      begun = λ j h. omega (arith, none j);
      first = λ i h. absurd (omega arith);
      after = λ j i h l. absurd (omega (arith, none j));
      spread = λ j k i h g l m. absurd (omega (arith, none j));
    }

-- ---- Events

module _ {n k t : ℕ} {column longer : ℕ → List ℕ} (added : Added n k t column longer) where
  pub longer_own : length (longer k) ≡ suc (length (column k))
  longer_own = rw added.own (omega (arith, length-append (column k) (t ∷ [])))

  -- a time of the longer columns is an old one or the new one
  longer_cases : (j i : ℕ) → j < n → i < length (longer j)
      → ((i < length (column j)) × (at (longer j) i ≡ at (column j) i)) ⊎ ((j ≡ k) × (i ≡ length (column k)) × (at (longer j) i ≡ t))
  longer_cases j i h l =
      by_cases (ℕ_discrete j k)
      (λ e. let own : longer j ≡ column j ++ (t ∷ []) = rw e added.own in
      by_cases (dec_lt i (length (column j)))
      (λ old. inl (old, rw own (at_left (column j) (t ∷ []) i old)))
      (λ new. let last : i ≡ length (column j) = omega (arith, ap length own, length-append (column j) (t ∷ [])) in
      inr (e, last ∙ rw e, rw own (at_next (column j) t [] i last))))
      (λ e. let same : longer j ≡ column j = added.other j h e in inl (rw same at l, rw same))

  -- an old time keeps its place
  pub longer_old : (j i : ℕ) → j < n → i < length (column j) → (i < length (longer j)) × (at (longer j) i ≡ at (column j) i)
  longer_old j i h l =
      by_cases (ℕ_discrete j k)
      (λ e. let own : longer j ≡ column j ++ (t ∷ []) = rw e added.own in
      (omega (arith, ap length own, length-append (column j) (t ∷ [])), rw own (at_left (column j) (t ∷ []) i l)))
      (λ e. let same : longer j ≡ column j = added.other j h e in (rw same l, rw same))

  -- a column's length stays, or it is the k-th and has one more
  longer_length : (j : ℕ) → j < n → (length (longer j) ≡ length (column j)) ⊎ ((j ≡ k) × (length (longer j) ≡ suc (length (column j))))
  longer_length j h = by_cases (ℕ_discrete j k) (λ e. inr (e, rw e longer_own)) (λ e. inl (ap length (added.other j h e)))

module _ {n tolerance done : ℕ} {column : ℕ → List ℕ} {firsts : List ℕ} (groups : Groups n tolerance done column firsts)
    (rising : (j : ℕ) → Rising (column j)) where
  -- a time of an earlier group is before the last moment of a later one
  pub groups_before : (j i m : ℕ) → j < n → i < length (column j) → i < done + m → m < length firsts → at (column j) i < at firsts m + tolerance
  groups_before j i m h l earlier begun =
      let (p, in_range, there, is-first) = groups.first m begun in
      omega (arith, groups.spread j p i h in_range l (omega arith), rising_at (column p) (rising p) i (done + m) earlier there)

  -- the oldest group began first
  pub oldest_first : (m : ℕ) → m < length firsts → at firsts 0 ≤ at firsts m
  oldest_first zero h = omega arith
  oldest_first (suc m) h =
      let (p, in_range, there, is-first) = groups.first (suc m) h in
      omega (arith, groups.after p 0 in_range (omega arith), rising_at (column p) (rising p) (done + 0) (done + suc m) (omega arith) there)

module _ {n tolerance done k t : ℕ} {column longer : ℕ → List ℕ} {firsts : List ℕ} (groups : Groups n tolerance done column firsts)
    (rising : (j : ℕ) → Rising (column j)) (past : (j : ℕ) → Each (λ s. s ≤ t) (column j)) (own : k < n) (added : Added n k t column longer) where
  -- a time that joins a group or begins the next one, not before its first time and not too late for those that the group has
  groups_longer : (newer : List ℕ) → ((i : ℕ) → i < length firsts → at newer i ≡ at firsts i) → length firsts ≤ length newer
      → length (column k) < done + length newer
      → ((i : ℕ) → length firsts ≤ i → i < length newer → (done + i ≡ length (column k)) × (at newer i ≡ t))
      → ((i : ℕ) → done + i ≡ length (column k) → at newer i ≤ t)
      → ((j : ℕ) → j < n → length (column k) < length (column j) → t ≤ at (column j) (length (column k)) + tolerance)
      → Groups n tolerance done longer newer
  groups_longer newer kept more fits begins not_before not_late =
      record {
        complete = λ j h. ⊎_elim (λ e. omega (arith, groups.complete j h)) (λ e. omega (arith, groups.complete j h)) (longer_length added j h);
        begun = λ j h. ⊎_elim (λ e. omega (arith, groups.begun j h)) (λ (e, grown). omega (arith, ap (λ (x : ℕ). length (column x)) e))
            (longer_length added j h);
        first = λ i h. by_cases (dec_lt i (length firsts))
            (λ old. let (p, in_range, there, is-first) = groups.first i old in
            let (stays, same) = longer_old added p (done + i) in_range there in
            (p, in_range, stays, same ∙ is-first ∙ sym (kept i old)))
            (λ new. let (last, is-new) = begins i (omega arith) h in
            (k, own, omega (arith, longer_own added), rw added.own (at_next (column k) t [] (done + i) last) ∙ sym is-new));
        after = λ j i h l. ⊎_elim
            (λ (old, same). omega (arith, groups.after j i h old, kept i (omega (arith, groups.begun j h))))
            (λ (e, last, is-new). omega (arith, not_before i last)) (longer_cases added j (done + i) h l);
        spread = λ j x i h g l m. ⊎_elim
            (λ (old, same). ⊎_elim
            (λ (old', same'). omega (arith, groups.spread j x i h g old old'))
            (λ (e, last, is-new). omega (arith, past j i old))
            (longer_cases added x i g m))
            (λ (e, last, is-new). ⊎_elim
            (λ (old, same). let late : t ≤ at (column x) (length (column k)) + tolerance = not_late x g (omega arith) in omega
            (arith, rw (← last) at late))
            (λ (e', last', is-new'). omega arith)
            (longer_cases added x i g m))
            (longer_cases added j i h l);
      }

  pub groups_joined : length (column k) < done + length firsts → t ≤ at firsts 0 + tolerance → Groups n tolerance done longer firsts
  groups_joined fits in_time =
      groups_longer firsts (λ i h. refl) (omega arith) fits (λ i h g. absurd (omega arith))
      (λ i e. let (p, in_range, there, is-first) = groups.first i (omega arith) in omega (arith, past p (done + i) there))
      (λ j h l. let i : ℕ = length (column k) - done in
      let e : done + i ≡ length (column k) = omega (arith, groups.complete k own) in
      omega (arith, oldest_first groups rising i (omega arith), rw e at (groups.after j i h (omega arith))))

  pub groups_begun : length (column k) ≡ done + length firsts → Groups n tolerance done longer (firsts ++ (t ∷ []))
  groups_begun e =
      groups_longer (firsts ++ (t ∷ [])) (λ i h. at_left firsts (t ∷ []) i h) (omega (arith, length-append firsts (t ∷ [])))
      (omega (arith, length-append firsts (t ∷ [])))
      (λ i h g. let last : i ≡ length firsts = omega (arith, length-append firsts (t ∷ [])) in (omega arith, at_next firsts t [] i last))
      (λ i h. omega (arith, at_next firsts t [] i (omega arith)))
      (λ j h l. absurd (omega (arith, groups.begun j h)))

-- the oldest group leaves when no column lacks it
pub groups_left : {n tolerance done : ℕ} {column : ℕ → List ℕ} {firsts : List ℕ} → Groups n tolerance done column firsts
    → ((j : ℕ) → j < n → done < length (column j))
    → Groups n tolerance (suc done) column (drop 1 firsts)
groups_left {n} {tolerance} {done} {column} {firsts} groups full =
    record {
      complete = full;
      begun = λ j h. omega (arith, groups.begun j h, length-drop 1 firsts);
      first = λ i h. let (p, in_range, there, is-first) = groups.first (suc i) (omega (arith, length-drop 1 firsts)) in
          (p, in_range, omega arith, rw (← moved i) (is-first ∙ sym (shifted i)));
      after = λ j i h l. rw (← moved i, shifted i) (groups.after j (suc i) h (omega arith));
      spread = groups.spread;
    }
  where
    moved : (i : ℕ) → done + suc i ≡ suc done + i
    moved i = omega arith

    shifted : (i : ℕ) → at (drop 1 firsts) i ≡ at firsts (suc i)
    shifted i = get_or-drop 1 firsts i 0 ∙ ap (at firsts) (omega arith)
