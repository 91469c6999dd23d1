-- The oldest event in no full window is enough beside the last time of each kind, since a window that is full at t holds every event that is
-- still in none, and one that is not full holds nothing new.
use Rattle.constraint.proofs.Library.{◌+◌, ◌-◌, ◌<◌, ◌≡◌, ◌≤◌, ◌⊎◌, arith, by_cases, dec_lt, inl, inr, suc, ℕ}
use Rattle.constraint.specs.Meets.{Covered}

-- B has the events of A, and one more of the k-th kind at t; those of A are not after it
pub record OneMore (A B : ℕ → ℕ → Type 0) (n k t : ℕ) : Type 0 where
  pub old : (j s : ℕ) → j < n → A j s → B j s
  pub new : B k t
  pub other : (j s : ℕ) → j < n → B j s → A j s ⊎ (s ≡ t)
  pub past : (j s : ℕ) → j < n → A j s → s ≤ t

-- `next j` is one more than the last time of the j-th kind, 0 where it has none
pub record Lasts (Event : ℕ → ℕ → Type 0) (n : ℕ) (next : ℕ → ℕ) : Type 0 where
  pub above : (j s : ℕ) → j < n → Event j s → s < next j
  pub reached : (j s : ℕ) → j < n → next j ≡ suc s → Event j s

-- every event lies in a full window, or every event before u does
abbrev pub Settled : (ℕ → ℕ → Type 0) → ℕ → ℕ → Type 0
Settled Event n tolerance = (j s : ℕ) → j < n → Event j s → Covered Event n tolerance s

abbrev pub SettledBefore : (ℕ → ℕ → Type 0) → ℕ → ℕ → ℕ → Type 0
SettledBefore Event n tolerance u = (j s : ℕ) → j < n → Event j s → s < u → Covered Event n tolerance s

-- u is the oldest event in no full window
pub record Owing (Event : ℕ → ℕ → Type 0) (n tolerance u : ℕ) : Type 0 where
  pub kind : ℕ
  pub of_row : kind < n
  pub there : Event kind u
  pub uncovered : ¬ Covered Event n tolerance u
  pub earlier : SettledBefore Event n tolerance u

-- ---- other events

-- more events cover no less
covered_more : (A B : ℕ → ℕ → Type 0) (n tolerance e : ℕ) → ((j s : ℕ) → j < n → A j s → B j s) → Covered A n tolerance e → Covered B n tolerance e
covered_more A B n tolerance e more (x, within, full) = (x, within, λ j h. let (s, there, near) = full j h in (s, more j s h there, near))

-- a window that ends before every new event was full before
covered_before : (A B : ℕ → ℕ → Type 0) (n tolerance t e : ℕ) → ((j s : ℕ) → j < n → B j s → s < t → A j s) → (c : Covered B n tolerance e)
    → c.0 + tolerance < t → Covered A n tolerance e
covered_before A B n tolerance t e old (x, within, full) ends =
    (x, within, λ j h. let (s, there, near) = full j h in (s, old j s h there (omega arith), near))

-- the same events
module _ (A B : ℕ → ℕ → Type 0) (n tolerance : ℕ) (to : (j s : ℕ) → j < n → A j s → B j s) (from : (j s : ℕ) → j < n → B j s → A j s) where
  pub settled_same : Settled A n tolerance → Settled B n tolerance
  settled_same settled j s h there = covered_more A B n tolerance s to (settled j s h (from j s h there))

  pub owing_same : (u : ℕ) → Owing A n tolerance u → Owing B n tolerance u
  owing_same u owing =
      record {
        kind = owing.kind;
        of_row = owing.of_row;
        there = to owing.kind u owing.of_row owing.there;
        uncovered = λ c. owing.uncovered (covered_more B A n tolerance u from c);
        earlier = λ j s h there before. covered_more A B n tolerance s to (owing.earlier j s h (from j s h there) before);
      }

-- ---- Events

module _ {A B : ℕ → ℕ → Type 0} {n k t : ℕ} (more : OneMore A B n k t) (tolerance : ℕ) where
  pub all_past : (j s : ℕ) → j < n → B j s → s ≤ t
  all_past j s h there = by_part (more.other j s h there)
    where
      by_part : A j s ⊎ (s ≡ t) → s ≤ t
      by_part (inl old) = more.past j s h old
      by_part (inr e) = omega arith

  old_before : (j s : ℕ) → j < n → B j s → s < t → A j s
  old_before j s h there before = by_part (more.other j s h there)
    where
      by_part : A j s ⊎ (s ≡ t) → A j s
      by_part (inl old) = old
      by_part (inr e) = absurd (omega arith)

  pub earlier_after : (u : ℕ) → u ≤ t → SettledBefore A n tolerance u → SettledBefore B n tolerance u
  earlier_after u past earlier j s h there before =
      covered_more A B n tolerance s more.old (earlier j s h (old_before j s h there (omega arith)) before)

  module _ (next : ℕ → ℕ) (lasts : Lasts B n next) where
    -- every kind has an event at most tolerance before t
    abbrev pub FullNow : Type 0
    FullNow = (j : ℕ) → j < n → (0 < next j) × (t < next j + tolerance)

    -- the j-th kind has none
    abbrev pub Lacking : ℕ → Type 0
    Lacking j = 0 < next j → next j + tolerance ≤ t

    -- full: every event at most tolerance before t is covered
    full_covers : FullNow → (e : ℕ) → t ≤ e + tolerance → e ≤ t → Covered B n tolerance e
    full_covers full e near early = (
      t - tolerance,
      (omega arith, omega arith),
      λ j h.
          let (some, late) = full j h in
          let last : B j (next j - 1) = lasts.reached j (next j - 1) h (omega arith) in
          (next j - 1, last, (omega arith, omega (arith, all_past j (next j - 1) h last))),
    )

    -- not full: what is covered was covered before, and is earlier than t
    lacking_covers : (j : ℕ) → j < n → Lacking j → (e : ℕ) → Covered B n tolerance e → Covered A n tolerance e × (e < t)
    lacking_covers j h lacks e (x, within, full) =
        let (s, there, near) = full j h in
        let ends : x + tolerance < t = omega (arith, lasts.above j s h there, lacks (omega (arith, lasts.above j s h there))) in
        (covered_before A B n tolerance t e old_before (x, within, full) ends, omega arith)

    pub settled_on : FullNow → Settled A n tolerance → Settled B n tolerance
    settled_on full settled j s h there = by_part (more.other j s h there)
      where
        by_part : A j s ⊎ (s ≡ t) → Covered B n tolerance s
        by_part (inl old) = covered_more A B n tolerance s more.old (settled j s h old)
        by_part (inr e) = full_covers full s (omega arith) (omega arith)

    pub owing_ends : FullNow → (u : ℕ) → t ≤ u + tolerance → Owing A n tolerance u → Settled B n tolerance
    owing_ends full u in_time owing j s h there =
        by_cases (dec_lt s u)
        (λ before. earlier_after u (more.past owing.kind u owing.of_row owing.there) owing.earlier j s h there before)
        (λ not_before. full_covers full s (omega arith) (all_past j s h there))

    pub owing_begins : (j : ℕ) → j < n → Lacking j → k < n → Settled A n tolerance → Owing B n tolerance t
    owing_begins j h lacks own settled =
        record {
          kind = k;
          of_row = own;
          there = more.new;
          uncovered = λ c. omega (arith, (lacking_covers j h lacks t c).1);
          earlier = earlier_after t (omega arith) (λ i s l there before. settled i s l there);
        }

    pub owing_stays : (j : ℕ) → j < n → Lacking j → (u : ℕ) → Owing A n tolerance u → Owing B n tolerance u
    owing_stays j h lacks u owing =
        record {
          kind = owing.kind;
          of_row = owing.of_row;
          there = more.old owing.kind u owing.of_row owing.there;
          uncovered = λ c. owing.uncovered (lacking_covers j h lacks u c).0;
          earlier = earlier_after u (more.past owing.kind u owing.of_row owing.there) owing.earlier;
        }

-- ---- Ticks

-- once the clock is past u + tolerance nothing covers u
pub owing_late : (A B : ℕ → ℕ → Type 0) (n tolerance t u : ℕ) → ((j s : ℕ) → j < n → B j s → s < t → A j s) → Owing A n tolerance u
    → u + tolerance < t → ¬ Covered B n tolerance u
owing_late A B n tolerance t u old owing passed (x, within, full) =
    owing.uncovered (covered_before A B n tolerance t u old (x, within, full) (omega arith))

-- ---- Open

-- where every kind has an event now, the window from the oldest event in none is full
pub all_now : (Event : ℕ → ℕ → Type 0) (n tolerance now u : ℕ) → ((j : ℕ) → j < n → Event j now) → ((j s : ℕ) → j < n → Event j s → s ≤ now)
    → SettledBefore Event n tolerance u → u ≤ now → now ≤ u + tolerance → Settled Event n tolerance
all_now Event n tolerance now u has past earlier begun in_time j s h there =
    by_cases (dec_lt s u) (λ before. earlier j s h there before)
    (λ not_before. (u, (omega arith, omega (arith, past j s h there)), λ i l. (now, has i l, (omega arith, in_time))))
