-- Arbitrary: an event adds, for each span, one pair so many places apart, and the machine still has the earlier time of each among its last eight;
-- the due time is the least of those that the Repeats have.
use Rattle.constraint.proofs.Library.{Bool, List, [], ◌%◌, ◌++◌, ◌+◌, ◌-◌, ◌<◌, ◌↔◌, ◌∙◌, ◌∷◌, ◌≡◌, ◌≤◌, ◌⊎◌, ap, ap₂, arith, by_cases, cond, dec_lt}
use Rattle.constraint.proofs.Library.{eqb, eqb-false, eqb-true, false, get_or-set_other, get_or-set_same, inr, leb, length, length-append, length-set}
use Rattle.constraint.proofs.Library.{min, ne_eqb, refl, set, set-get_or, subst, suc, sym, true, zero, ℕ, ⊎_elim}
use Rattle.constraint.proofs.Lists.{Each, Rising, at_left, at_next, rising_at, rising_left, split}
use Rattle.constraint.specs.{Limits.last_time, Limits.no_limit, Limits.waiting_limit, Meets.MeetsRepeat, Meets.SpansApart, Steps.at}
use Rattle.row_type.proofs.Spans.{apart_more, apart_new}
use Rattle.row_type.proofs.Tests.{Tells, fails, holds, tells_and, tells_leb, tells_or, tells_same}
use Rattle.row_type.proofs.{OneKind.ByTurn, OneKind.Follows}
use Rattle.row_type.specs.Parts.{breaking, continues_with, far_enough, no_registers, plus, registers_of}
use Rattle.row_type.specs.{declared.Registers.Registers}
use Rattle.ring.specs.Ring.{changed}
use Rattle.repeat_burst.proofs.Laws.Repeat.{repeat_first}
use Rattle.constraint.specs.Meets.{MeetsArbitrary}
use Rattle.repeat_burst.specs.Arbitrary.{decide_arbitrary, due_after, due_times, late_enough, newest_at, newest_or, next_place, note_time, time_after}

-- ---- one Repeat at a clock

-- where its events are so far apart, it is met until upper after the oldest event without one span places after it
pub repeat_clock : (span lower upper : ℕ) (events : List ℕ) → 1 ≤ span → Rising events → SpansApart span lower upper events → (now : ℕ)
    → now ≤ last_time → 0 < length events → MeetsRepeat span lower upper events now ↔ (now ≤ plus (at events (length events - span)) upper)
unfolding MeetsRepeat
repeat_clock span lower upper events some rises spans now small there = (
  λ m. ⊎_elim (λ e. omega arith) (λ h. omega arith) (m.1 (length events - span) (omega arith) (omega arith)),
  λ soon. (
    spans,
    λ i h end. inr (by_cases (dec_lt (length events - span) i)
        (λ l. omega (arith, rising_at events rises (length events - span) i l h))
        (λ l. let e : length events - span ≡ i = omega arith in omega (arith, ap (at events) e))),
  ),
)

-- before the first event it is met
pub repeat_empty : (span lower upper : ℕ) (events : List ℕ) (now : ℕ) → length events ≡ 0 → MeetsRepeat span lower upper events now
unfolding MeetsRepeat SpansApart
repeat_empty span lower upper events now e = (λ i h. absurd (omega arith), λ i h end. absurd (omega arith))

-- ---- the last eight times

pub record Recent (base : ℕ) (events : List ℕ) (next : ℕ) (words : List ℕ) : Type 0 where
  pub size : length words ≡ base + 8
  pub next_is : next ≡ length events % 8
  pub newest : (j : ℕ) → j < length events → length events ≤ j + 8 → at words (base + j % 8) ≡ at events j + 1
  pub unused : (j : ℕ) → length events ≤ j → j < 8 → at words (base + j) ≡ 0

module _ (base : ℕ) (events : List ℕ) (next : ℕ) (words : List ℕ) (recent : Recent base events next words) where
  newest_some : (i : ℕ) → 1 ≤ i → i ≤ 8 → i ≤ length events → newest_at base next words i ≡ at events (length events - i) + 1
  newest_some i some few there =
      let place : base + (next % 8 + 8 - i) % 8 ≡ base + (length events - i) % 8 = omega (arith, recent.next_is) in
      ap (at words) place ∙ recent.newest (length events - i) (omega arith) (omega arith)

  newest_none : (i : ℕ) → i ≤ 8 → length events < i → newest_at base next words i ≡ 0
  newest_none i few none =
      let place : base + (next % 8 + 8 - i) % 8 ≡ base + (length events + 8 - i) = omega (arith, recent.next_is) in
      ap (at words) place ∙ recent.unused (length events + 8 - i) (omega arith) (omega arith)

  oldest_is : 0 < length events → length events ≤ 8 → at words base ≡ at events 0 + 1
  oldest_is some few =
      let place : base ≡ base + 0 % 8 = omega arith in
      ap (at words) place ∙ recent.newest 0 some (omega arith)

  -- the i-th newest time, or the oldest
  newest_or_lem : (i : ℕ) → 1 ≤ i → i ≤ 8 → 0 < length events → newest_or base next words i ≡ at events (length events - i)
  newest_or_lem i some few there =
      split (eqb (newest_at base next words i) 0)
      (λ x. cond x (at words base) (newest_at base next words i) - 1 ≡ at events (length events - i))
      (λ e. by_cases (dec_lt (length events) i)
      (λ none. let place : 0 ≡ length events - i = omega arith in omega (arith, oldest_is there (omega arith), ap (at events) place))
      (λ more. absurd (omega (arith, eqb-true (newest_at base next words i) 0 e, newest_some i some few (omega arith)))))
      (λ e. by_cases (dec_lt (length events) i)
      (λ none. absurd (eqb-false (newest_at base next words i) 0 e (newest_none i few none)))
      (λ more. omega (arith, newest_some i some few (omega arith))))

-- one time more
module _ (base : ℕ) (events : List ℕ) (next : ℕ) (words : List ℕ) (recent : Recent base events next words) (t : ℕ) (small : t ≤ last_time) where
  longer : length (events ++ (t ∷ [])) ≡ length events + 1
  longer = length-append events (t ∷ [])

  pub noted : changed (note_time base next words t) words ≡ set words (base + next % 8) (t + 1)
  noted =
      let same : plus t 1 ≡ t + 1 = omega arith in
      let kept : at words (base + next % 8 + 1) ≡ at (set words (base + next % 8) (t + 1)) (base + next % 8 + 1) =
      sym (get_or-set_other words (base + next % 8) (base + next % 8 + 1) (t + 1) 0 (λ e. omega arith)) in
      ap (λ v. set (set words (base + next % 8) v) (base + next % 8 + 1) (at words (base + next % 8 + 1))) same
      ∙ ap (set (set words (base + next % 8) (t + 1)) (base + next % 8 + 1)) kept
      ∙ set-get_or (set words (base + next % 8) (t + 1)) (base + next % 8 + 1) 0

  recent_set : Recent base (events ++ (t ∷ [])) (next_place next) (set words (base + next % 8) (t + 1))
  recent_set =
      record {
        size = length-set words (base + next % 8) (t + 1) ∙ recent.size;
        next_is = omega (arith, longer, recent.next_is);
        newest = λ j h few. by_cases (dec_lt j (length events))
            (λ old. get_or-set_other words (base + next % 8) (base + j % 8) (t + 1) 0 (λ e. omega (arith, longer, recent.next_is))
            ∙ recent.newest j old (omega (arith, longer)) ∙ ap (λ x. x + 1) (sym (at_left events (t ∷ []) j old)))
            (λ end. let place : base + j % 8 ≡ base + next % 8 = omega (arith, longer, recent.next_is) in
            ap (at (set words (base + next % 8) (t + 1))) place
            ∙ get_or-set_same words (base + next % 8) (t + 1) 0 (omega (arith, recent.size, recent.next_is))
            ∙ ap (λ x. x + 1) (sym (at_next events t [] j (omega (arith, longer)))));
        unused = λ j from few. get_or-set_other words (base + next % 8) (base + j) (t + 1) 0 (λ e. omega (arith, longer, recent.next_is))
            ∙ recent.unused j (omega (arith, longer)) few;
      }

  pub recent_more : Recent base (events ++ (t ∷ [])) (next_place next) (changed (note_time base next words t) words)
  recent_more = subst (Recent base (events ++ (t ∷ [])) (next_place next)) (sym noted) recent_set

  -- the times then, by those before
  time_after_lem : (i : ℕ) → i < 8 → time_after base next words t i ≡ at (events ++ (t ∷ [])) (length events - i)
  time_after_lem i few =
      split (eqb i 0) (λ x. cond x t (cond (eqb w 0) (cond (eqb o 0) t (o - 1)) (w - 1)) ≡ at (events ++ (t ∷ [])) (length events - i))
      (λ e. sym (at_next events t [] (length events - i) (omega (arith, eqb-true i 0 e))))
      (λ e. split (eqb w 0) (λ x. cond x (cond (eqb o 0) t (o - 1)) (w - 1) ≡ at (events ++ (t ∷ [])) (length events - i))
      (λ none. by_cases (dec_lt (length events) i) (λ fewer. oldest fewer)
      (λ more. absurd (omega (arith, eqb-true w 0 none, newest_some base events next words recent i (positive e) (omega arith) (omega arith)))))
      (λ some. by_cases (dec_lt (length events) i)
      (λ fewer. absurd (eqb-false w 0 some (newest_none base events next words recent i (omega arith) fewer)))
      (λ more. let p = positive e in omega (
        arith,
        newest_some base events next words recent i (positive e) (omega arith) (omega arith),
        at_left events (t ∷ []) (length events - i) (omega arith),
      ))))
    where
      w : ℕ
      w = newest_at base next words i

      o : ℕ
      o = at words base

      positive : eqb i 0 ≡ false → 1 ≤ i
      positive e = let other : ¬ (i ≡ 0) = eqb-false i 0 e in omega arith

      oldest : length events < i → cond (eqb (at words base) 0) t (at words base - 1) ≡ at (events ++ (t ∷ [])) (length events - i)
      oldest fewer =
          split (eqb (at words base) 0) (λ x. cond x t (at words base - 1) ≡ at (events ++ (t ∷ [])) (length events - i))
          (λ e. by_cases (dec_lt 0 (length events))
          (λ there. absurd (omega (arith, eqb-true (at words base) 0 e, oldest_is base events next words recent there (omega arith))))
          (λ empty. sym (at_next events t [] (length events - i) (omega arith))))
          (λ e. by_cases (dec_lt 0 (length events))
          (λ there. let place : 0 ≡ length events - i = omega arith in
          omega (
            arith,
            oldest_is base events next words recent there (omega arith),
            at_left events (t ∷ []) 0 there,
            ap (at (events ++ (t ∷ []))) place,
          ))
          (λ empty. let place : base ≡ base + 0 = omega arith in
          absurd (eqb-false (at words base) 0 e (ap (at words) place ∙ recent.unused 0 (omega arith) (omega arith)))))

  -- so the due time that the machine computes is that of the words with the event
  pub due_after_lem : (n : ℕ) (upper : ℕ → ℕ) → n ≤ 8
      → due_after n upper base next words t ≡ due_times n upper base (next_place next) (changed (note_time base next words t) words)
  unfolding due_after due_times
  due_after_lem zero upper few = refl
  due_after_lem (suc n) upper few =
      let place : length (events ++ (t ∷ [])) - (n + 1) ≡ length events - n = omega (arith, longer) in
      let same : time_after base next words t n ≡ newest_or base (next_place next) (changed (note_time base next words t) words) (n + 1) =
      time_after_lem n (omega arith) ∙ ap (at (events ++ (t ∷ []))) (sym place)
      ∙ sym (newest_or_lem base (events ++ (t ∷ [])) (next_place next) (changed (note_time base next words t) words) recent_more (n + 1) (omega arith)
      (omega arith) (omega (arith, longer))) in
      ap₂ (λ x y. min x (plus y (upper n))) (due_after_lem n upper (omega arith)) same

-- ---- the least of the due times

module _ (upper : ℕ → ℕ) (base next : ℕ) (words : List ℕ) (t : ℕ) where
  -- t is not past the due time that the i-th pair gives
  abbrev InTime : ℕ → Type 0
  InTime i = t ≤ plus (newest_or base next words (i + 1)) (upper i)

  due_to : (n : ℕ) → t ≤ due_times n upper base next words → (i : ℕ) → i < n → InTime i
  unfolding due_times
  due_to zero h i l = absurd (omega arith)
  due_to (suc n) h i l =
      by_cases (dec_lt i n) (λ b. due_to n (omega arith) i b) (λ b. let e : n ≡ i = omega arith in subst InTime e (omega arith))

  due_from : (n : ℕ) → t ≤ no_limit → ((i : ℕ) → i < n → InTime i) → t ≤ due_times n upper base next words
  unfolding due_times
  due_from zero small each = small
  due_from (suc n) small each = omega (arith, due_from n small (λ i l. each i (omega arith)), each n (omega arith))

-- pairs with the same maxima give the same
pub due_same : (n : ℕ) (f g : ℕ → ℕ) (base next : ℕ) (words : List ℕ) (t : ℕ) → ((i : ℕ) → i < n → f i ≡ g i)
    → due_after n f base next words t ≡ due_after n g base next words t
unfolding due_after
due_same zero f g base next words t same = refl
due_same (suc n) f g base next words t same =
    rw (due_same n f g base next words t (λ i l. same i (omega arith)), same n (omega arith))

pub late_same : (n : ℕ) (f g : ℕ → ℕ) (base next : ℕ) (words : List ℕ) (t : ℕ) → ((i : ℕ) → i < n → f i ≡ g i)
    → late_enough n f base next words t ≡ late_enough n g base next words t
unfolding late_enough
late_same zero f g base next words t same = refl
late_same (suc n) f g base next words t same =
    rw (late_same n f g base next words t (λ i l. same i (omega arith)), same n (omega arith))

-- ---- the row

module _ (minima maxima : List ℕ) (base : ℕ) where
  abbrev n : ℕ
  n = length minima

  -- each span's events are so far apart
  abbrev pub MeetsSpans : ℕ → List ℕ → Type 0
  MeetsSpans k events = (i : ℕ) → i < k → SpansApart (i + 1) (at minima i) (at maxima i) events

  pub record KeepsArbitrary (events : List ℕ) (registers : Registers) (words : List ℕ) : Type 0 where
    pub spans : MeetsSpans n events
    pub recent : Recent base events registers.first words

  -- nothing is due before the first event
  abbrev pub due_arbitrary : Registers → List ℕ → ℕ
  due_arbitrary registers words = cond (eqb (at words base) 0) no_limit (due_times n (at maxima) base registers.first words)

  -- ---- Start

  pub record Blank (words : List ℕ) : Type 0 where
    pub size : length words ≡ base + 8
    pub empty : (j : ℕ) → j < 8 → at words (base + j) ≡ 0

  pub arbitrary_none : (words : List ℕ) → Blank words → KeepsArbitrary [] no_registers words
  unfolding SpansApart
  arbitrary_none words blank =
      record {
        spans = λ i l j h. absurd (omega arith);
        recent = record {
          size = blank.size;
          next_is = refl;
          newest = λ j h few. absurd (omega arith);
          unused = λ j from few. blank.empty j few;
        };
      }

  pub due_before : (words : List ℕ) → Blank words → no_limit ≡ due_arbitrary no_registers words
  due_before words blank =
      let place : base + 0 ≡ base = omega arith in
      rw (ap (at words) (sym place) ∙ blank.empty 0 (omega arith))

  -- ---- Open

  module _ (few : n ≤ 8) (events : List ℕ) (registers : Registers) (words : List ℕ) (keeps : KeepsArbitrary events registers words) where
    -- the first word of the times tells whether there is an event: it is above 0 where there is
    first_some : 0 < length events → ¬ (at words base ≡ 0)
    first_some some e =
        let j : ℕ = length events - 1 - (length events - 1) % 8 in
        let place : base ≡ base + j % 8 = omega arith in
        omega (arith, ap (at words) place, keeps.recent.newest j (omega arith) (omega arith))

    first_none : length events ≡ 0 → at words base ≡ 0
    first_none none =
        let place : base ≡ base + 0 = omega arith in
        ap (at words) place ∙ keeps.recent.unused 0 (omega arith) (omega arith)

    -- by whether there is an event
    due_by : (P : ℕ → Type 0) → (length events ≡ 0 → P no_limit) → (0 < length events → P (due_times n (at maxima) base registers.first words))
        → P (due_arbitrary registers words)
    due_by P none some =
        split (eqb (at words base) 0) (λ x. P (cond x no_limit (due_times n (at maxima) base registers.first words)))
        (λ e. none (by_cases (dec_lt 0 (length events)) (λ there. absurd (first_some there (eqb-true (at words base) 0 e)))
        (λ not_there. omega arith)))
        (λ e. some (by_cases (dec_lt 0 (length events)) (λ there. there)
        (λ not_there. absurd (eqb-false (at words base) 0 e (first_none (omega arith))))))

    -- the clock is not past the due time of a Repeat
    abbrev Soon : ℕ → ℕ → Type 0
    Soon now i = now ≤ plus (at events (length events - (i + 1))) (at maxima i)

    soon_each : (now : ℕ) → 0 < length events → now ≤ due_times n (at maxima) base registers.first words → (i : ℕ) → i < n → Soon now i
    soon_each now some soon i l =
        subst (λ (x : ℕ). now ≤ plus x (at maxima i))
        (newest_or_lem base events registers.first words keeps.recent (i + 1) (omega arith) (omega arith) some)
        (due_to (at maxima) base registers.first words now n soon i l)

    each_soon : (now : ℕ) → now ≤ last_time → 0 < length events → ((i : ℕ) → i < n → Soon now i)
        → now ≤ due_times n (at maxima) base registers.first words
    each_soon now small some each =
        due_from (at maxima) base registers.first words now n (omega arith)
        (λ i l. subst (λ (x : ℕ). now ≤ plus x (at maxima i))
        (sym (newest_or_lem base events registers.first words keeps.recent (i + 1) (omega arith) (omega arith) some)) (each i l))

    pub arbitrary_says : (now : ℕ) → Rising events → now ≤ last_time → MeetsArbitrary minima maxima events now ↔ (now ≤ due_arbitrary registers words)
    unfolding MeetsArbitrary
    arbitrary_says now rises small =
        due_by (λ d. MeetsArbitrary minima maxima events now ↔ (now ≤ d))
        (λ none. (λ m. omega arith, λ soon i l. repeat_empty (i + 1) (at minima i) (at maxima i) events now none))
        (λ some. (
          λ m. each_soon now small some (λ i l. (clocked i l some).0 (m i l)),
          λ soon i l. (clocked i l some).1 (soon_each now some soon i l),
        ))
      where
        clocked : (i : ℕ) → i < n → 0 < length events → MeetsRepeat (i + 1) (at minima i) (at maxima i) events now ↔ Soon now i
        clocked i l some =
            repeat_clock (i + 1) (at minima i) (at maxima i) events (omega arith) rises (keeps.spans i l) now small some

    -- ---- Events

    module _ (t : ℕ) (rises : Rising (events ++ (t ∷ []))) (small : t ≤ last_time) (soon : t ≤ due_arbitrary registers words) where
      -- no maximum is exceeded
      within : (i : ℕ) → i < n → 0 < length events → Soon t i
      within i l =
          due_by (λ d. t ≤ d → 0 < length events → Soon t i)
          (λ none h some. absurd (omega arith)) (λ _ h some. soon_each t some h i l) soon

      -- the test of one minimum
      span_tells : (i : ℕ) → i < n
          → Tells (SpansApart (i + 1) (at minima i) (at maxima i) (events ++ (t ∷ [])))
          (far_enough (at minima i) (newest_at base registers.first words (i + 1)) t)
      span_tells i l =
          tells_or (eqb last 0) (leb (last + at minima i) (t + 1))
          (λ e. more (λ j f. absurd (omega (arith, eqb-true last 0 e, there (omega arith)))))
          (λ e. tells_same (tells_leb (last + at minima i) (t + 1))
          (λ far. more (λ j f. let place : length events - (i + 1) ≡ j = omega arith in
          (omega (arith, there (omega arith), ap (at events) place), inr (omega (arith, within i l (omega arith), ap (at events) place)))))
          (λ m. by_cases (dec_lt (length events) (i + 1))
          (λ none. absurd (eqb-false last 0 e (newest_none base events registers.first words keeps.recent (i + 1) (omega arith) none)))
          (λ some. omega (
            arith,
            there (omega arith),
            (apart_new (i + 1) (at minima i) (at maxima i) events t (omega arith) m (length events - (i + 1)) (omega arith)).0,
          ))))
        where
          last : ℕ
          last = newest_at base registers.first words (i + 1)

          there : i + 1 ≤ length events → last ≡ at events (length events - (i + 1)) + 1
          there h = newest_some base events registers.first words keeps.recent (i + 1) (omega arith) (omega arith) h

          more : ((j : ℕ) → j + (i + 1) ≡ length events
              → (at events j + at minima i ≤ t) × ((at maxima i ≡ no_limit) ⊎ (t ≤ at events j + at maxima i)))
              → SpansApart (i + 1) (at minima i) (at maxima i) (events ++ (t ∷ []))
          more new = apart_more (i + 1) (at minima i) (at maxima i) events t (omega arith) (keeps.spans i l) new

      late_tells : (k : ℕ) → k ≤ n → Tells (MeetsSpans k (events ++ (t ∷ []))) (late_enough k (at minima) base registers.first words t)
      unfolding late_enough
      late_tells zero fit = holds (λ i l. absurd (omega arith))
      late_tells (suc k) fit =
          tells_same (tells_and (late_tells k (omega arith)) (span_tells k (omega arith)))
          (λ m i l. by_cases (dec_lt i k) (λ b. m.0 i b)
          (λ b. let e : k ≡ i = omega arith in
          subst (λ (j : ℕ). SpansApart (j + 1) (at minima j) (at maxima j) (events ++ (t ∷ []))) e m.1))
          (λ m. (λ i l. m i (omega arith), m k (omega arith)))

  module _ (few : n ≤ 8) (events : List ℕ) (registers : Registers) (words : List ℕ) (keeps : KeepsArbitrary events registers words) (t : ℕ)
      (rises : Rising (events ++ (t ∷ []))) (small : t ≤ last_time) (soon : t ≤ due_arbitrary registers words) where
    -- what the row has with the event
    abbrev new_words : List ℕ
    new_words = changed (note_time base registers.first words t) words

    abbrev new_marks : Registers
    new_marks = registers_of registers.last (next_place registers.first) registers.second registers

    keeps_more : MeetsSpans n (events ++ (t ∷ [])) → KeepsArbitrary (events ++ (t ∷ [])) new_marks new_words
    keeps_more m = record { spans = m; recent = recent_more base events registers.first words keeps.recent t small }

    -- the event's time is not past the new due time: the times rise, so no Repeat's is earlier than it was
    new_soon : (i : ℕ) → i < n → t ≤ plus (at (events ++ (t ∷ [])) (length (events ++ (t ∷ [])) - (i + 1))) (at maxima i)
    new_soon i l =
        by_cases (dec_lt (length (events ++ (t ∷ [])) - (i + 1)) (length events))
        (λ old. let before : at events (length events - (i + 1)) ≤ at events (length (events ++ (t ∷ [])) - (i + 1)) =
        by_cases (dec_lt (length events - (i + 1)) (length (events ++ (t ∷ [])) - (i + 1)))
        (λ less. omega (
          arith,
          rising_at events (rising_left events (t ∷ []) rises) (length events - (i + 1)) (length (events ++ (t ∷ [])) - (i + 1)) less old,
        ))
        (λ same. let e : length events - (i + 1) ≡ length (events ++ (t ∷ [])) - (i + 1) = omega (arith, length-append events (t ∷ [])) in
        omega (arith, ap (at events) e)) in
        omega (
          arith,
          within few events registers words keeps t rises small soon i l (omega arith),
          before,
          at_left events (t ∷ []) (length (events ++ (t ∷ [])) - (i + 1)) old,
        ))
        (λ new. omega (arith, at_next events t [] (length (events ++ (t ∷ [])) - (i + 1)) (omega (arith, length-append events (t ∷ [])))))

    pub arbitrary_event : ByTurn (MeetsArbitrary minima maxima) KeepsArbitrary due_arbitrary events words t
        (decide_arbitrary n (at minima) (at maxima) base registers words t)
    unfolding decide_arbitrary MeetsArbitrary MeetsRepeat
    arbitrary_event = turn (late_tells few events registers words keeps t rises small soon n (omega arith))
      where
        turn : {test : Bool} → Tells (MeetsSpans n (events ++ (t ∷ []))) test
            → ByTurn (MeetsArbitrary minima maxima) KeepsArbitrary due_arbitrary events words t
            (cond test (continues_with (note_time base registers.first words t) new_marks (due_after n (at maxima) base registers.first words t)
            true) breaking)
        turn (holds m) =
            record {
              live = keeps_more m;
              due_is = rw (ne_eqb (at new_words base) 0 (first_some few (events ++ (t ∷ [])) new_marks new_words (keeps_more m) some)) due_new;
              kept_is = refl;
              in_time = rw due_new (each_soon few (events ++ (t ∷ [])) new_marks new_words (keeps_more m) t small some new_soon);
            }
          where
            some : 0 < length (events ++ (t ∷ []))
            some = omega (arith, length-append events (t ∷ []))

            due_new : due_after n (at maxima) base registers.first words t ≡ due_times n (at maxima) base (next_place registers.first) new_words
            due_new = due_after_lem base events registers.first words keeps.recent t small n (at maxima) few
        turn (fails none) = λ m. none (λ i l. (m i l).0)

  -- ---- what Arbitrary proves, with its pairs as lists

  arbitrary_first : (xs ys : List ℕ) (now later : ℕ) → now ≤ later → Each (λ y. now ≤ y) ys → MeetsArbitrary minima maxima (xs ++ ys) later
      → MeetsArbitrary minima maxima xs now
  unfolding MeetsArbitrary
  arbitrary_first xs ys now later h after m i l = repeat_first (i + 1) (at minima i) (at maxima i) xs ys now later h after (m i l)

  pub arbitrary_follows : n ≤ 8 → base + 8 ≤ waiting_limit → (words : List ℕ) → Blank words
      → Follows (MeetsArbitrary minima maxima) words (decide_arbitrary n (at minima) (at maxima) base)
  arbitrary_follows few room words blank =
      record {
        Keeps = KeepsArbitrary;
        due = due_arbitrary;
        says_first = arbitrary_first;
        keeps_none = arbitrary_none words blank;
        due_none = due_before words blank;
        keeps_says = λ now rises small keeps. arbitrary_says few _ _ _ keeps now rises small;
        keeps_few = λ keeps. omega (arith, keeps.recent.size);
        keeps_event = λ t rises small keeps soon. arbitrary_event few _ _ _ keeps t rises small soon;
      }
