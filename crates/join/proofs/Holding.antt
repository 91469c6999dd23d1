-- A tick of the first is later than all that stands before it, and so is never dropped; one of the second is dropped just where a record of the
-- first stands at its time.
use Rattle.join.proofs.Names.{Bool, Interleaves, List, Step, [], ◌<◌, ◌||◌, ◌∷◌, ◌≡◌, ◌≤◌, ◌⊎◌, among, arith, both, close, cond, eq-eqb, eqb}
use Rattle.join.proofs.Names.{eqb-true, event, false, inl, inr, joined, leb, leb-false, leb-true, lt-leb, merged, no_record, of_first}
use Rattle.join.proofs.Names.{of_second, or-true, refl, split, subst, sym, tick, time_of, times_of, true, undropped, without, ℕ, ⊎_elim}
use Rattle.join.proofs.Merging.{Comes, Strict}

-- as `Strict`, but the first may be a tick at the clock
abbrev Reaches : ℕ → Step → Type 0
Reaches now (event s t) = now ≤ t
Reaches now (tick t) = now ≤ t
Reaches now close = ⊥

abbrev Weak : ℕ → List Step → Type 0
Weak now [] = Unit {0}
Weak now (s ∷ steps) = Reaches now s × Strict (time_of s) steps

weak_of : (now later : ℕ) (steps : List Step) → now ≤ later → Strict later steps → Weak now steps
weak_of now later [] h s = tt
weak_of now later (event k t ∷ steps) h s = (omega (arith, h, s.0), s.1)
weak_of now later (tick t ∷ steps) h s = (omega (arith, h, s.0), s.1)
weak_of now later (close ∷ steps) h s = absurd s.0

-- no time is before the clock
times_late : (now t : ℕ) (steps : List Step) → Strict now steps → among t (times_of steps) ≡ true → now ≤ t
times_late now t [] s e = both (sym e)
times_late now t (event k u ∷ steps) s e =
    ⊎_elim (λ f. omega (arith, s.0, eqb-true t u f)) (λ f. omega (arith, s.0, times_late u t steps s.1 f))
    (or-true (eqb t u) (among t (times_of steps)) e)
times_late now t (tick u ∷ steps) s e =
    ⊎_elim (λ f. omega (arith, s.0, eqb-true t u f)) (λ f. omega (arith, s.0, times_late u t steps s.1 f))
    (or-true (eqb t u) (among t (times_of steps)) e)
times_late now t (close ∷ steps) s e = absurd s.0

-- ---- the first stays whole

stays : (now : ℕ) (s : Step) (rest : List Step) → Comes now s → undropped now (s ∷ rest) ≡ s ∷ undropped (time_of s) rest
unfolding undropped
stays now (event k t) rest c = refl
stays now (tick t) rest c = rw (lt-leb t now c)
stays now close rest c = absurd c

first_alone : (now : ℕ) (first : List Step) → Strict now first → Interleaves first [] (undropped now first)
unfolding undropped
first_alone now [] s = no_record
first_alone now (a ∷ first) s = subst (Interleaves (a ∷ first) []) (sym (stays now a first s.0)) (of_first a (first_alone (time_of a) first s.1))

-- ---- the second, where all times of the first that are still to come are in some list

module _ (moments : List ℕ) where
  -- the clock is at a time of the first, or the second's next tick is later
  abbrev Seen : ℕ → List Step → Type 0
  Seen now second = (among now moments ≡ true) ⊎ Strict now second

  seen_tick : (now t : ℕ) (second : List Step) → Seen now (tick t ∷ second) → now ≤ t → t ≤ now → (among t moments ≡ true) × (now ≡ t)
  seen_tick now t second (inl e) h k = let same : now ≡ t = omega arith in (subst (λ (x : ℕ). among x moments ≡ true) same e, same)
  seen_tick now t second (inr s) h k = absurd (omega (arith, s.0))

  without_tick : (t : ℕ) (second : List Step) → among t moments ≡ true → without moments (tick t ∷ second) ≡ without moments second
  unfolding without
  without_tick t second e = rw e

  with_tick : (t : ℕ) (second : List Step) → among t moments ≡ false → without moments (tick t ∷ second) ≡ tick t ∷ without moments second
  unfolding without
  with_tick t second e = rw e

  not_among : (t : ℕ) → (among t moments ≡ true → ⊥) → among t moments ≡ false
  not_among t h = split (among t moments) (λ x. among t moments ≡ x → x ≡ false) (λ e f. absurd (h f)) (λ e f. refl) refl

  -- a tick of the second: it is dropped at the clock, and is kept after it
  module _ (now t : ℕ) (first second : List Step) (later : List Step) where
    one_tick : now ≤ t → Seen now (tick t ∷ second) → (now < t → among t moments ≡ true → ⊥)
        → (now ≡ t → among now moments ≡ true → Interleaves first (without moments second) (undropped now later))
        → (now < t → Interleaves first (without moments second) (undropped t later))
        → Interleaves first (without moments (tick t ∷ second)) (undropped now (tick t ∷ later))
    unfolding undropped
    one_tick h seen apart falls keeps =
        split (leb t now) (λ x. Interleaves first (without moments (tick t ∷ second)) (cond x (undropped now later) (tick t ∷ undropped t later)))
        (λ e. let (hit, same) = seen_tick now t second seen h (leb-true t now e) in
        subst (λ (l : List Step). Interleaves first l (undropped now later)) (sym (without_tick t second hit))
        (falls same (subst (λ (x : ℕ). among x moments ≡ true) (sym same) hit)))
        (λ e. let after : now < t = leb-false t now e in
        subst (λ (l : List Step). Interleaves first l (tick t ∷ undropped t later)) (sym (with_tick t second (not_among t (apart after))))
        (of_second (tick t) (keeps after)))

  none_there : {first all : List Step} → Interleaves first [] all → Interleaves first (without moments []) all
  unfolding without
  none_there i = i

  one_event : (now k t : ℕ) (first second later : List Step) → Interleaves first (without moments second) (undropped t later)
      → Interleaves first (without moments (event k t ∷ second)) (undropped now (event k t ∷ later))
  unfolding without undropped
  one_event now k t first second later i = of_second (event k t) i

  second_alone : (now : ℕ) (second : List Step) → Weak now second → ((u : ℕ) → among u moments ≡ true → u ≤ now) → Seen now second
      → Interleaves [] (without moments second) (undropped now second)
  unfolding undropped without
  second_alone now [] w past seen = no_record
  second_alone now (event k t ∷ second) w past seen =
      of_second (event k t) (second_alone t second (weak_of t t second (omega arith) w.1) (λ u e. omega (arith, past u e, w.0)) (inr w.1))
  second_alone now (tick t ∷ second) w past seen =
      one_tick now t [] second second w.0 seen (λ h e. omega (arith, past t e, h))
      (λ same e. second_alone now second (weak_of now t second w.0 w.1) past (inl e))
      (λ h. second_alone t second (weak_of t t second (omega arith) w.1) (λ u e. omega (arith, past u e, h)) (inr w.1))
  second_alone now (close ∷ second) w past seen = absurd w.0

  -- ---- both

  -- a time in the list is not after the clock, or is one of the first's that are still to come; and all of those are in the list
  record TimesKnown (now : ℕ) (first : List Step) : Type 0 where
    pub past : (u : ℕ) → among u moments ≡ true → (u ≤ now) ⊎ (among u (times_of first) ≡ true)
    pub all : (u : ℕ) → among u (times_of first) ≡ true → among u moments ≡ true

  read_later : (now later : ℕ) (first : List Step) → now ≤ later → TimesKnown now first → TimesKnown later first
  read_later now later first h known =
      record { past = λ u e. ⊎_elim (λ k. inl (omega (arith, h, k))) (λ f. inr f) (known.past u e); all = known.all }

  read_more : (now : ℕ) (a : Step) (first : List Step) → now ≤ time_of a → TimesKnown now (a ∷ first) → TimesKnown (time_of a) first
  read_more now a first h known =
      record {
        past = λ u e. ⊎_elim (λ k. inl (omega (arith, h, k)))
            (λ f. ⊎_elim (λ same. inl (omega (arith, eqb-true u (time_of a) same))) (λ g. inr g)
            (or-true (eqb u (time_of a)) (among u (times_of first)) f)) (known.past u e);
        all = λ u e. known.all u (behind u e (eqb u (time_of a)));
      }
    where
      behind : (u : ℕ) → among u (times_of first) ≡ true → (b : Bool) → (b || among u (times_of first)) ≡ true
      behind u e true = refl
      behind u e false = e

  comes_at : (now : ℕ) (s : Step) → Comes now s → now ≤ time_of s
  comes_at now (event k t) c = c
  comes_at now (tick t) c = omega arith
  comes_at now close c = absurd c

  sooner : (now : ℕ) (s : Step) → now < time_of s → ¬ (s ≡ close) → Comes now s
  sooner now (event k t) h c = omega arith
  sooner now (tick t) h c = h
  sooner now close h c = absurd (c refl)

  not_close : (now : ℕ) (s : Step) → Comes now s → ¬ (s ≡ close)
  not_close now (event k t) c e = let z : ◌≡◌ {A = ℕ} 0 1 = cc in omega arith
  not_close now (tick t) c e = let z : ◌≡◌ {A = ℕ} 0 1 = cc in omega arith
  not_close now close c e = c

  -- the first of the first's times is in the list
  at_first : (now : ℕ) (a : Step) (first : List Step) → TimesKnown now (a ∷ first) → among (time_of a) moments ≡ true
  at_first now a first known = known.all (time_of a) (rw (eq-eqb (time_of a) (time_of a) refl))

  head_late : (t : ℕ) (a : Step) (first : List Step) → Strict (time_of a) first → among t (times_of (a ∷ first)) ≡ true → time_of a ≤ t
  head_late t a first s e =
      ⊎_elim (λ f. omega (arith, eqb-true t (time_of a) f)) (λ f. times_late (time_of a) t first s f)
      (or-true (eqb t (time_of a)) (among t (times_of first)) e)

  take_first : (now : ℕ) (a : Step) (first second others : List Step) → Comes now a → Interleaves first second (undropped (time_of a) others)
      → Interleaves (a ∷ first) second (undropped now (a ∷ others))
  take_first now a first second others c rest = subst (Interleaves (a ∷ first) second) (sym (stays now a others c)) (of_first a rest)

  holds : (now : ℕ) (first second : List Step) → Strict now first → Weak now second → TimesKnown now first → Seen now second
      → Interleaves first (without moments second) (undropped now (merged first second))
  unfolding merged
  holds now [] second s w known seen = second_alone now second w (λ u e. ⊎_elim (λ h. h) (λ f. both (sym f)) (known.past u e)) seen
  holds now (a ∷ first) [] s w known seen = none_there (first_alone now (a ∷ first) s)
  holds now (a ∷ first) (event k t ∷ second) s w known seen =
      split (leb (time_of a) t)
      (λ x. Interleaves (a ∷ first) (without moments (event k t ∷ second))
      (undropped now (cond x (a ∷ merged first (event k t ∷ second)) (event k t ∷ merged (a ∷ first) second))))
      (λ e. take_first now a first (without moments (event k t ∷ second)) (merged first (event k t ∷ second)) s.0
      (holds (time_of a) first (event k t ∷ second) s.1 (leb-true (time_of a) t e, w.1) (read_more now a first (comes_at now a s.0) known)
      (inl (at_first now a first known))))
      (λ e. let h : t < time_of a = leb-false (time_of a) t e in
      one_event now k t (a ∷ first) second (merged (a ∷ first) second)
      (holds t (a ∷ first) second (sooner t a h (not_close now a s.0), s.1) (weak_of t t second (omega arith) w.1)
      (read_later now t (a ∷ first) w.0 known) (inr w.1)))
  holds now (a ∷ first) (tick t ∷ second) s w known seen =
      split (leb (time_of a) t)
      (λ x. Interleaves (a ∷ first) (without moments (tick t ∷ second))
      (undropped now (cond x (a ∷ merged first (tick t ∷ second)) (tick t ∷ merged (a ∷ first) second))))
      (λ e. take_first now a first (without moments (tick t ∷ second)) (merged first (tick t ∷ second)) s.0
      (holds (time_of a) first (tick t ∷ second) s.1 (leb-true (time_of a) t e, w.1) (read_more now a first (comes_at now a s.0) known)
      (inl (at_first now a first known))))
      (λ e. let h : t < time_of a = leb-false (time_of a) t e in
      one_tick now t (a ∷ first) second (merged (a ∷ first) second) w.0 seen
      (λ after hit. ⊎_elim (λ soon. omega (arith, soon, after)) (λ f. omega (arith, h, head_late t a first s.1 f)) (known.past t hit))
      (λ same hit. holds now (a ∷ first) second s (weak_of now t second w.0 w.1) known (inl hit))
      (λ after. holds t (a ∷ first) second (sooner t a h (not_close now a s.0), s.1) (weak_of t t second (omega arith) w.1)
      (read_later now t (a ∷ first) w.0 known) (inr w.1)))
  holds now (a ∷ first) (close ∷ second) s w known seen = absurd w.0

-- the joined list holds the first, and the second without its ticks at times of the first
pub joined_interleaves : (first second : List Step) → Strict 0 first → Strict 0 second
    → Interleaves first (without (times_of first) second) (joined first second)
joined_interleaves first second s q =
    holds (times_of first) 0 first second s (weak_of 0 0 second (omega arith) q) (record { past = λ u e. inr e; all = λ u e. e }) (inr q)
