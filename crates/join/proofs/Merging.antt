-- Two lists of steps whose times never fall merge into one, a stream's events all come from one of them, and a tick that is left is later than the
-- clock: so what is
-- left is a list of steps each of which was accepted after those before it.
use Rattle.join.proofs.Names.{AcceptsEvent, List, NoneInCommon, Rising, Step, Valid, [], ◌++◌, ◌<◌, ◌∙◌, ◌∷◌, ◌≡◌, ◌≤◌, among, ap}
use Rattle.join.proofs.Names.{append-nil}
use Rattle.join.proofs.Names.{append_snoc, arith, both, clock, clock_event, clock_tick, clock_from, close, closed, closed_event, closed_tick}
use Rattle.join.proofs.Names.{cond, eq-eqb, eqb, eqb-true, event, false, first_coloured, joined, kind_of, kinds_of, last_count, last_time, leb}
use Rattle.join.proofs.Names.{leb-false, leb-true, length, length-append, merged, never, or_false, past_of, refl, rising_across, split}
use Rattle.join.proofs.Names.{stream_count, subst, sym, tick, time_of, times, times_append, undropped, valid_more, valid_none, ℕ}

-- a step that a record of a version can hold: version 1 has no colours
abbrev pub Fits : ℕ → Step → Type 0
Fits version (event s t) = (s < stream_count) × (t ≤ last_time) × (version ≡ 1 → s < first_coloured)
Fits version (tick t) = t ≤ last_time
Fits version close = ⊥

-- such steps, of which none is earlier than the one before it
abbrev pub Line : ℕ → ℕ → List Step → Type 0
Line version now [] = Unit {0}
Line version now (s ∷ steps) = (now ≤ time_of s) × Fits version s × Line version (time_of s) steps

-- a step that comes after a clock: a tick is later
abbrev pub Comes : ℕ → Step → Type 0
Comes now (event s t) = now ≤ t
Comes now (tick t) = now < t
Comes now close = ⊥

-- steps each of which comes after the one before it
abbrev pub Strict : ℕ → List Step → Type 0
Strict now [] = Unit {0}
Strict now (s ∷ steps) = Comes now s × Strict (time_of s) steps

module _ (version : ℕ) where
  line_earlier : (now before : ℕ) (steps : List Step) → before ≤ now → Line version now steps → Line version before steps
  line_earlier now before [] h l = tt
  line_earlier now before (s ∷ steps) h l = (omega arith, l.1, l.2)

  pub line_merged : (now : ℕ) (first second : List Step) → Line version now first → Line version now second → Line version now (merged first second)
  unfolding merged
  line_merged now [] second l m = m
  line_merged now (a ∷ first) [] l m = l
  line_merged now (a ∷ first) (b ∷ second) l m =
      split (leb (time_of a) (time_of b)) (λ x. Line version now (cond x (a ∷ merged first (b ∷ second)) (b ∷ merged (a ∷ first) second)))
      (λ e. (l.0, l.1, line_merged (time_of a) first (b ∷ second) l.2 (leb-true (time_of a) (time_of b) e, m.1, m.2)))
      (λ e. (m.0, m.1, line_merged (time_of b) (a ∷ first) second (omega (arith, leb-false (time_of a) (time_of b) e), l.1, l.2) m.2))

  fits_other : (other : ℕ) → (other ≡ 1 → version ≡ 1) → (s : Step) → Fits version s → Fits other s
  fits_other other one (event s t) fits = (fits.0, fits.1, λ e. fits.2 (one e))
  fits_other other one (tick t) fits = fits
  fits_other other one close fits = fits

  -- what suits a version suits a higher one
  pub line_other : (other : ℕ) → (other ≡ 1 → version ≡ 1) → (now : ℕ) (steps : List Step) → Line version now steps → Line other now steps
  line_other other one now [] l = tt
  line_other other one now (s ∷ steps) l = (l.0, fits_other other one s l.1, line_other other one (time_of s) steps l.2)

-- ---- the times of a stream

none_both : (xs ys : List ℕ) → xs ++ ys ≡ [] → (xs ≡ []) × (ys ≡ [])
none_both [] ys e = (refl, e)
none_both (x ∷ xs) ys e = never (cc)

module _ (s : ℕ) where
  times_first : (first second : List Step) → times s second ≡ [] → times s (merged first second) ≡ times s first
  unfolding merged times
  times_first [] second e = e
  times_first (a ∷ first) [] e = refl
  times_first (a ∷ first) (b ∷ second) e =
      split (leb (time_of a) (time_of b)) (λ x. times s (cond x (a ∷ merged first (b ∷ second)) (b ∷ merged (a ∷ first) second)) ≡ times s
      (a ∷ first))
      (λ t. times_append s (a ∷ []) (merged first (b ∷ second)) ∙ ap (λ (l : List ℕ). times s (a ∷ []) ++ l) (times_first first (b ∷ second) e)
      ∙ sym (times_append s (a ∷ []) first))
      (λ t. let none = none_both (times s (b ∷ [])) (times s second) (sym (times_append s (b ∷ []) second) ∙ e) in
      times_append s (b ∷ []) (merged (a ∷ first) second) ∙ ap (λ (l : List ℕ). l ++ times s (merged (a ∷ first) second)) none.0
      ∙ times_first (a ∷ first) second none.1)

  times_second : (first second : List Step) → times s first ≡ [] → times s (merged first second) ≡ times s second
  unfolding merged times
  times_second [] second e = refl
  times_second (a ∷ first) [] e = e
  times_second (a ∷ first) (b ∷ second) e =
      split (leb (time_of a) (time_of b)) (λ x. times s (cond x (a ∷ merged first (b ∷ second)) (b ∷ merged (a ∷ first) second)) ≡ times s
      (b ∷ second))
      (λ t. let none = none_both (times s (a ∷ [])) (times s first) (sym (times_append s (a ∷ []) first) ∙ e) in
      times_append s (a ∷ []) (merged first (b ∷ second)) ∙ ap (λ (l : List ℕ). l ++ times s (merged first (b ∷ second))) none.0
      ∙ times_second first (b ∷ second) none.1)
      (λ t. times_append s (b ∷ []) (merged (a ∷ first) second) ∙ ap (λ (l : List ℕ). times s (b ∷ []) ++ l) (times_second (a ∷ first) second e)
      ∙ sym (times_append s (b ∷ []) second))

  -- a stream whose kind is not there has no times
  no_kind : (steps : List Step) → among (kind_of s) (kinds_of steps) ≡ false → times s steps ≡ []
  unfolding times
  no_kind [] e = refl
  no_kind (event j t ∷ steps) e =
      split (eqb j s) (λ x. cond x (t ∷ times s steps) (times s steps) ≡ [])
      (λ same. both (sym (eq-eqb (kind_of s) (kind_of j) (ap kind_of (sym (eqb-true j s same))))
      ∙ (or_false (eqb (kind_of s) (kind_of j)) (among (kind_of s) (kinds_of steps)) e).0))
      (λ other. no_kind steps (or_false (eqb (kind_of s) (kind_of j)) (among (kind_of s) (kinds_of steps)) e).1)
  no_kind (tick t ∷ steps) e = no_kind steps e
  no_kind (close ∷ steps) e = no_kind steps e

  pub rising_merged : (first second : List Step) → NoneInCommon first second → Rising (times s first) → Rising (times s second)
      → Rising (times s (merged first second))
  unfolding NoneInCommon
  rising_merged first second apart r q =
      split (among (kind_of s) (kinds_of first)) (λ x. Rising (times s (merged first second)))
      (λ e. subst Rising (sym (times_first first second (no_kind second (apart (kind_of s) e)))) r)
      (λ e. subst Rising (sym (times_second first second (no_kind first e))) q)

-- ---- what is left is valid

module _ (version : ℕ) where
  own_first : (s t : ℕ) (steps : List Step) → times s (event s t ∷ steps) ≡ t ∷ times s steps
  unfolding times
  own_first s t steps = rw (eq-eqb s s refl)

  valid_left : (steps done : List Step) (now : ℕ) → Valid done → clock done ≡ now → closed done ≡ false → Line version now steps
      → ((s : ℕ) → Rising (times s (done ++ steps))) → length (done ++ undropped now steps) ≤ last_count → Valid (done ++ undropped now steps)
  unfolding undropped times
  valid_left [] done now v is unclosed l r few = subst Valid (sym (append-nil done)) v
  valid_left (event s t ∷ steps) done now v is unclosed l r few =
      let own : Rising (times s done ++ t ∷ times s steps) =
      subst Rising (times_append s done (event s t ∷ steps) ∙ ap (λ (x : List ℕ). times s done ++ x) (own_first s t steps)) (r s) in
      let accepts : AcceptsEvent done s t = record {
        not_closed = unclosed;
        counted = omega (arith, few, length-append done (event s t ∷ undropped t steps));
        stream_small = l.1.0;
        time_small = l.1.1;
        in_order = (omega (arith, is, l.0), λ i h. rising_across (times s done) (t ∷ times s steps) own i h 0 (omega arith));
      } in
      subst Valid (append_snoc done (event s t) (undropped t steps))
      (valid_left steps (done ++ (event s t ∷ [])) t (valid_more (event s t) v accepts) (clock_event s t done) (closed_event s t done ∙ unclosed)
      l.2
      (λ j. subst (λ (x : List Step). Rising (times j x)) (sym (append_snoc done (event s t) steps)) (r j))
      (subst (λ (x : List Step). length x ≤ last_count) (sym (append_snoc done (event s t) (undropped t steps))) few))
  valid_left (tick t ∷ steps) done now v is unclosed l r few =
      split (leb t now)
      (λ x. length (done ++ cond x (undropped now steps) (tick t ∷ undropped t steps)) ≤ last_count
      → Valid (done ++ cond x (undropped now steps) (tick t ∷ undropped t steps)))
      (λ e short. valid_left steps done now v is unclosed (line_earlier version t now steps l.0 l.2)
      (λ j. subst Rising (times_append j done (tick t ∷ steps) ∙ sym (times_append j done steps)) (r j)) short)
      (λ e short. subst Valid (append_snoc done (tick t) (undropped t steps))
      (valid_left steps (done ++ (tick t ∷ [])) t (valid_more (tick t) v (record {
        not_closed = unclosed;
        counted = omega (arith, short, length-append done (tick t ∷ undropped t steps));
        time_small = l.1;
        later = omega (arith, is, leb-false t now e);
      }))
      (clock_tick t done) (closed_tick t done ∙ unclosed) l.2
      (λ j. subst (λ (x : List Step). Rising (times j x)) (sym (append_snoc done (tick t) steps)) (r j))
      (subst (λ (x : List Step). length x ≤ last_count) (sym (append_snoc done (tick t) (undropped t steps))) short))) few
  valid_left (close ∷ steps) done now v is unclosed l r few = absurd l.1

  -- what is left fits the version still
  pub line_left : (steps : List Step) (now : ℕ) → Line version now steps → Line version now (undropped now steps)
  unfolding undropped
  line_left [] now l = tt
  line_left (event s t ∷ steps) now l = (l.0, l.1, line_left steps t l.2)
  line_left (tick t ∷ steps) now l =
      split (leb t now) (λ x. Line version now (cond x (undropped now steps) (tick t ∷ undropped t steps)))
      (λ e. line_left steps now (line_earlier version t now steps l.0 l.2))
      (λ e. (l.0, l.1, line_left steps t l.2))
  line_left (close ∷ steps) now l = absurd l.1

  -- the joined list of two valid ones without a kind in common, where it is no longer than a list of steps may be
  pub joined_valid : (first second : List Step) → Valid first → Valid second → Line version 0 first → Line version 0 second
      → NoneInCommon first second
      → length (joined first second) ≤ last_count → Valid (joined first second)
  unfolding closed clock_from
  joined_valid first second v w l m apart few =
      valid_left (merged first second) [] 0 valid_none refl refl (line_merged version 0 first second l m)
      (λ s. rising_merged s first second apart ((past_of v).rising s) ((past_of w).rising s)) few

  pub joined_line : (first second : List Step) → Line version 0 first → Line version 0 second → Line version 0 (joined first second)
  joined_line first second l m = line_left (merged first second) 0 (line_merged version 0 first second l m)
