-- Sources and targets paired by their places: while every pair fits, sources beyond the number of targets may still get theirs, and one
-- target beyond the number of sources only at its own time.
use Rattle.constraint.proofs.Library.{List, List·getD-eq-default, [], ◌++◌, ◌+◌, ◌-◌, ◌<◌, ◌∙◌, ◌∷◌, ◌≡◌, ◌≤◌, ◌⊎◌, ap, append_assoc, append-nil}
use Rattle.constraint.proofs.Library.{arith, cond, eqb, inl}
use Rattle.constraint.proofs.Library.{get_or, get_or-append-add, inr, length, length-append, ne_eqb, refl, subst, suc, sym, zero, ℕ}
use Rattle.constraint.proofs.Lists.{Each, Rising, at_next, each_cons, each_none, each_right, rising_across, rising_right, rising_snoc}
use Rattle.constraint.specs.{Meets.Between, Steps.at}
use Rattle.row_type.proofs.TwoKinds.{Further, Lost, UpTo}
use Rattle.delay_order.proofs.Laws.Answers.{answers, answers_between, answers_count, answers_follow, answers_from_now, first_free}

-- as many targets as sources, and the source and the target of each place fit
abbrev pub Paired : (ℕ → ℕ → Type 0) → List ℕ → List ℕ → Type 0
Paired Fits sources targets = (length targets ≡ length sources) × ((i : ℕ) → i < length sources → Fits (at sources i) (at targets i))

-- the sources beyond the number of targets wait
pub record Ahead (Fits : ℕ → ℕ → Type 0) (sources targets waiting : List ℕ) : Type 0 where
  pub paired : List ℕ
  pub pairs : Paired Fits paired targets
  pub rest : sources ≡ paired ++ waiting

-- one target, at t, is beyond the number of sources, and a source at its time fits
pub record Beyond (Fits : ℕ → ℕ → Type 0) (sources targets : List ℕ) (t : ℕ) : Type 0 where
  pub paired : List ℕ
  pub pairs : Paired Fits sources paired
  pub rest : targets ≡ paired ++ t ∷ []
  pub at_once : Fits t t

-- the one or the other; `early` is one more than the time of the target beyond, 0 where there is none
abbrev pub Pairing : (ℕ → ℕ → Type 0) → List ℕ → List ℕ → ℕ → List ℕ → Type 0
Pairing Fits sources targets early waiting =
    ((early ≡ 0) × Ahead Fits sources targets waiting) ⊎ ((t : ℕ) × (early ≡ t + 1) × (waiting ≡ []) × Beyond Fits sources targets t)

-- the due time: a target beyond needs its source at its own time
abbrev pub due_early : ℕ → ℕ → ℕ
due_early early otherwise = cond (eqb early 0) otherwise (early - 1)

pub due_ahead : (early otherwise : ℕ) → early ≡ 0 → due_early early otherwise ≡ otherwise
due_ahead early otherwise e = rw e

pub due_beyond : (early otherwise t : ℕ) → early ≡ t + 1 → due_early early otherwise ≡ t
due_beyond early otherwise t e = rw (e, ne_eqb (t + 1) 0 (omega arith)) (omega arith)

-- ---- pairs

module _ (Fits : ℕ → ℕ → Type 0) where
  paired_none : Paired Fits [] []
  paired_none = (refl, λ i h. absurd (omega arith))

  paired_cons : (x y : ℕ) (xs ys : List ℕ) → Fits x y → Paired Fits xs ys → Paired Fits (x ∷ xs) (y ∷ ys)
  paired_cons x y xs ys f p = (ap suc p.0, at_place)
    where
      at_place : (i : ℕ) → i < suc (length xs) → Fits (at (x ∷ xs) i) (at (y ∷ ys) i)
      at_place zero h = f
      at_place (suc i) h = p.1 i (omega arith)

  paired_append : (xs ys more_xs more_ys : List ℕ) → Paired Fits xs ys → Paired Fits more_xs more_ys → Paired Fits (xs ++ more_xs) (ys ++ more_ys)
  paired_append [] [] more_xs more_ys p q = q
  paired_append [] (y ∷ ys) more_xs more_ys p q = absurd (omega (arith, p.0))
  paired_append (x ∷ xs) [] more_xs more_ys p q = absurd (omega (arith, p.0))
  paired_append (x ∷ xs) (y ∷ ys) more_xs more_ys p q =
      paired_cons x y (xs ++ more_xs) (ys ++ more_ys) (p.1 0 (omega arith))
      (paired_append xs ys more_xs more_ys (omega (arith, p.0), λ i h. p.1 (suc i) (omega arith)) q)

  paired_snoc : (xs ys : List ℕ) (x y : ℕ) → Paired Fits xs ys → Fits x y → Paired Fits (xs ++ x ∷ []) (ys ++ y ∷ [])
  paired_snoc xs ys x y p f = paired_append xs ys (x ∷ []) (y ∷ []) p (paired_cons x y [] [] f paired_none)

  -- the pair just behind two lists of one length
  paired_next : (xs ys : List ℕ) (x y : ℕ) (more_xs more_ys : List ℕ) → length ys ≡ length xs → Paired Fits (xs ++ x ∷ more_xs) (ys ++ y ∷ more_ys)
      → Fits x y
  paired_next xs ys x y more_xs more_ys e p =
      rw (at_next xs x more_xs (length xs) refl, at_next ys y more_ys (length xs) (sym e)) at
      (p.1 (length xs) (rw (length-append xs (x ∷ more_xs)) (omega arith)))

  -- there, a target gets one of the further sources, and a source one of the further targets
  paired_further_source : (P : ℕ → Type 0) (xs ys : List ℕ) (y : ℕ) (fs gs : List ℕ) → length ys ≡ length xs → Each P fs
      → Paired Fits (xs ++ fs) (ys ++ y ∷ gs)
      → (f : ℕ) × P f × Fits f y
  paired_further_source P xs ys y [] gs e each p = absurd (omega (arith, p.0, length-append xs [], length-append ys (y ∷ gs)))
  paired_further_source P xs ys y (f ∷ fs) gs e each p = (f, each 0 (omega arith), paired_next xs ys f y fs gs e p)

  paired_further_target : (P : ℕ → Type 0) (xs ys : List ℕ) (x : ℕ) (fs gs : List ℕ) → length ys ≡ length xs → Each P gs
      → Paired Fits (xs ++ x ∷ fs) (ys ++ gs)
      → (g : ℕ) × P g × Fits x g
  paired_further_target P xs ys x fs [] e each p = absurd (omega (arith, p.0, length-append xs (x ∷ fs), length-append ys []))
  paired_further_target P xs ys x fs (g ∷ gs) e each p = (g, each 0 (omega arith), paired_next xs ys x g fs gs e p)

-- ---- Start

pub pairing_start : (Fits : ℕ → ℕ → Type 0) → Pairing Fits [] [] 0 []
pairing_start Fits = inl (refl, record { paired = []; pairs = paired_none Fits; rest = refl })

module _ {Fits : ℕ → ℕ → Type 0} {sources targets : List ℕ} where
  -- ---- Events

  pub source_waits : {waiting : List ℕ} (t : ℕ) → Ahead Fits sources targets waiting → Ahead Fits (sources ++ t ∷ []) targets (waiting ++ t ∷ [])
  source_waits {waiting} t a = record { paired = a.paired; pairs = a.pairs; rest = rw a.rest (append_assoc a.paired waiting (t ∷ [])) }

  pub source_partners : {t : ℕ} → Beyond Fits sources targets t → Ahead Fits (sources ++ t ∷ []) targets []
  source_partners {t} b =
      record {
        paired = sources ++ t ∷ [];
        pairs = rw b.rest (paired_snoc Fits sources b.paired t t b.pairs b.at_once);
        rest = sym (append-nil (sources ++ t ∷ []));
      }

  pub target_partners : {s : ℕ} {waiting : List ℕ} (t : ℕ) → Ahead Fits sources targets (s ∷ waiting) → Fits s t
      → Ahead Fits sources (targets ++ t ∷ []) waiting
  target_partners {s} {waiting} t a f =
      record {
        paired = a.paired ++ s ∷ [];
        pairs = paired_snoc Fits a.paired targets s t a.pairs f;
        rest = a.rest ∙ sym (append_assoc a.paired (s ∷ []) waiting);
      }

  ahead_paired : Ahead Fits sources targets [] → Paired Fits sources targets
  ahead_paired a = subst (λ (l : List ℕ). Paired Fits l targets) (sym (a.rest ∙ append-nil a.paired)) a.pairs

  pub target_beyond : (t : ℕ) → Ahead Fits sources targets [] → Fits t t → Beyond Fits sources (targets ++ t ∷ []) t
  target_beyond t a f = record { paired = targets; pairs = ahead_paired a; rest = refl; at_once = f }

  pub target_misfits : {s : ℕ} {waiting : List ℕ} (t : ℕ) → Ahead Fits sources targets (s ∷ waiting) → ¬ Fits s t
      → Lost t (Paired Fits) sources (targets ++ (t ∷ []))
  target_misfits {s} {waiting} t a misfit fs gs late_fs late_gs p =
      misfit (paired_next Fits a.paired targets s t (waiting ++ fs) gs a.pairs.0
      (rw (a.rest, append_assoc a.paired (s ∷ waiting) fs, append_assoc targets (t ∷ []) gs) at p))

  -- what holds of each target holds of the one beyond
  pub beyond_each : (P : ℕ → Type 0) {t : ℕ} → Beyond Fits sources targets t → Each P targets → P t
  beyond_each P {t} b each = each_right P b.paired (t ∷ []) (subst (Each P) b.rest each) 0 (omega arith)

  -- the sources that wait rise
  pub ahead_rising : {waiting : List ℕ} → Ahead Fits sources targets waiting → Rising sources → Rising waiting
  ahead_rising {waiting} a rise = rising_right a.paired waiting (subst Rising a.rest rise)

  -- ---- Ticks

  pub waiting_late : {s : ℕ} {waiting : List ℕ} (t : ℕ) → Ahead Fits sources targets (s ∷ waiting) → ((g : ℕ) → t ≤ g → ¬ Fits s g)
      → Lost t (Paired Fits) sources targets
  waiting_late {s} {waiting} t a misfit fs gs late_fs late p =
      let g = paired_further_target Fits (λ y. t ≤ y) a.paired targets s (waiting ++ fs) gs a.pairs.0 late
      (rw (a.rest, append_assoc a.paired (s ∷ waiting) fs) at p) in
      misfit g.0 g.1 g.2

  module _ (not_later : (x y : ℕ) → Fits x y → x ≤ y) where
    pub beyond_late : {b : ℕ} (t : ℕ) → Beyond Fits sources targets b → b < t → Lost t (Paired Fits) sources targets
    beyond_late {b} t beyond passed fs gs late late_gs p =
        let f = paired_further_source Fits (λ s. t ≤ s) sources beyond.paired b fs gs beyond.pairs.0 late
        (rw (beyond.rest, append_assoc beyond.paired (b ∷ []) gs) at p) in
        omega (arith, f.1, not_later f.0 b f.2)

    -- a target for which even a source at its time is too late
    pub beyond_misfits : (t : ℕ) → Ahead Fits sources targets [] → ¬ Fits t t → Lost t (Paired Fits) sources (targets ++ (t ∷ []))
    beyond_misfits t a misfit fs gs late late_gs p =
        let f = paired_further_source Fits (λ s. t ≤ s) sources targets t fs gs (ahead_paired a).0 late
        (rw (append_assoc targets (t ∷ []) gs) at p) in
        misfit (subst (λ (x : ℕ). Fits x t) (omega (arith, f.1, not_later f.0 t f.2)) f.2)

    -- ---- Open

    pub beyond_open : {now t : ℕ} → UpTo now sources targets → Beyond Fits sources targets t → now ≤ t
        → Further now sources (λ all. Paired Fits all targets)
    beyond_open {now} {t} r b in_time = (
      t ∷ [],
      rising_snoc sources t r.sources_rise earlier,
      each_cons (λ s. now ≤ s) t [] in_time (each_none (λ s. now ≤ s)),
      rw b.rest (paired_snoc Fits sources b.paired t t b.pairs b.at_once),
    )
      where
        earlier : Each (λ s. s < t) sources
        earlier i h =
            omega (
              arith,
              not_later (at sources i) (at b.paired i) (b.pairs.1 i h),
              rising_across b.paired (t ∷ []) (subst Rising b.rest r.targets_rise) i (omega (arith, b.pairs.0)) 0 (omega arith),
            )

  pub ahead_open : {now : ℕ} {waiting : List ℕ} (lower upper : ℕ) → lower ≤ upper → ((x y : ℕ) → Between lower upper x y → Fits x y)
      → UpTo now sources targets
      → Ahead Fits sources targets waiting → Each (λ s. first_free now targets ≤ s + upper) waiting
      → Further now targets (λ all. Paired Fits sources all)
  ahead_open {now} {waiting} lower upper sound fits r a in_time =
      let start : ℕ = first_free now targets in
      let between = answers_between lower upper start waiting sound (ahead_rising a r.sources_rise) in_time in (
        answers lower start waiting,
        answers_follow lower now targets waiting r.targets_rise,
        answers_from_now lower now targets waiting,
        rw a.rest (paired_append Fits a.paired targets waiting (answers lower start waiting) a.pairs
            (answers_count lower start waiting, λ i h. fits (at waiting i) (at (answers lower start waiting) i) (between i h))),
      )

  -- ---- Waiting

  pub ahead_count : {waiting : List ℕ} → Ahead Fits sources targets waiting → length sources ≡ length targets + length waiting
  ahead_count {waiting} a = ap length a.rest ∙ length-append a.paired waiting ∙ omega (arith, a.pairs.0)

  beyond_count : {t : ℕ} → Beyond Fits sources targets t → length targets ≡ length sources + 1
  beyond_count {t} b = ap length b.rest ∙ length-append b.paired (t ∷ []) ∙ omega (arith, b.pairs.0)

  pub pairing_waits : {early : ℕ} {waiting : List ℕ} → Pairing Fits sources targets early waiting → length sources - length targets ≡ length waiting
  pairing_waits (inl (none, a)) = omega (arith, ahead_count a)
  pairing_waits (inr (t, is, none, b)) = rw none (omega (arith, beyond_count b))

  -- the source just behind as many as there are targets is the first of them
  pub pairing_oldest : {early : ℕ} {waiting : List ℕ} → Pairing Fits sources targets early waiting → (missing : ℕ)
      → get_or sources (length targets) missing ≡ get_or waiting 0 missing
  pairing_oldest {waiting = waiting} (inl (none, a)) missing =
      let place : length targets ≡ length a.paired + 0 = omega (arith, a.pairs.0) in
      rw (place, a.rest) (get_or-append-add a.paired waiting 0 missing)
  pairing_oldest (inr (t, is, none, b)) missing = rw none (List·getD-eq-default sources missing (omega (arith, beyond_count b)))

  -- ---- Close

  -- the pairs are all there is just where nothing is beyond
  pub pairing_paired : {early : ℕ} (waiting : List ℕ) → Pairing Fits sources targets early waiting → length waiting ≡ 0 → early ≡ 0
      → Paired Fits sources targets
  pairing_paired [] (inl (none, a)) no_source no_target = ahead_paired a
  pairing_paired (s ∷ waiting) (inl (none, a)) no_source no_target = absurd (omega arith)
  pairing_paired waiting (inr (t, is, none, b)) no_source no_target = absurd (omega arith)

  pub paired_none_beyond : {early : ℕ} {waiting : List ℕ} → Pairing Fits sources targets early waiting → Paired Fits sources targets
      → (length waiting ≡ 0) × (early ≡ 0)
  paired_none_beyond (inl (none, a)) p = (omega (arith, p.0, ahead_count a), none)
  paired_none_beyond (inr (t, is, none, b)) p = absurd (omega (arith, p.0, beyond_count b))
