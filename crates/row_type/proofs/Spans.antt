-- Events that are at least a distance apart: one more event adds its distance from the event span places before it.
use Rattle.row_type.proofs.Names.{Apart, AtLeastApart, List, Rising, SpansApart, [], ◌++◌, ◌+◌, ◌-◌, ◌∷◌, ◌≡◌, ◌≤◌, arith, at, at_left}
use Rattle.row_type.proofs.Names.{at_next}
use Rattle.row_type.proofs.Names.{by_cases, dec_lt, eqb, eqb-false, eqb-true, false, far_enough, inl, leb, length, length-append, no_limit, refl}
use Rattle.row_type.proofs.Names.{rising_by, suc, true, ℕ}
use Rattle.row_type.proofs.Tests.{Tells, tells_leb, tells_or, tells_same}

module _ (span lower upper : ℕ) where
  pub apart_first : (xs ys : List ℕ) → SpansApart span lower upper (xs ++ ys) → SpansApart span lower upper xs
  unfolding SpansApart
  apart_first xs ys m i h = rw (at_left xs ys i (omega arith), at_left xs ys (i + span) h) at (m i (omega (arith, length-append xs ys)))

  module _ (events : List ℕ) (t : ℕ) where
    -- the event at t is far enough from the event span places before it
    abbrev pub ApartFromNew : Type 0
    ApartFromNew = (i : ℕ) → i + span ≡ length events → Apart lower upper (at events i) t

    pub apart_new : 1 ≤ span → SpansApart span lower upper (events ++ (t ∷ [])) → ApartFromNew
    unfolding SpansApart
    apart_new some m i e =
        rw (at_left events (t ∷ []) i (omega arith), at_next events t [] (i + span) e) at (m i (omega (arith, length-append events (t ∷ []))))

    pub apart_more : 1 ≤ span → SpansApart span lower upper events → ApartFromNew → SpansApart span lower upper (events ++ (t ∷ []))
    unfolding SpansApart
    apart_more some m new i h =
        rw (at_left events (t ∷ []) i (omega (arith, length-append events (t ∷ []))))
        (by_cases (dec_lt (i + span) (length events))
        (λ old. rw (at_left events (t ∷ []) (i + span) old) (m i old))
        (λ end. let e : i + span ≡ length events = omega (arith, length-append events (t ∷ [])) in rw (at_next events t [] (i + span) e) (new i e)))

pub rising_apart : (events : List ℕ) → Rising events → AtLeastApart 0 events
unfolding SpansApart
rising_apart events r i h = (omega (arith, rising_by events r i 1 h), inl refl)

-- ---- the last event

-- one more than the time of the last event; 0: none
abbrev pub LastIs : List ℕ → ℕ → Type 0
LastIs events last = (length events ≡ 0 → last ≡ 0) × ((n : ℕ) → length events ≡ suc n → last ≡ at events n + 1)

pub last_none : LastIs [] 0
last_none = (λ e. refl, λ n e. absurd (omega arith))

pub last_new : (events : List ℕ) (t last : ℕ) → last ≡ t + 1 → LastIs (events ++ (t ∷ [])) last
last_new events t last is = (
  λ e. absurd (omega (arith, length-append events (t ∷ []))),
  λ n e. rw (at_next events t [] n (omega (arith, length-append events (t ∷ [])))) is,
)

pub last_zero : (events : List ℕ) (last : ℕ) → LastIs events last → eqb last 0 ≡ true → length events ≡ 0
last_zero events last is e =
    by_cases (dec_lt 0 (length events))
    (λ some. absurd (omega (arith, eqb-true last 0 e, is.1 (length events - 1) (omega arith))))
    (λ empty. omega arith)

pub last_some : (events : List ℕ) (last : ℕ) → LastIs events last → eqb last 0 ≡ false → (n : ℕ) × (length events ≡ suc n) × (last ≡ at events n + 1)
last_some events last is e =
    by_cases (dec_lt 0 (length events))
    (λ some. (length events - 1, omega arith, is.1 (length events - 1) (omega arith)))
    (λ empty. absurd (eqb-false last 0 e (is.0 (omega arith))))

-- the test of the distance from the last event
pub far_enough_lem : (minimum : ℕ) (events : List ℕ) (t last : ℕ) → LastIs events last → AtLeastApart minimum events
    → Tells (AtLeastApart minimum (events ++ (t ∷ []))) (far_enough minimum last t)
far_enough_lem minimum events t last is apart =
    tells_or (eqb last 0) (leb (last + minimum) (t + 1))
    (λ e. apart_more 1 minimum no_limit events t (omega arith) apart (λ i f. absurd (omega (arith, is.1 i (omega arith), eqb-true last 0 e))))
    (λ e. tells_same (tells_leb (last + minimum) (t + 1))
    (λ far. apart_more 1 minimum no_limit events t (omega arith) apart (λ i f. (omega (arith, is.1 i (omega arith)), inl refl)))
    (λ m. let (n, more, e) = last_some events last is e in omega (arith, apart_new 1 minimum no_limit events t (omega arith) m n (omega arith))))
