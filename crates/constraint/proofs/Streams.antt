-- Streams and their kinds: the numbering is one to one, and a stream is one of a row's just where its kind is one of the row's.
use Rattle.constraint.proofs.Names.{Constraint, Field, List, EachField, KindClassFits, [], ◌++◌, ◌+◌, ◌-◌, ◌/◌, ◌<◌, ◌||◌, ◌∙◌, ◌∷◌, ◌≡◌, ◌≤◌}
use Rattle.constraint.proofs.Names.{among, ap}
use Rattle.constraint.proofs.Names.{ap₂}
use Rattle.constraint.proofs.Names.{arith, at, by_cases, byte, coloured, count, dec_lt, either_true, eq-eqb, eqb, eqb-false, eqb-true, false}
use Rattle.constraint.proofs.Names.{fields_of, first_coloured, kind, kind_of, kinds_in, last_colour, last_kind, le-ltb, length, lt-ltb, ne_eqb, refl}
use Rattle.constraint.proofs.Names.{span, stream, stream_count, subst, suc, sym, time, true, zero, ℕ, ⊎_elim}
use Rattle.constraint.proofs.Lists.{both, or-true, split}

-- ---- a row's streams

-- the streams of a coloured kind, one for each colour
abbrev pub colours : ℕ → List ℕ
colours k = stream k 0 ∷ stream k 1 ∷ stream k 2 ∷ stream k 3 ∷ stream k 4 ∷ stream k 5 ∷ stream k 6 ∷ stream k 7 ∷ []

-- the streams of some fields' kinds
abbrev pub streams_in : List Field → List ℕ
streams_in [] = []
streams_in (byte kind x ∷ fields) = x ∷ streams_in fields
streams_in (byte coloured x ∷ fields) = colours x ++ streams_in fields
streams_in (byte count x ∷ fields) = streams_in fields
streams_in (byte (span limit) x ∷ fields) = streams_in fields
streams_in (time role x ∷ fields) = streams_in fields

-- §1.9: the streams that concern a row: its plain kinds, and each colour of its coloured ones
abbrev pub streams : Constraint → List ℕ
streams c = streams_in (fields_of c)

-- ---- the numbering

pub stream_below : (k c : ℕ) → k ≤ last_kind → c ≤ last_colour → stream k c < stream_count
stream_below k c small few = omega arith

-- §1.9: no two kinds and colours share a stream
pub streams_apart : (j k c d : ℕ) → first_coloured ≤ j → first_coloured ≤ k → c ≤ last_colour → d ≤ last_colour → stream j c ≡ stream k d → (j ≡ k)
    × (c ≡ d)
streams_apart j k c d a b p q same = (omega arith, omega arith)

-- the kind of a plain stream is that stream, and that of a coloured one its kind
pub plain_kind : (s : ℕ) → s < first_coloured → kind_of s ≡ s
plain_kind s h = rw (lt-ltb s first_coloured h)

pub coloured_kind_lem : (s : ℕ) → first_coloured ≤ s → kind_of s ≡ first_coloured + (s - first_coloured) / 8
coloured_kind_lem s h = rw (le-ltb s first_coloured h)

-- §1.9
pub stream_kind : (k c : ℕ) → first_coloured ≤ k → c ≤ last_colour → kind_of (stream k c) ≡ k
stream_kind k c h few = coloured_kind_lem (stream k c) (omega arith) ∙ omega arith

-- the kind of a stream is a kind
pub kind_small : (s : ℕ) → s < stream_count → kind_of s ≤ last_kind
kind_small s h =
    by_cases (dec_lt s first_coloured) (λ plain. rw (plain_kind s plain) (omega arith))
    (λ late. rw (coloured_kind_lem s (omega arith)) (omega arith))

-- the streams of a coloured kind, by their colour
pub colour_at : (k c : ℕ) → c ≤ last_colour → at (colours k) c ≡ stream k c
colour_at k zero h = refl
colour_at k (suc zero) h = refl
colour_at k (suc (suc zero)) h = refl
colour_at k (suc (suc (suc zero))) h = refl
colour_at k (suc (suc (suc (suc zero)))) h = refl
colour_at k (suc (suc (suc (suc (suc zero))))) h = refl
colour_at k (suc (suc (suc (suc (suc (suc zero)))))) h = refl
colour_at k (suc (suc (suc (suc (suc (suc (suc zero))))))) h = refl
colour_at k (suc (suc (suc (suc (suc (suc (suc (suc c)))))))) h = absurd (omega arith)

-- ---- a stream among a row's

-- a number among some is at one of their places
pub among_where : (k : ℕ) (ks : List ℕ) → among k ks ≡ true → (i : ℕ) × (i < length ks) × (at ks i ≡ k)
among_where k [] e = both (sym e)
among_where k (j ∷ ks) e =
    ⊎_elim (λ p. (0, omega arith, sym (eqb-true k j p))) (λ p. let r = among_where k ks p in (suc r.0, omega (arith, r.1), r.2))
    (or-true (eqb k j) (among k ks) e)

pub among_at : (ks : List ℕ) (i : ℕ) → i < length ks → among (at ks i) ks ≡ true
among_at [] i h = absurd (omega arith)
among_at (k ∷ ks) zero h = rw (eq-eqb k k refl)
among_at (k ∷ ks) (suc i) h = rw (among_at ks i (omega arith)) (either_true (eqb (at ks i) k))

among_append : (s : ℕ) (a b : List ℕ) → among s (a ++ b) ≡ (among s a || among s b)
among_append s [] b = refl
among_append s (k ∷ a) b = split (eqb s k) (λ x. (x || among s (a ++ b)) ≡ ((x || among s a) || among s b)) (λ e. refl) (λ e. among_append s a b)

-- a plain kind is that of one stream
plain_alone : (s k : ℕ) → k < first_coloured → eqb (kind_of s) k ≡ eqb s k
plain_alone s k h =
    by_cases (dec_lt s first_coloured) (λ plain. rw (plain_kind s plain))
    (λ late. rw (
      coloured_kind_lem s (omega arith),
      ne_eqb (first_coloured + (s - first_coloured) / 8) k (λ e. omega arith),
      ne_eqb s k (λ e. omega arith),
    ))

-- a coloured kind is that of its eight streams
coloured_alone : (s k : ℕ) → first_coloured ≤ k → eqb (kind_of s) k ≡ among s (colours k)
coloured_alone s k h =
    split (eqb (kind_of s) k) (λ x. x ≡ among s (colours k)) (λ e. sym (inside (eqb-true (kind_of s) k e)))
    (λ e. sym (outside (eqb-false (kind_of s) k e)))
  where
    late : kind_of s ≡ k → first_coloured ≤ s
    late e = by_cases (dec_lt s first_coloured) (λ plain. absurd (omega (arith, plain_kind s plain))) (λ not. omega arith)

    inside : kind_of s ≡ k → among s (colours k) ≡ true
    inside e =
        let is : first_coloured + (s - first_coloured) / 8 ≡ k = sym (coloured_kind_lem s (late e)) ∙ e in
        let c = s - stream k 0 in
        let few : c ≤ last_colour = omega (arith, late e) in
        let same : at (colours k) c ≡ s = colour_at k c few ∙ omega (arith, late e) in
        subst (λ (x : ℕ). among x (colours k) ≡ true) same (among_at (colours k) c (omega arith))

    outside : ¬ (kind_of s ≡ k) → among s (colours k) ≡ false
    outside other =
        split (among s (colours k)) (λ x. x ≡ false)
        (λ e. let (c, few, is) = among_where s (colours k) e in
        absurd (other (ap kind_of (sym is ∙ colour_at k c (omega arith)) ∙ stream_kind k c h (omega arith))))
        (λ e. refl)

-- §1.9: the kinds fitting, a stream is among those of some fields just where its kind is among theirs
pub among_kinds : (s : ℕ) (fields : List Field) → EachField KindClassFits fields → among (kind_of s) (kinds_in fields) ≡ among s (streams_in fields)
among_kinds s [] h = refl
among_kinds s (byte kind x ∷ fields) h = ap₂ ◌||◌ (plain_alone s x h.0) (among_kinds s fields h.1)
among_kinds s (byte coloured x ∷ fields) h =
    ap₂ ◌||◌ (coloured_alone s x h.0) (among_kinds s fields h.1) ∙ sym (among_append s (colours x) (streams_in fields))
among_kinds s (byte count x ∷ fields) h = among_kinds s fields h.1
among_kinds s (byte (span limit) x ∷ fields) h = among_kinds s fields h.1
among_kinds s (time role x ∷ fields) h = among_kinds s fields h.1
