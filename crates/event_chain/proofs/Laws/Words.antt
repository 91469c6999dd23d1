-- The words of each colour: new words of one leave the others, and the due time is the first of the colours' last moments.
use Rattle.event_chain.specs.{Coloured.least_of, Marked.coloured_kind, Pairs.due_pairs, Pairs.owed_pair, Reaction.latest}
use Rattle.constraint.proofs.Library.{List, ◌*◌, ◌+◌, ◌-◌, ◌<◌, ◌∙◌, ◌≡◌, ◌≤◌, ap, ap₂, arith, by_cases, cond, eq-eqb, get_or}
use Rattle.constraint.proofs.Library.{get_or-set_other, get_or-set_same, le-ltb, length, length-set, ltb, min, ne_eqb, refl, set, suc, sym, zero}
use Rattle.constraint.proofs.Library.{ℕ, ℕ_discrete}
use Rattle.constraint.specs.{Limits.first_coloured, Limits.last_colour, Limits.no_limit, Streams.stream}
use Rattle.row_type.proofs.FitsRow.{Unkept}
use Rattle.row_type.specs.{Parts.breaking, Parts.with_last, Words.last_saved, declared.Change.Change, declared.Registers.Registers}

-- the words of a colour, and words with those of a colour new
abbrev pub low_of : List ℕ → ℕ → ℕ
low_of words d = get_or words (2 * d) 0

abbrev pub high_of : List ℕ → ℕ → ℕ
high_of words d = get_or words (2 * d + 1) 0

abbrev pub stored : List ℕ → ℕ → ℕ → ℕ → List ℕ
stored words d low high = set (set words (2 * d) low) (2 * d + 1) high

-- the kind of a coloured stream
pub stream_coloured : (k d : ℕ) → first_coloured ≤ k → d ≤ last_colour → coloured_kind (stream k d) ≡ k
stream_coloured k d h few = omega arith

-- a mark for the due time leaves the other marks as they are
pub marking_last : {m : Registers} (due : ℕ) → Unkept last_saved m → Unkept last_saved (with_last m (no_limit - due))
marking_last due e = ap (λ (x : Registers). with_last x (no_limit - due)) e

-- a row that is long enough does not break for that
pub long_enough : (n : ℕ) (words : List ℕ) (x : Change) → n ≤ length words → cond (ltb (length words) n) breaking x ≡ x
long_enough n words x many = rw (le-ltb (length words) n many) refl

-- ---- the last moment of a colour

pub latest_none : (high : ℕ) → high ≡ 0 → latest high ≡ no_limit
latest_none high e = rw e

pub latest_some : (high : ℕ) → ¬ (high ≡ 0) → latest high ≡ high - 1
latest_some high h = rw (ne_eqb high 0 h)

-- ---- new words of a colour

module _ (words : List ℕ) (whole : length words ≡ 16) (d low high : ℕ) (few : d < 8) where
  pub stored_whole : length (stored words d low high) ≡ 16
  stored_whole = length-set (set words (2 * d) low) (2 * d + 1) high ∙ length-set words (2 * d) low ∙ whole

  pub stored_low : low_of (stored words d low high) d ≡ low
  stored_low =
      get_or-set_other (set words (2 * d) low) (2 * d + 1) (2 * d) high 0 (λ e. omega arith)
      ∙ get_or-set_same words (2 * d) low 0 (omega arith)

  pub stored_high : high_of (stored words d low high) d ≡ high
  stored_high = get_or-set_same (set words (2 * d) low) (2 * d + 1) high 0 (omega (arith, length-set words (2 * d) low))

  module _ (e : ℕ) (other : ¬ (e ≡ d)) where
    pub other_low : low_of (stored words d low high) e ≡ low_of words e
    other_low =
        get_or-set_other (set words (2 * d) low) (2 * d + 1) (2 * e) high 0 (λ same. omega arith)
        ∙ get_or-set_other words (2 * d) (2 * e) low 0 (λ same. other (omega arith))

    pub other_high : high_of (stored words d low high) e ≡ high_of words e
    other_high =
        get_or-set_other (set words (2 * d) low) (2 * d + 1) (2 * e + 1) high 0 (λ same. other (omega arith))
        ∙ get_or-set_other words (2 * d) (2 * e + 1) low 0 (λ same. omega arith)

  -- the last moments and the due time of the definition are those of the new words
  module _ (owed : ℕ → ℕ → ℕ) where
    owed_stored : (n : ℕ) → owed_pair owed d low high words n ≡ owed (low_of (stored words d low high) n) (high_of (stored words d low high) n)
    owed_stored n =
        by_cases (ℕ_discrete n d)
        (λ e. rw (eq-eqb n d e) (ap₂ owed (sym stored_low ∙ ap (low_of (stored words d low high)) (sym e))
        (sym stored_high ∙ ap (high_of (stored words d low high)) (sym e))))
        (λ o. rw (ne_eqb n d o) (ap₂ owed (sym (other_low n o)) (sym (other_high n o))))

    pub due_stored : (n : ℕ) → due_pairs owed d low high words n
        ≡ least_of (λ e. owed (low_of (stored words d low high) e) (high_of (stored words d low high) e)) n
    unfolding due_pairs least_of
    due_stored zero = refl
    due_stored (suc n) = ap₂ min (due_stored n) (owed_stored n)
