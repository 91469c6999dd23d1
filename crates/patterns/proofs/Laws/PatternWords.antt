-- Pattern with its offsets in the row's words: they are written from the start, and no event writes any.
use Rattle.constraint.proofs.Library.{Bool, List, List·getD-eq-default, [], ◌&&◌, ◌++◌, ◌+◌, ◌-◌, ◌||◌, ◌∙◌, ◌∷◌, ◌≡◌, ◌≤◌, ap, arith, by_cases}
use Rattle.constraint.proofs.Library.{cond, dec_lt, eqb, false, get_or-replicate, leb, length, length-append, length-replicate, ltb, refl, replicate}
use Rattle.constraint.proofs.Library.{sym, take, take-take, true, ℕ}
use Rattle.constraint.proofs.Lists.{Each, at_left, at_right, each_cons, each_none}
use Rattle.constraint.proofs.Streams.{streams_in}
use Rattle.constraint.specs.{Accepted.EachField, Accepted.FieldInRange, Accepted.InRange, Constraint.Constraint, Constraint.Pattern, Limits.last_time}
use Rattle.constraint.specs.{Meets.Meets, Steps.at, Types.offset_fields, Waiting.waiting}
use Rattle.constraint.specs.Meets.{MeetsPattern}
use Rattle.row_type.proofs.FitsRow.{FitsRow, Steady, fits_steady, keeping_counts, steady_breaking, steady_by, steady_drop}
use Rattle.row_type.proofs.{Exact.Exact, Exact.Sound, FieldNumbers.first_padded, FieldNumbers.tag_is, OneKind.Follows, OneKind.exact_one_kind}
use Rattle.row_type.proofs.{OneKind.follows_where}
use Rattle.row_type.specs.Parts.{far_enough, plus}
use Rattle.row_type.specs.{Parameters.parameters_of, Parameters.start_ring, Parameters.waits_in, Parameters.word_counts, Words.counts_saved}
use Rattle.row_type.specs.{declared.Change.Change, declared.Parameters.Parameters, declared.Registers.Registers}
use Rattle.ring.specs.Ring.{changed}
use Rattle.patterns.proofs.Laws.Pattern.{Given, pattern_follows}
use Rattle.patterns.specs.Pattern.{decide_in_words, decide_pattern, due_then, high_after, later_pattern, low_after, machine_pattern, number_after}
use Rattle.patterns.specs.Pattern.{placed_in, words_pattern}

-- behind the offsets are zeros, as behind the end of a list
words_at_lem : (offsets : List ℕ) (i : ℕ) → at (words_pattern offsets) i ≡ at offsets i
words_at_lem offsets i =
    by_cases (dec_lt i (length offsets))
    (λ inside. at_left offsets (replicate (8 - length offsets) 0) i inside)
    (λ behind. let place : i ≡ length offsets + (i - length offsets) = omega arith in
    ap (at (words_pattern offsets)) place ∙ at_right offsets (replicate (8 - length offsets) 0) (i - length offsets)
    ∙ zero_at (8 - length offsets) (i - length offsets) ∙ sym (List·getD-eq-default offsets 0 (omega arith)))
  where
    zero_at : (k j : ℕ) → at (replicate k 0) j ≡ 0
    zero_at k j =
        by_cases (dec_lt j k) (λ inside. get_or-replicate k j 0 0 inside)
        (λ behind. List·getD-eq-default (replicate k 0) 0 (omega (arith, length-replicate {A = ℕ} k 0)))

-- offsets that agree where they are read give the same decision
same_decision : (n period jitter minimum : ℕ) (f g : ℕ → ℕ) (registers : Registers) (t : ℕ) → ((i : ℕ) → f i ≡ g i)
    → decide_pattern n period jitter minimum f registers t ≡ decide_pattern n period jitter minimum g registers t
unfolding decide_pattern later_pattern placed_in
same_decision n period jitter minimum f g registers t same = rw (same registers.first, same (number_after n registers.first))

-- an event writes no word
module _ (n period jitter minimum : ℕ) (f : ℕ → ℕ) (m : Registers) (words : List ℕ) (t : ℕ) where
  steady_placed : (low high : ℕ) → Steady counts_saved m words (placed_in n period jitter minimum f m t m.first low high)
  unfolding placed_in
  steady_placed low high =
      steady_by (leb (f m.first) t && (leb low high && leb t (due_then n period jitter minimum f t m.first high)))
      (steady_drop 0 (ap (λ (x : Registers). record
      { last = x.last; first = number_after n m.first; second = low; third = high; fourth = plus t 1 })))
      (steady_breaking keeping_counts)

  steady_pattern : Steady counts_saved m words (decide_pattern n period jitter minimum f m t)
  unfolding decide_pattern later_pattern
  steady_pattern =
      steady_by (eqb m.fourth 0) (steady_placed (t - plus (f m.first) jitter) (t - f m.first))
      (steady_by (far_enough minimum m.fourth t && (ltb 0 m.first || ltb 0 period))
      (steady_placed (low_after n period jitter minimum f m t) (high_after n period jitter minimum f m t))
      (steady_breaking keeping_counts))

  -- a change that writes none
  record Stays (change : Change) : Type 0 where
    unwritten : changed change.edit words ≡ words

  stays_by : (b : Bool) {x y : Change} → Stays x → Stays y → Stays (cond b x y)
  stays_by true p q = p
  stays_by false p q = q

  stays_placed : (low high : ℕ) → Stays (placed_in n period jitter minimum f m t m.first low high)
  unfolding placed_in
  stays_placed low high =
      stays_by (leb (f m.first) t && (leb low high && leb t (due_then n period jitter minimum f t m.first high)))
      (record { unwritten = refl }) (record { unwritten = refl })

  stays_pattern : Stays (decide_pattern n period jitter minimum f m t)
  unfolding decide_pattern later_pattern
  stays_pattern =
      stays_by (eqb m.fourth 0) (stays_placed (t - plus (f m.first) jitter) (t - f m.first))
      (stays_by (far_enough minimum m.fourth t && (ltb 0 m.first || ltb 0 period))
      (stays_placed (low_after n period jitter minimum f m t) (high_after n period jitter minimum f m t)) (record { unwritten = refl }))

-- ---- what Pattern proves, with its offsets in the words

pub words_follow : (period jitter minimum : ℕ) (offsets : List ℕ) → Given period jitter offsets
    → Follows (MeetsPattern period jitter minimum offsets) (words_pattern offsets)
    (λ registers words t. decide_pattern (length offsets) period jitter minimum (at words) registers t)
words_follow period jitter minimum offsets given =
    follows_where
    (pattern_follows period jitter minimum offsets given (words_pattern offsets)
    (omega (arith, given.few, length-append offsets (replicate (8 - length offsets) 0), length-replicate {A = ℕ} (8 - length offsets) 0)))
    (λ words. words ≡ words_pattern offsets) refl
    (λ registers words t is. same_decision (length offsets) period jitter minimum (at offsets) (at words) registers t
    (λ i. sym (ap (λ l. at l i) is ∙ words_at_lem offsets i)))
    (λ events registers words t keeps is. (stays_pattern (length offsets) period jitter minimum (at offsets) registers words t).unwritten ∙ is)

-- of a rule with these numbers
pub row_follows : (parameters : Parameters) (offsets : List ℕ) → Given parameters.upper parameters.jitter offsets
    → parameters.span ≡ length offsets → (kind : ℕ)
    → Follows (MeetsPattern parameters.upper parameters.jitter parameters.minimum offsets) (words_pattern offsets)
    (λ registers words t. decide_in_words parameters registers words kind t)
unfolding decide_in_words
row_follows parameters offsets given is kind = rw is (words_follow parameters.upper parameters.jitter parameters.minimum offsets given)

-- ---- Exact

-- the offsets are no streams, and each of them is in its range
no_streams : (offsets : List ℕ) → streams_in (offset_fields offsets) ≡ []
no_streams [] = refl
no_streams (x ∷ offsets) = no_streams offsets

small_each : (offsets : List ℕ) → EachField FieldInRange (offset_fields offsets) → Each (λ o. o ≤ last_time) offsets
small_each [] small = each_none (λ o. o ≤ last_time)
small_each (x ∷ offsets) small = each_cons (λ o. o ≤ last_time) x offsets small.0 (small_each offsets small.1)

-- §5.15
pub exact_pattern : (kind period jitter minimum : ℕ) (offsets : List ℕ) → Sound (Pattern kind period jitter minimum offsets)
    → Exact (Pattern kind period jitter minimum offsets) (decide_in_words (parameters_of (Pattern kind period jitter minimum offsets)))
unfolding Meets waiting InRange
exact_pattern kind period jitter minimum offsets sound =
    exact_one_kind c (decide_in_words (parameters_of c))
    (record {
      kind = kind;
      Says = MeetsPattern period jitter minimum offsets;
      words = words_pattern offsets;
      follows = row_follows (parameters_of c) offsets given refl kind;
      one_kind = ap (λ (ks : List ℕ). kind ∷ ks) (no_streams offsets);
      start_words_lem = ap (λ (n : ℕ). take n (start_ring c)) (ap (at word_counts) (tag_is c))
          ∙ take-take 8 64 (offsets ++ replicate 64 0) (omega arith) ∙ first_padded 8 64 0 offsets (omega arith) given.few;
      meets = λ steps. (λ m. m, λ m. m);
      none_waits = ap waits_in (tag_is c);
      waits_none = λ steps. refl;
    })
  where
    c : Constraint
    c = Pattern kind period jitter minimum offsets

    given : Given period jitter offsets
    given =
        let n_known = sound.known.1.n_known refl in
        let in_range = sound.in_range.1.1 in
        record {
          some = n_known.0;
          few = n_known.1;
          small_period = in_range.0;
          small_jitter = in_range.1.0;
          small_offsets = small_each offsets in_range.1.1.1;
        }

-- ---- In a row

steady_words : (parameters : Parameters) (m : Registers) (words : List ℕ) (s t : ℕ)
    → Steady counts_saved m words (decide_in_words parameters m words s t)
unfolding decide_in_words
steady_words parameters m words s t =
    steady_pattern parameters.span parameters.upper parameters.jitter parameters.minimum (at words) m words t

-- §5.15
pub fits_pattern : FitsRow machine_pattern
fits_pattern = fits_steady keeping_counts steady_words
