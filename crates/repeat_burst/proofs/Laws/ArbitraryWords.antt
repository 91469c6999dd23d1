-- Arbitrary with its pairs in the row's first words: they are written from the start and stay, as each event writes behind them.
use Rattle.constraint.proofs.Library.{List, [], ◌%◌, ◌*◌, ◌++◌, ◌+◌, ◌-◌, ◌<◌, ◌∙◌, ◌∷◌, ◌≡◌, ◌≤◌, ap, arith, cond, get_or-replicate}
use Rattle.constraint.proofs.Library.{get_or-set_other, length, length-append, length-map, length-replicate, min, refl, replicate, set, suc, sym}
use Rattle.constraint.proofs.Library.{take}
use Rattle.constraint.proofs.Library.{take-take, true, zero, ℕ}
use Rattle.constraint.proofs.Lists.{at_left, at_right, split}
use Rattle.constraint.proofs.Streams.{streams_in}
use Rattle.row_type.specs.Parameters.{flat_pairs}
use Rattle.constraint.specs.{Constraint.Arbitrary, Constraint.Constraint, Meets.Meets, Steps.at}
use Rattle.constraint.specs.{Types.pair_fields, Waiting.waiting}
use Rattle.constraint.specs.Meets.{MeetsArbitrary}
use Rattle.row_type.proofs.FitsRow.{FitsRow, Steady, fits_steady, keeping_counts, steady_breaking, steady_by, steady_store}
use Rattle.row_type.proofs.{Exact.Exact, Exact.Sound, FieldNumbers.first_padded, FieldNumbers.tag_is, OneKind.Follows, OneKind.exact_one_kind}
use Rattle.row_type.proofs.{OneKind.follows_where}
use Rattle.row_type.specs.Parts.{breaking, continues_with, plus, registers_of}
use Rattle.row_type.specs.{Parameters.parameters_of, Parameters.start_ring, Parameters.waits_in, Parameters.word_counts, Words.counts_saved}
use Rattle.row_type.specs.{declared.Change.Change, declared.Parameters.Parameters, declared.Registers.Registers}
use Rattle.ring.specs.Ring.{changed}
use Rattle.repeat_burst.proofs.Laws.Arbitrary.{Blank, arbitrary_follows, due_same, late_same}
use Rattle.repeat_burst.specs.Arbitrary.{decide_arbitrary, decide_in_words, due_after, late_enough, lower_in, machine_arbitrary, maxima_in, minima_in}
use Rattle.repeat_burst.specs.Arbitrary.{next_place, note_time, upper_in, words_arbitrary}

-- ---- the pairs among the words

pairs_length : (pairs : List (ℕ × ℕ)) → length (flat_pairs pairs) ≡ 2 * length (minima_in pairs)
pairs_length [] = refl
pairs_length (p ∷ pairs) = omega (arith, pairs_length pairs)

pair_at : (pairs : List (ℕ × ℕ)) (i : ℕ) → i < length (minima_in pairs)
    → (lower_in (flat_pairs pairs) i ≡ at (minima_in pairs) i) × (upper_in (flat_pairs pairs) i ≡ at (maxima_in pairs) i)
pair_at [] i h = absurd (omega arith)
pair_at (p ∷ pairs) zero h = (refl, refl)
pair_at (p ∷ pairs) (suc i) h =
    let (low, high) = pair_at pairs i (omega arith) in
    let place : 2 * suc i ≡ suc (suc (2 * i)) = omega arith in
    let behind : 2 * suc i + 1 ≡ suc (suc (2 * i + 1)) = omega arith in
    (ap (at (flat_pairs (p ∷ pairs))) place ∙ low, ap (at (flat_pairs (p ∷ pairs))) behind ∙ high)

module _ (pairs : List (ℕ × ℕ)) (few : length (minima_in pairs) ≤ 8) where
  -- the words hold the pairs
  abbrev HoldsPairs : List ℕ → Type 0
  HoldsPairs words =
      (i : ℕ) → i < length (minima_in pairs) → (lower_in words i ≡ at (minima_in pairs) i) × (upper_in words i ≡ at (maxima_in pairs) i)

  abbrev zeros : ℕ
  zeros = 24 - length (flat_pairs pairs)

  words_blank : Blank (minima_in pairs) (maxima_in pairs) 16 (words_arbitrary pairs)
  words_blank =
      record {
        size = omega (arith, length-append (flat_pairs pairs) (replicate zeros 0), length-replicate {A = ℕ} zeros 0, pairs_length pairs);
        empty = λ j l. let place : 16 + j ≡ length (flat_pairs pairs) + (16 + j - length (flat_pairs pairs)) = omega (arith, pairs_length pairs) in
            ap (at (words_arbitrary pairs)) place ∙ at_right (flat_pairs pairs) (replicate zeros 0) (16 + j - length (flat_pairs pairs))
            ∙ get_or-replicate zeros (16 + j - length (flat_pairs pairs)) 0 0 (omega (arith, pairs_length pairs, few));
      }

  words_hold : HoldsPairs (words_arbitrary pairs)
  words_hold i l =
      let (low, high) = pair_at pairs i l in (
        at_left (flat_pairs pairs) (replicate zeros 0) (2 * i) (omega (arith, pairs_length pairs)) ∙ low,
        at_left (flat_pairs pairs) (replicate zeros 0) (2 * i + 1) (omega (arith, pairs_length pairs)) ∙ high,
      )

  -- what is read from the words is what the lists say
  same_decision : (registers : Registers) (words : List ℕ) (t : ℕ) → HoldsPairs words
      → decide_arbitrary (length (minima_in pairs)) (at (minima_in pairs)) (at (maxima_in pairs)) 16 registers words t
      ≡ decide_arbitrary (length (minima_in pairs)) (lower_in words) (upper_in words) 16 registers words t
  unfolding decide_arbitrary
  same_decision registers words t holds =
      rw (
        late_same (length (minima_in pairs)) (at (minima_in pairs)) (lower_in words) 16 registers.first words t (λ i l. sym (holds i l).0),
        due_same (length (minima_in pairs)) (at (maxima_in pairs)) (upper_in words) 16 registers.first words t (λ i l. sym (holds i l).1),
      )

  -- an event writes behind them
  pairs_stay : (registers : Registers) (words : List ℕ) (t : ℕ) → HoldsPairs words
      → HoldsPairs (changed (decide_arbitrary (length (minima_in pairs)) (at (minima_in pairs)) (at
      (maxima_in pairs)) 16 registers words t).edit words)
  unfolding decide_arbitrary
  pairs_stay registers words t holds =
      split (late_enough (length (minima_in pairs)) (at (minima_in pairs)) 16 registers.first words t)
      (λ x. HoldsPairs (changed (cond {A = Change} x goes breaking).edit words))
      (λ e i l. (stored (2 * i) (omega arith) ∙ (holds i l).0, stored (2 * i + 1) (omega arith) ∙ (holds i l).1))
      (λ e. holds)
    where
      goes : Change
      goes =
          continues_with (note_time 16 registers.first words t)
          (registers_of registers.last (next_place registers.first) registers.second registers)
          (due_after (length (minima_in pairs)) (at (maxima_in pairs)) 16 registers.first words t) true

      stored : (j : ℕ) → j < 16 → at (changed (note_time 16 registers.first words t) words) j ≡ at words j
      stored j l =
          get_or-set_other (set words (16 + registers.first % 8) (plus t 1)) (16 + registers.first % 8 + 1) j
          (at words (16 + registers.first % 8 + 1)) 0 (λ e. omega arith)
          ∙ get_or-set_other words (16 + registers.first % 8) j (plus t 1) 0 (λ e. omega arith)

  -- ---- what Arbitrary proves, with its pairs in the words

  pub words_follow : Follows (MeetsArbitrary (minima_in pairs) (maxima_in pairs)) (words_arbitrary pairs)
      (λ registers words t. decide_arbitrary (length (minima_in pairs)) (lower_in words) (upper_in words) 16 registers words t)
  words_follow =
      follows_where (arbitrary_follows (minima_in pairs) (maxima_in pairs) 16 few (omega arith) (words_arbitrary pairs) words_blank)
      HoldsPairs words_hold same_decision (λ events registers words t keeps. pairs_stay registers words t)

-- of a rule whose span is n
pub row_follows : (pairs : List (ℕ × ℕ)) → length (minima_in pairs) ≤ 8 → (parameters : Parameters) → parameters.span ≡ length (minima_in pairs)
    → (kind : ℕ)
    → Follows (MeetsArbitrary (minima_in pairs) (maxima_in pairs)) (words_arbitrary pairs)
    (λ registers words t. decide_in_words parameters registers words kind t)
unfolding decide_in_words
row_follows pairs few parameters is kind =
    let all : min parameters.span 8 ≡ length (minima_in pairs) = omega (arith, is, few) in
    rw all (words_follow pairs few)

-- ---- Exact

-- the pairs are no streams
no_streams : (pairs : List (ℕ × ℕ)) → streams_in (pair_fields pairs) ≡ []
no_streams [] = refl
no_streams (p ∷ pairs) = no_streams pairs

-- §5.16
pub exact_arbitrary : (kind : ℕ) (pairs : List (ℕ × ℕ)) → Sound (Arbitrary kind pairs)
    → Exact (Arbitrary kind pairs) (decide_in_words (parameters_of (Arbitrary kind pairs)))
unfolding Meets waiting
exact_arbitrary kind pairs sound =
    exact_one_kind c (decide_in_words (parameters_of c))
    (record {
      kind = kind;
      Says = MeetsArbitrary (minima_in pairs) (maxima_in pairs);
      words = words_arbitrary pairs;
      follows = row_follows pairs few (parameters_of c) (sym as_many) kind;
      one_kind = ap (λ (ks : List ℕ). kind ∷ ks) (no_streams pairs);
      start_words_lem = ap (λ (n : ℕ). take n (start_ring c)) (ap (at word_counts) (tag_is c))
          ∙ take-take 24 64 (flat_pairs pairs ++ replicate 64 0) (omega arith)
          ∙ first_padded 24 64 0 (flat_pairs pairs) (omega arith) (omega (arith, pairs_length pairs, few));
      meets = λ steps. (λ m. m, λ m. m);
      none_waits = ap waits_in (tag_is c);
      waits_none = λ steps. refl;
    })
  where
    c : Constraint
    c = Arbitrary kind pairs

    as_many : length (minima_in pairs) ≡ length pairs
    as_many = length-map pairs (λ p. p.0)

    few : length (minima_in pairs) ≤ 8
    few = omega (arith, as_many, (sound.known.1.n_known refl).1)

-- ---- In a row

-- as many words as before, and an event changes one mark
steady_arbitrary : (parameters : Parameters) (m : Registers) (words : List ℕ) (s t : ℕ)
    → Steady counts_saved m words (decide_in_words parameters m words s t)
unfolding decide_in_words decide_arbitrary
steady_arbitrary parameters m words s t =
    steady_by (late_enough (min parameters.span 8) (lower_in words) 16 m.first words t)
    (steady_store (16 + m.first % 8) (plus t 1) (at words (16 + m.first % 8 + 1))
    (ap (λ (x : Registers). registers_of x.last (next_place m.first) x.second x))) (steady_breaking keeping_counts)

-- §5.16
pub fits_arbitrary : FitsRow machine_arbitrary
fits_arbitrary = fits_steady keeping_counts steady_arbitrary
