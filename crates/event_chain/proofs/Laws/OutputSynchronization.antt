-- An OutputSynchronization is exact, colour by colour: a stimulus has to come before every response, or at its time; and once there is a stimulus,
-- the missing kinds have to respond until tolerance after the first response.
use Rattle.event_chain.proofs.Laws.ByColour.{Lost, least_above, least_below, least_found, sum_fewer, sum_of, with_one}
use Rattle.event_chain.proofs.Laws.ByWords.{ByWords, NearerWord, coloured_row, exact_by_words, steady_words}
use Rattle.event_chain.proofs.Laws.Firsts.{FirstOf, by_kind_lem, each_snoc, first_is, first_missing, first_new, first_old, first_snoc, first_there}
use Rattle.event_chain.proofs.Laws.Firsts.{least_missing, least_there, with_other, word_is}
use Rattle.event_chain.proofs.Laws.Words.{latest_none, latest_some}
use Rattle.event_chain.specs.Coloured.{first_word, least_of}
use Rattle.event_chain.specs.OutputSynchronization.{all_responded, breaks_output, decide_output_synchronization}
use Rattle.event_chain.specs.OutputSynchronization.{first_response}
use Rattle.event_chain.specs.OutputSynchronization.{machine_output_synchronization, owed_output, word_output}
use Rattle.event_chain.specs.Reaction.{latest}
use Rattle.constraint.proofs.Library.{List, [], ◌++◌, ◌+◌, ◌-◌, ◌<◌, ◌||◌, ◌∙◌, ◌∷◌, ◌≡◌, ◌≤◌, ◌⊎◌, ap, arith, by_cases, cond, eqb, eqb-false}
use Rattle.constraint.proofs.Library.{eqb-true, get_or-set_other, get_or-set_same, inl, inr, length, length-append, ltb, ltb-false, ltb-true, min}
use Rattle.constraint.proofs.Library.{ne_eqb}
use Rattle.constraint.proofs.Library.{refl, replicate, set, subst, suc, sym, zero, ℕ, ℕ_discrete, ⊎_elim}
use Rattle.constraint.proofs.Lists.{Each, at_left, at_next, each_none, or_false, or-true, split}
use Rattle.constraint.specs.Steps.{at}
use Rattle.constraint.specs.{Constraint.OutputSynchronization, Limits.last_time, Limits.no_limit, Meets.Meets, Meets.MeetsOutputSynchronization}
use Rattle.constraint.specs.{Waiting.waiting}
use Rattle.row_type.proofs.Exact.{Exact, Sound}
use Rattle.row_type.proofs.FitsRow.{FitsRow, fits_steady, keeping_last}
use Rattle.row_type.specs.{Parameters.parameters_of, Parts.plus}

latest_above : (x t : ℕ) → (0 < x → t < x) → t ≤ no_limit → t ≤ latest x
latest_above x t h small =
    by_cases (ℕ_discrete x 0) (λ e. omega (arith, latest_none x e)) (λ o. omega (arith, latest_some x o, h (omega arith)))

above_latest : (x t : ℕ) → t ≤ latest x → 0 < x → t < x
above_latest x t h some = omega (arith, latest_some x (λ e. omega arith))

latest_there : (x : ℕ) → latest x < no_limit → (0 < x) × (x ≡ latest x + 1)
latest_there x h =
    by_cases (ℕ_discrete x 0) (λ e. absurd (omega (arith, latest_none x e)))
    (λ o. (omega arith, omega (arith, latest_some x o)))

module _ (n tolerance : ℕ) where
  -- what the row says of a colour: the stimuli are at place 0, the responses behind it
  abbrev pub SaysOutput : (ℕ → List ℕ) → Type 0
  SaysOutput f =
      (i j k : ℕ) → i < length (f 0) → j < n → k < n
      → (0 < length (f (suc j))) × (at (f 0) i ≤ at (f (suc j)) 0) × (at (f (suc j)) 0 ≤ at (f (suc k)) 0 + tolerance)

  pub record OutputColour (f : ℕ → List ℕ) (w : List ℕ) : Type 0 where
    pub firsts : (j : ℕ) → j < suc n → FirstOf (f j) (at w j)
    pub ordered : (j : ℕ) → j < n → 0 < at w (suc j) → Each (λ s. s < at w (suc j)) (f 0)
    pub spread : 0 < at w 0 → (j k : ℕ) → j < n → k < n → 0 < at w (suc j) → 0 < at w (suc k) → at w (suc j) ≤ at w (suc k) + tolerance

  -- the last moment: none without a stimulus or where all have responded
  owed_by : (w : List ℕ) (P : ℕ → Type 0) → ((at w 0 ≡ 0) ⊎ ((j : ℕ) → j < n → 0 < at w (suc j)) → P no_limit)
      → (0 < at w 0 → (j : ℕ) → j < n → at w (suc j) ≡ 0 → P (min (plus (first_response n w) tolerance) (no_limit - 1)))
      → P (owed_output n tolerance w)
  owed_by w P quiet owes =
      let least = least_of (λ i. at w (suc i)) n in
      split (eqb (at w 0) 0 || all_responded n w) (λ b. P (cond b no_limit (min (plus (first_response n w) tolerance) (no_limit - 1))))
      (λ e. quiet (⊎_elim (λ z. inl (eqb-true (at w 0) 0 z)) (λ l. inr (least_there (λ i. at w (suc i)) n (ltb-true 0 least l)))
      (or-true (eqb (at w 0) 0) (all_responded n w) e)))
      (λ e. let (some, lacking) = or_false (eqb (at w 0) 0) (all_responded n w) e in
      let (j, l, is) = least_missing (λ i. at w (suc i)) n (zero_of least (ltb-false 0 least lacking)) in
      owes (above (at w 0) (eqb-false (at w 0) 0 some)) j l is)
    where
      above : (x : ℕ) → ¬ (x ≡ 0) → 0 < x
      above x other = omega arith

      zero_of : (x : ℕ) → x ≤ 0 → x ≡ 0
      zero_of x h = omega arith

  -- the last moment, where a kind is missing, is not after tolerance behind any response
  owed_bound : (w : List ℕ) (t j : ℕ) → 0 < at w 0 → j < n → at w (suc j) ≡ 0 → t ≤ last_time → t ≤ owed_output n tolerance w → (k : ℕ) → k < n
      → 0 < at w (suc k) → t < at w (suc k) + tolerance
  owed_bound w t j begun l missing small =
      owed_by w (λ x. t ≤ x → (k : ℕ) → k < n → 0 < at w (suc k) → t < at w (suc k) + tolerance)
      (λ quiet in_time k h some. absurd (⊎_elim (λ e. omega arith) (λ all. omega (arith, all j l)) quiet))
      (λ b i m is in_time k h some.
      omega (arith, least_below (λ i. latest (at w (suc i))) n k h, latest_some (at w (suc k)) (λ e. omega arith)))

  -- a time that is not after tolerance behind any response is in time
  bound_owed : (w : List ℕ) (t : ℕ) → t ≤ last_time → ((j : ℕ) → j < n → at w (suc j) ≡ 0 → 0 < at w 0 → (k : ℕ) → k < n → 0 < at w (suc k)
      → t < at w (suc k) + tolerance) → t ≤ owed_output n tolerance w
  bound_owed w t small each =
      owed_by w (λ x. t ≤ x) (λ quiet. omega arith)
      (λ begun j l missing. omega (
        arith,
        least_above (λ i. latest (at w (suc i))) n (t - tolerance) (omega arith) (λ k h.
            latest_above (at w (suc k)) (t - tolerance) (λ some. omega (arith, each j l missing begun k h some)) (omega arith)),
      ))

  -- ---- a stimulus

  module _ (f : ℕ → List ℕ) (w : List ℕ) (t : ℕ) (long : length w ≡ 5) (past : (i : ℕ) → i < suc n → Each (λ s. s ≤ t) (f i)) (small : t ≤ last_time)
      (colour : OutputColour f w) where
    -- a response that is there is not after t
    past_word : (j : ℕ) → j < suc n → 0 < at w j → at w j ≤ t + 1
    past_word j l some =
        omega (arith, first_is (f j) (at w j) (colour.firsts j l) some, past j l 0 (first_there (f j) (at w j) (colour.firsts j l) some))

    abbrev begun : List ℕ
    begun = set w 0 (first_word (at w 0) t)

    begun_other : (j : ℕ) → at begun (suc j) ≡ at w (suc j)
    begun_other j = get_or-set_other w 0 (suc j) (first_word (at w 0) t) 0 (λ e. omega arith)

    stimulus_keeps : t ≤ first_response n w → OutputColour (with_one f 0 t) begun
    stimulus_keeps early =
        record {
          firsts = by_kind_lem FirstOf (suc n) f w 0 t (first_word (at w 0) t) (omega arith) colour.firsts
              (first_snoc (f 0) (at w 0) t small (colour.firsts 0 (omega arith)));
          ordered = λ j l. rw (begun_other j) (λ some. each_snoc (λ s. s < at w (suc j)) (f 0) t (colour.ordered j l some) (before j l some));
          spread = λ some j k l m. rw (begun_other j, begun_other k) (λ there_j there_k.
              omega (arith, before k m there_k, past_word (suc j) (omega arith) there_j));
        }
      where
        before : (j : ℕ) → j < n → 0 < at w (suc j) → t < at w (suc j)
        before j l some = above_latest (at w (suc j)) t (omega (arith, least_below (λ i. latest (at w (suc i))) n j l)) some

    stimulus_in_time : t ≤ first_response n w → t ≤ owed_output n tolerance begun
    stimulus_in_time early =
        bound_owed begun t small (λ j l missing some k m. rw (begun_other k) (λ there.
        omega (arith, above_latest (at w (suc k)) t (omega (arith, least_below (λ i. latest (at w (suc i))) n k m)) there)))

    stimulus_lost : first_response n w < t → Lost (suc n) SaysOutput t (with_one f 0 t)
    stimulus_lost after g late says =
        let (j, l, is) = least_found (λ i. latest (at w (suc i))) n (omega arith) in
        let (there, word) = latest_there (at w (suc j)) (omega arith) in
        let first = colour.firsts (suc j) (omega arith) in
        let some = first_there (f (suc j)) (at w (suc j)) first there in
        let asks = says (length (f 0)) j j (omega (arith, length-append (f 0 ++ t ∷ []) (g 0), length-append (f 0) (t ∷ []))) l l in
        omega (
          arith,
          asks.1,
          ap (λ (xs : List ℕ). at (xs ++ g (suc j)) 0) (with_other f 0 t (suc j) (λ e. omega arith)),
          at_left (f 0 ++ t ∷ []) (g 0) (length (f 0)) (omega (arith, length-append (f 0) (t ∷ []))),
          at_next (f 0) t [] (length (f 0)) refl,
          first_old (f (suc j)) (g (suc j)) some,
          first.some some,
        )

    -- ---- a response

    module _ (r : ℕ) (of_row : r < n) (room : suc r < 5) (in_time : t ≤ owed_output n tolerance w) where
      abbrev answered : List ℕ
      answered = set w (suc r) (first_word (at w (suc r)) t)

      answered_stimulus : at answered 0 ≡ at w 0
      answered_stimulus = get_or-set_other w (suc r) 0 (first_word (at w (suc r)) t) 0 (λ e. omega arith)

      -- each word is what it was, or the first response of its kind is at t
      answered_is : (j : ℕ) → (at answered (suc j) ≡ at w (suc j)) ⊎ ((at w (suc j) ≡ 0) × (at answered (suc j) ≡ t + 1))
      answered_is j =
          by_cases (ℕ_discrete j r)
          (λ e. subst (λ (i : ℕ). (at answered (suc i) ≡ at w (suc i)) ⊎ ((at w (suc i) ≡ 0) × (at answered (suc i) ≡ t + 1))) (sym e)
          (rw (get_or-set_same w (suc r) (first_word (at w (suc r)) t) 0 (omega arith)) (word_is (at w (suc r)) t small)))
          (λ o. inl (get_or-set_other w (suc r) (suc j) (first_word (at w (suc r)) t) 0 (λ e. o (omega arith))))

      response_bound : 0 < at w 0 → (j k : ℕ) → j < n → k < n → at w (suc j) ≡ 0 → 0 < at answered (suc k) → t < at answered (suc k) + tolerance
      response_bound some j k l m missing there =
          ⊎_elim (λ old. omega (arith, owed_bound w t j some l missing small in_time k m (omega arith))) (λ new. omega (arith, new.1))
          (answered_is k)

      response_keeps : OutputColour (with_one f (suc r) t) answered
      response_keeps =
          record {
            firsts = by_kind_lem FirstOf (suc n) f w (suc r) t (first_word (at w (suc r)) t) (omega arith) colour.firsts
                (first_snoc (f (suc r)) (at w (suc r)) t small (colour.firsts (suc r) (omega arith)));
            ordered = λ j l there. subst (Each (λ s. s < at answered (suc j))) (sym (with_other f (suc r) t 0 (λ e. omega arith)))
                (λ i h. ⊎_elim
                (λ old. omega (arith, colour.ordered j l (omega arith) i h))
                (λ new. omega (arith, new.1, past 0 (omega arith) i h)) (answered_is j));
            spread = λ some j k l m there_j there_k. ⊎_elim
                (λ old. ⊎_elim
                (λ same. omega (arith, colour.spread (omega (arith, answered_stimulus)) j k l m (omega arith) (omega arith)))
                (λ new. omega (arith, new.1, past_word (suc j) (omega arith) (omega arith))) (answered_is k))
                (λ new. omega (arith, new.1, response_bound (omega (arith, answered_stimulus)) j k l m new.0 there_k)) (answered_is j);
          }

      response_in_time : t ≤ owed_output n tolerance answered
      response_in_time =
          bound_owed answered t small (λ j l missing some k m there.
          response_bound (omega (arith, answered_stimulus)) j k l m (⊎_elim (λ old. omega arith) (λ new. new.0) (answered_is j)) there)

  -- ---- the clock, and the close

  colour_late : (f : ℕ → List ℕ) (w : List ℕ) (t : ℕ) → OutputColour f w → owed_output n tolerance w < t → t ≤ last_time → Lost (suc n) SaysOutput t f
  colour_late f w t colour passed small g late says =
      owed_by w (λ x. x < t → ⊥) (λ quiet p. omega arith)
      (λ begun j l missing p.
      let (k, m, is) = least_found (λ i. latest (at w (suc i))) n (omega arith) in
      let (there, word) = latest_there (at w (suc k)) (omega arith) in
      let first = colour.firsts (suc k) (omega arith) in
      let some = first_there (f (suc k)) (at w (suc k)) first there in
      let stimulus = first_there (f 0) (at w 0) (colour.firsts 0 (omega arith)) begun in
      let none = first_missing (f (suc j)) (at w (suc j)) (colour.firsts (suc j) (omega arith)) missing in
      let asks = says 0 j k (omega (arith, length-append (f 0) (g 0))) l m in
      omega (
        arith,
        asks.2,
        first_old (f (suc k)) (g (suc k)) some,
        first.some some,
        first_new (f (suc j)) (g (suc j)) none,
        late (suc j) (omega arith) 0 (omega (arith, asks.0, length-append (f (suc j)) (g (suc j)))),
      )) passed

  colour_says : (f : ℕ → List ℕ) (w : List ℕ) → OutputColour f w → no_limit ≤ owed_output n tolerance w → SaysOutput f
  colour_says f w colour none i j k l m h =
      let stimulus = colour.firsts 0 (omega arith) in
      let first = colour.firsts (suc j) (omega arith) in
      let other = colour.firsts (suc k) (omega arith) in
      owed_by w (λ x. no_limit ≤ x → (0 < length (f (suc j))) × (at (f 0) i ≤ at (f (suc j)) 0) × (at (f (suc j)) 0 ≤ at (f (suc k)) 0 + tolerance))
      (λ quiet p. ⊎_elim
      (λ e. absurd (omega (arith, first_missing (f 0) (at w 0) stimulus e)))
      (λ all.
      let is = first_is (f (suc j)) (at w (suc j)) first (all j m) in (
        first_there (f (suc j)) (at w (suc j)) first (all j m),
        omega (arith, colour.ordered j m (all j m) i l),
        omega (
          arith,
          first_is (f (suc k)) (at w (suc k)) other (all k h),
          colour.spread (omega (arith, stimulus.some (omega arith))) j k m h (all j m) (all k h),
        ),
      )) quiet)
      (λ begun j' l' missing p. absurd (omega arith)) none

  colour_unsaid : (f : ℕ → List ℕ) (w : List ℕ) → OutputColour f w → owed_output n tolerance w < no_limit → ¬ SaysOutput f
  colour_unsaid f w colour soon says =
      owed_by w (λ x. x < no_limit → ⊥) (λ quiet p. omega arith)
      (λ begun j l missing p. omega (
        arith,
        (says 0 j j (first_there (f 0) (at w 0) (colour.firsts 0 (omega arith)) begun) l l).0,
        first_missing (f (suc j)) (at w (suc j)) (colour.firsts (suc j) (omega arith)) missing,
      )) soon

  -- how many kinds have not responded
  abbrev missing_at : List ℕ → ℕ → ℕ
  missing_at w i = cond (eqb (at w (suc i)) 0) 1 0

  abbrev lacks_output : List ℕ → ℕ
  lacks_output w = sum_of (missing_at w) n

  module _ (few : suc n ≤ 5) where
    colour_nearer : (f : ℕ → List ℕ) (w : List ℕ) (now : ℕ) → length w ≡ 5 → ((i : ℕ) → i < suc n → Each (λ s. s ≤ now) (f i)) → now ≤ last_time
        → OutputColour f w → now ≤ owed_output n tolerance w → owed_output n tolerance w < no_limit
        → NearerWord (suc n) OutputColour (owed_output n tolerance) lacks_output f w now
    colour_nearer f w now long past small colour in_time soon =
        owed_by w (λ x. x < no_limit → NearerWord (suc n) OutputColour (owed_output n tolerance) lacks_output f w now)
        (λ quiet p. absurd (omega arith))
        (λ begun j l missing p.
        let value = first_word (at w (suc j)) now in
        let is : at (set w (suc j) value) (suc j) ≡ now + 1 =
        get_or-set_same w (suc j) value 0 (omega arith) ∙ ap (λ (x : ℕ). first_word x now) missing ∙ omega arith in
        record {
          kind = suc j;
          of_row = omega arith;
          rises = λ i h. absurd (omega (arith, first_missing (f (suc j)) (at w (suc j)) (colour.firsts (suc j) (omega arith)) missing));
          value = value;
          keeps = response_keeps f w now long past small colour j l (omega arith) in_time;
          in_time = response_in_time f w now long past small colour j l (omega arith) in_time;
          fewer = sum_fewer (missing_at w) (missing_at (set w (suc j) value)) n j l
              (rw (is, missing, ne_eqb (now + 1) 0 (λ e. omega arith)) (omega arith))
              (λ e m other. ap (λ (x : ℕ). cond (eqb x 0) 1 0) (get_or-set_other w (suc j) (suc e) value 0 (λ same. other (omega arith))));
        }) soon

    turns : (f : ℕ → List ℕ) (w : List ℕ) (j t : ℕ) → length w ≡ 5 → j < suc n → ((i : ℕ) → i < suc n → Each (λ s. s ≤ t) (f i))
        → Each (λ s. s < t) (f j) → t ≤ last_time → OutputColour f w → t ≤ owed_output n tolerance w
        → cond (breaks_output n w j t) (Lost (suc n) SaysOutput t (with_one f j t))
        (OutputColour (with_one f j t) (set w j (word_output n w j t)) × (t ≤ owed_output n tolerance (set w j (word_output n w j t))))
    turns f w zero t long h past rises small colour in_time =
        split (ltb (first_response n w) t)
        (λ b. cond b (Lost (suc n) SaysOutput t (with_one f 0 t))
        (OutputColour (with_one f 0 t) (set w 0 (word_output n w 0 t)) × (t ≤ owed_output n tolerance (set w 0 (word_output n w 0 t)))))
        (λ e. stimulus_lost f w t long past small colour (ltb-true (first_response n w) t e))
        (λ e. let early = ltb-false (first_response n w) t e in
        (stimulus_keeps f w t long past small colour early, stimulus_in_time f w t long past small colour early))
    turns f w (suc r) t long h past rises small colour in_time =
        rw (ne_eqb (suc r) 0 (λ e. omega arith)) (
          response_keeps f w t long past small colour r (omega arith) (omega arith) in_time,
          response_in_time f w t long past small colour r (omega arith) (omega arith) in_time,
        )

    pub by_output : ByWords (suc n) SaysOutput (owed_output n tolerance) (breaks_output n) (word_output n)
    by_output =
        record {
          few = few;
          says_same = λ f g same m i j k a b c.
              let asks = m i j k (subst (λ (xs : List ℕ). i < length xs) (sym (same 0 (omega arith))) a) b c in
              rw (same 0 (omega arith), same (suc j) (omega arith), same (suc k) (omega arith)) at asks;
          Colour = OutputColour;
          colour_same = λ f g same w colour. record {
            firsts = λ j l. subst (λ (xs : List ℕ). FirstOf xs (at w j)) (same j l) (colour.firsts j l);
            ordered = λ j l some. subst (Each (λ s. s < at w (suc j))) (same 0 (omega arith)) (colour.ordered j l some);
            spread = colour.spread;
          };
          lacks = lacks_output;
          start = record {
            firsts = λ j l. record { none = λ e. zeros 5 j; some = λ l. absurd (omega arith) };
            ordered = λ j l some. each_none (λ s. s < at (replicate 5 0) (suc j));
            spread = λ some j k l m. absurd (omega arith);
          };
          start_due = refl;
          turns = turns;
          late = colour_late;
          says = colour_says;
          unsaid = colour_unsaid;
          nearer = colour_nearer;
        }
      where
        zeros : (m i : ℕ) → at (replicate m 0) i ≡ 0
        zeros zero i = refl
        zeros (suc m) zero = refl
        zeros (suc m) (suc i) = zeros m i

-- ---- the row

-- §5.13
pub exact_output_synchronization : (stimulus : ℕ) (responses : List ℕ) (x : ℕ) → Sound (OutputSynchronization stimulus responses x)
    → Exact (OutputSynchronization stimulus responses x) (decide_output_synchronization (parameters_of (OutputSynchronization stimulus responses x)))
unfolding Meets MeetsOutputSynchronization waiting
exact_output_synchronization stimulus responses x sound =
    let c = OutputSynchronization stimulus responses x in
    let ks = stimulus ∷ responses in
    let n = length responses in
    let few = (sound.known.1.n_known refl).1 in
    exact_by_words ks (SaysOutput n x) (decide_output_synchronization (parameters_of c)) (owed_output n x) (breaks_output n) (word_output n)
    (by_output n x (omega (arith, few))) c
    (coloured_row c sound ks n x refl (SaysOutput n x) owed_output breaks_output word_output (omega (arith, few)) few refl refl refl (λ steps. refl)
    (λ steps. (λ m. m, λ m. m)))

-- ---- In a row

pub fits_output_synchronization : FitsRow machine_output_synchronization
fits_output_synchronization = fits_steady keeping_last (steady_words owed_output breaks_output word_output)
