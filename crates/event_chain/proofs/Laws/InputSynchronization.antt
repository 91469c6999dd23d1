-- An InputSynchronization is exact, colour by colour: only the latest stimulus of each kind counts, and none may be after the first response. So
-- kinds that do not suit it can only get a stimulus at its time.
use Rattle.event_chain.proofs.Laws.ByColour.{Lost, least_above, least_below, sum_fewer, sum_of, with_one}
use Rattle.event_chain.proofs.Laws.ByWords.{ByWords, NearerWord, coloured_row, exact_by_words, fields_behind, steady_words}
use Rattle.event_chain.proofs.Laws.Firsts.{FirstOf, LatestOf, by_kind_lem, each_snoc, find_other, first_missing, first_old, first_snoc}
use Rattle.event_chain.proofs.Laws.Firsts.{first_there, kind_other, kind_own, latest_new, latest_old, latest_snoc, latest_there, most_above}
use Rattle.event_chain.proofs.Laws.Firsts.{most_below}
use Rattle.event_chain.proofs.Laws.Firsts.{with_other, with_own, word_is}
use Rattle.event_chain.specs.Coloured.{first_word, least_of, most_of}
use Rattle.event_chain.specs.InputSynchronization.{breaks_input, decide_input_synchronization, machine_input_synchronization, owed_input}
use Rattle.event_chain.specs.InputSynchronization.{together}
use Rattle.event_chain.specs.InputSynchronization.{word_input}
use Rattle.constraint.proofs.Library.{List, [], ◌&&◌, ◌++◌, ◌+◌, ◌-◌, ◌<◌, ◌||◌, ◌↔◌, ◌∙◌, ◌∷◌, ◌≡◌, ◌≤◌, ◌⊎◌, and-eq-true_iff, ap, arith, by_cases}
use Rattle.constraint.proofs.Library.{cond, dec_lt, eq-eqb, eqb, eqb-false, eqb-true, false, false≢true, get_or-set_other, get_or-set_same, inl, inr}
use Rattle.constraint.proofs.Library.{le-leb}
use Rattle.constraint.proofs.Library.{le-ltb, leb, leb-true, length, length-append, lt-ltb, ltb, ltb-true, ne_eqb, refl, replicate, set, subst, suc}
use Rattle.constraint.proofs.Library.{sym}
use Rattle.constraint.proofs.Library.{true, zero, ℕ, ℕ_discrete, ⊎_elim}
use Rattle.constraint.proofs.Lists.{Each, at_left, at_next, each_none, or_false, or-true, split}
use Rattle.constraint.specs.Steps.{Step, at, times}
use Rattle.constraint.specs.Types.{Field, byte, count}
use Rattle.constraint.specs.{Constraint.InputSynchronization, Limits.last_time, Limits.no_limit, Meets.Meets, Meets.MeetsInputSynchronization}
use Rattle.constraint.specs.{Meets.latest_of, Streams.stream, Waiting.waiting}
use Rattle.row_type.proofs.Exact.{Exact, Sound}
use Rattle.row_type.proofs.FitsRow.{FitsRow, fits_steady, keeping_last}
use Rattle.row_type.specs.{Parameters.parameters_of, Parts.plus}

module _ (n tolerance : ℕ) where
  -- what the row says of a colour: the stimuli are at places below n, the responses at place n
  abbrev pub SaysInput : (ℕ → List ℕ) → Type 0
  SaysInput f =
      (i j k : ℕ) → i < length (f n) → j < n → k < n
      → (0 < length (f j)) × (latest_of (f j) ≤ at (f n) i) × (latest_of (f j) ≤ latest_of (f k) + tolerance)

  pub record InputColour (f : ℕ → List ℕ) (w : List ℕ) : Type 0 where
    pub latests : (j : ℕ) → j < n → LatestOf (f j) (at w j)
    pub first : FirstOf (f n) (at w n)
    pub ordered : 0 < at w n → (j : ℕ) → j < n → at w j ≤ at w n
    pub rising : Each (λ y. at (f n) 0 ≤ y) (f n)
    pub smalls : (j : ℕ) → j < suc n → at w j ≤ last_time + 1

  -- each kind has a stimulus, and the latest ones lie within tolerance
  abbrev Together : List ℕ → Type 0
  Together w = (j k : ℕ) → j < n → k < n → (0 < at w j) × (at w j ≤ at w k + tolerance)

  module _ (w : List ℕ) where
    abbrev least : ℕ
    least = least_of (at w) n

    abbrev most : ℕ
    most = most_of (at w) n

    together_true : together n tolerance w ≡ true → Together w
    together_true e j k l m =
        let (some, near) = (and-eq-true_iff (ltb 0 least) (leb most (plus least tolerance))).0 e in
        let below = least_below (at w) n in (
          omega (arith, ltb-true 0 least some, below j l),
          omega (arith, leb-true most (plus least tolerance) near, most_above (at w) n j l, below k m),
        )

    together_by : ((j : ℕ) → j < suc n → at w j ≤ last_time + 1) → Together w → together n tolerance w ≡ true
    together_by smalls all =
        let some : 0 < least = least_above (at w) n 1 (omega arith) (λ j l. (all j j l l).0) in
        let near : most ≤ plus least tolerance =
        most_below (at w) n (plus least tolerance) (λ j l.
        omega (
          arith,
          smalls j (omega arith),
          least_above (at w) n (at w j - tolerance) (omega (arith, smalls j (omega arith)))
              (λ k m. omega (arith, (all j k l m).1)),
        )) in
        rw (lt-ltb 0 least some, le-leb most (plus least tolerance) near) refl

    -- the last moment: none without a response or where the stimuli suit it
    owed_by : ((j : ℕ) → j < suc n → at w j ≤ last_time + 1) → (P : ℕ → Type 0) → ((at w n ≡ 0) ⊎ Together w → P no_limit)
        → (0 < at w n → ¬ Together w → P (at w n - 1)) → P (owed_input n tolerance w)
    owed_by smalls P quiet owes =
        split (eqb (at w n) 0 || together n tolerance w) (λ b. P (cond b no_limit (at w n - 1)))
        (λ e. quiet (⊎_elim (λ z. inl (eqb-true (at w n) 0 z)) (λ l. inr (together_true l)) (or-true (eqb (at w n) 0) (together n tolerance w) e)))
        (λ e. let (some, apart) = or_false (eqb (at w n) 0) (together n tolerance w) e in
        owes (above (at w n) (eqb-false (at w n) 0 some)) (λ all. false≢true (sym apart ∙ together_by smalls all)))
      where
        above : (x : ℕ) → ¬ (x ≡ 0) → 0 < x
        above x other = omega arith

  module _ (f : ℕ → List ℕ) (w : List ℕ) (t : ℕ) (long : length w ≡ 5) (few : suc n ≤ 5) (past : (i : ℕ) → i < suc n → Each (λ s. s ≤ t) (f i))
      (small : t ≤ last_time) (colour : InputColour f w) where
    -- ---- a stimulus

    module _ (j : ℕ) (l : j < n) where
      abbrev moved : List ℕ
      moved = set w j (plus t 1)

      apart : ¬ (n ≡ j)
      apart e = omega arith

      moved_response : at moved n ≡ at w n
      moved_response = get_or-set_other w j n (plus t 1) 0 apart

      stimulus_keeps : (0 < at w n → t < at w n) → InputColour (with_one f j t) moved
      stimulus_keeps before =
          record {
            latests = by_kind_lem LatestOf n f w j t (plus t 1) (omega arith) colour.latests (latest_snoc (f j) t small (past j (omega arith)));
            first = kind_other FirstOf f w j t (plus t 1) n apart colour.first;
            ordered = rw moved_response (λ some. by_kind_lem (λ xs x. x ≤ at w n) n f w j t (plus t 1) (omega arith) (colour.ordered some)
                (omega (arith, before some)));
            rising = rw (with_other f j t n apart) colour.rising;
            smalls = by_kind_lem (λ xs x. x ≤ last_time + 1) (suc n) f w j t (plus t 1) (omega arith) colour.smalls (omega arith);
          }

      stimulus_in_time : (0 < at w n → t < at w n) → t ≤ owed_input n tolerance moved
      stimulus_in_time before =
          owed_by moved (stimulus_keeps before).smalls (λ x. t ≤ x) (λ quiet. omega arith)
          (λ some other. omega (arith, moved_response, before (omega (arith, moved_response))))

      stimulus_lost : 0 < at w n → at w n < t + 1 → Lost (suc n) SaysInput t (with_one f j t)
      stimulus_lost there after g late says =
          let some = first_there (f n) (at w n) colour.first there in
          let responses = with_other f j t n apart in
          let stimuli = with_own f j t j refl in
          let asks = says 0 j j (subst (λ (xs : List ℕ). 0 < length (xs ++ g n)) (sym responses) (omega (arith, length-append (f n) (g n)))) l l in
          omega (
            arith,
            asks.1,
            ap (λ (xs : List ℕ). at (xs ++ g n) 0) responses,
            first_old (f n) (g n) some,
            colour.first.some some,
            ap (λ (xs : List ℕ). latest_of (xs ++ g j)) stimuli,
            by_cases (dec_lt 0 (length (g j)))
                (λ more. not_before (latest_new (f j ++ t ∷ []) (g j) more) (late j (omega arith) (length (g j) - 1) (omega arith)))
                (λ none. not_before (latest_old (f j ++ t ∷ []) (g j) (omega arith) (omega (arith, length-append (f j) (t ∷ []))))
                (omega (arith, latest_new (f j) (t ∷ []) (omega arith)))),
          )
        where
          not_before : {x y : ℕ} → x ≡ y → t ≤ y → t ≤ x
          not_before e h = omega arith

    -- ---- a response

    past_word : (j : ℕ) → j < n → at w j ≤ t + 1
    past_word j l =
        by_cases (ℕ_discrete (at w j) 0) (λ e. omega arith)
        (λ o. let some = latest_there (f j) (at w j) (colour.latests j l) (omega arith) in
        omega (arith, (colour.latests j l).some some, past j (omega arith) (length (f j) - 1) (omega arith)))

    abbrev value : ℕ
    value = first_word (at w n) t

    abbrev answered : List ℕ
    answered = set w n value

    answered_is : at answered n ≡ value
    answered_is = get_or-set_same w n value 0 (omega arith)

    answered_other : (j : ℕ) → j < n → at answered j ≡ at w j
    answered_other j l = get_or-set_other w n j value 0 (λ e. omega arith)

    response_keeps : InputColour (with_one f n t) answered
    response_keeps =
        record {
          latests = λ j l. kind_other LatestOf f w n t value j (λ e. omega arith) (colour.latests j l);
          first = kind_own FirstOf f w n t value (omega arith) (first_snoc (f n) (at w n) t small colour.first);
          ordered = λ some j l. ⊎_elim
              (λ old. omega (arith, answered_is, answered_other j l, colour.ordered (omega (arith, answered_is)) j l))
              (λ new. omega (arith, answered_is, answered_other j l, new.1, past_word j l)) (word_is (at w n) t small);
          rising = rw (with_own f n t n refl) rises;
          smalls = by_kind_lem (λ xs x. x ≤ last_time + 1) (suc n) f w n t value (omega arith) colour.smalls
              (⊎_elim (λ old. omega (arith, colour.smalls n (omega arith))) (λ new. omega (arith, new.1)) (word_is (at w n) t small));
        }
      where
        rises : Each (λ y. at (f n ++ t ∷ []) 0 ≤ y) (f n ++ t ∷ [])
        rises =
            by_cases (dec_lt 0 (length (f n)))
            (λ some. rw (first_old (f n) (t ∷ []) some)
            (each_snoc (λ y. at (f n) 0 ≤ y) (f n) t colour.rising (past n (omega arith) 0 some)))
            (λ none. rw (at_next (f n) t [] 0 (omega arith)) (each_snoc (λ y. t ≤ y) (f n) t (λ i h. absurd (omega arith)) (omega arith)))

    response_in_time : t ≤ owed_input n tolerance w → t ≤ owed_input n tolerance answered
    response_in_time in_time =
        owed_by answered response_keeps.smalls (λ x. t ≤ x) (λ quiet. omega arith)
        (λ some other. ⊎_elim
        (λ old. owed_by w colour.smalls (λ x. t ≤ x → t ≤ at answered n - 1)
        (λ quiet h. absurd (⊎_elim (λ e. omega (arith, answered_is)) (λ all. other (again all)) quiet))
        (λ there apart h. omega (arith, answered_is)) in_time)
        (λ new. omega (arith, answered_is, new.1)) (word_is (at w n) t small))
      where
        again : Together w → Together answered
        again all j k l m = (
          omega (arith, answered_other j l, (all j k l m).0),
          omega (arith, answered_other j l, answered_other k m, (all j k l m).1),
        )

  -- ---- the clock, and the close

  colour_late : (f : ℕ → List ℕ) (w : List ℕ) (t : ℕ) → InputColour f w → owed_input n tolerance w < t → t ≤ last_time → Lost (suc n) SaysInput t f
  colour_late f w t colour passed small g late says =
      owed_by w colour.smalls (λ x. x < t → ⊥) (λ quiet p. omega arith)
      (λ there apart p.
      let some = first_there (f n) (at w n) colour.first there in
      let first = first_old (f n) (g n) some in
      let is = colour.first.some some in
      let begun : 0 < length (f n ++ g n) = omega (arith, length-append (f n) (g n)) in
      -- no kind gets a stimulus any more
      let none : (j : ℕ) → j < n → length (g j) ≡ 0 =
      λ j l. by_cases (dec_lt 0 (length (g j)))
      (λ more. absurd (omega (
        arith,
        (says 0 j j begun l l).1,
        latest_new (f j) (g j) more,
        late j (omega arith) (length (g j) - 1) (omega arith),
      )))
      (λ no_more. omega arith) in
      let there_is : (j : ℕ) → j < n → 0 < length (f j) =
      λ j l. omega (arith, (says 0 j j begun l l).0, none j l, length-append (f j) (g j)) in
      apart (λ j k l m. (
        omega (arith, (colour.latests j l).some (there_is j l)),
        omega (
          arith,
          (says 0 j k begun l m).2,
          latest_old (f j) (g j) (none j l) (there_is j l),
          latest_old (f k) (g k) (none k m) (there_is k m),
          (colour.latests j l).some (there_is j l),
          (colour.latests k m).some (there_is k m),
        ),
      ))) passed

  colour_says : (f : ℕ → List ℕ) (w : List ℕ) → InputColour f w → no_limit ≤ owed_input n tolerance w → SaysInput f
  colour_says f w colour none i j k l m h =
      owed_by w colour.smalls
      (λ x. no_limit ≤ x → (0 < length (f j)) × (latest_of (f j) ≤ at (f n) i) × (latest_of (f j) ≤ latest_of (f k) + tolerance))
      (λ quiet p. ⊎_elim
      (λ e. absurd (omega (arith, first_missing (f n) (at w n) colour.first e)))
      (λ all.
      let there = latest_there (f j) (at w j) (colour.latests j m) (all j k m h).0 in
      let other = latest_there (f k) (at w k) (colour.latests k h) (all k k h h).0 in
      let is = (colour.latests j m).some there in
      let response = colour.first.some (omega arith) in (
        there,
        omega (arith, colour.ordered (omega arith) j m, colour.rising i l),
        omega (arith, (all j k m h).1, (colour.latests k h).some other),
      )) quiet)
      (λ there apart p. absurd (omega (arith, colour.smalls n (omega arith)))) none

  colour_unsaid : (f : ℕ → List ℕ) (w : List ℕ) → InputColour f w → owed_input n tolerance w < no_limit → ¬ SaysInput f
  colour_unsaid f w colour soon says =
      owed_by w colour.smalls (λ x. x < no_limit → ⊥) (λ quiet p. omega arith)
      (λ there apart p.
      let begun = first_there (f n) (at w n) colour.first there in
      let word : (j : ℕ) → j < n → at w j ≡ latest_of (f j) + 1 = λ j l. (colour.latests j l).some (says 0 j j begun l l).0 in
      apart (λ j k l m. (omega (arith, word j l), omega (arith, (says 0 j k begun l m).2, word j l, word k m)))) soon

  -- how many kinds have no stimulus at the response's time
  abbrev missing_at : List ℕ → ℕ → ℕ
  missing_at w i = cond (eqb (at w i) (at w n)) 0 1

  abbrev lacks_input : List ℕ → ℕ
  lacks_input w = sum_of (missing_at w) n

  module _ (few : suc n ≤ 5) where
    colour_nearer : (f : ℕ → List ℕ) (w : List ℕ) (now : ℕ) → length w ≡ 5 → ((i : ℕ) → i < suc n → Each (λ s. s ≤ now) (f i)) → now ≤ last_time
        → InputColour f w → now ≤ owed_input n tolerance w → owed_input n tolerance w < no_limit
        → NearerWord (suc n) InputColour (owed_input n tolerance) lacks_input f w now
    colour_nearer f w now long past small colour =
        owed_by w colour.smalls (λ x. now ≤ x → x < no_limit → NearerWord (suc n) InputColour (owed_input n tolerance) lacks_input f w now)
        (λ quiet in_time p. absurd (omega arith))
        (λ there apart in_time p.
        let some = first_there (f n) (at w n) colour.first there in
        let response : at w n ≡ now + 1 = omega (arith, colour.first.some some, past n (omega arith) 0 some) in
        let before : 0 < at w n → now < at w n = λ h. omega arith in
        ⊎_elim
        (λ all. absurd (apart (λ j k l m. (omega (arith, all j l), omega (arith, all j l, all k m)))))
        (λ (j, l, other).
        let next = moved f w now long few past small colour j l in
        let own : at next j ≡ now + 1 = get_or-set_same w j (plus now 1) 0 (omega arith) ∙ omega arith in
        let same = moved_response f w now long few past small colour j l in
        record {
          kind = j;
          of_row = omega arith;
          rises = λ i h. below_of (at w j) (omega (arith, colour.ordered there j l)) (λ e. other (e ∙ sym response))
              ((colour.latests j l).below i h);
          value = plus now 1;
          keeps = stimulus_keeps f w now long few past small colour j l before;
          in_time = stimulus_in_time f w now long few past small colour j l before;
          fewer = sum_fewer (missing_at w) (missing_at next) n j l
              (rw (eq-eqb (at next j) (at next n) (own ∙ sym (same ∙ response)), ne_eqb (at w j) (at w n) other) (omega arith))
              (λ e m o. rw (same, get_or-set_other w j e (plus now 1) 0 o) refl);
        }) (find_other (at w) n (at w n)))
      where
        below_of : (x : ℕ) → x ≤ now + 1 → ¬ (x ≡ now + 1) → {s : ℕ} → s < x → s < now
        below_of x h other l = omega arith

    abbrev Turns : (ℕ → List ℕ) → List ℕ → ℕ → ℕ → Type 0
    Turns f w t j =
        cond (breaks_input n w j t) (Lost (suc n) SaysInput t (with_one f j t))
        (InputColour (with_one f j t) (set w j (word_input n w j t)) × (t ≤ owed_input n tolerance (set w j (word_input n w j t))))

    turns : (f : ℕ → List ℕ) (w : List ℕ) (j t : ℕ) → length w ≡ 5 → j < suc n → ((i : ℕ) → i < suc n → Each (λ s. s ≤ t) (f i))
        → Each (λ s. s < t) (f j) → t ≤ last_time → InputColour f w → t ≤ owed_input n tolerance w → Turns f w t j
    turns f w j t long h past rises small colour in_time =
        by_cases (dec_lt j n)
        (λ l. rw (lt-ltb j n l) (stimulus l))
        (λ l. subst (Turns f w t) (same (omega arith)) (rw (le-ltb n n (omega arith)) (
          response_keeps f w t long few past small colour,
          response_in_time f w t long few past small colour in_time,
        )))
      where
        same : n ≡ j → n ≡ j
        same e = e

        early : (ltb 0 (at w n) && ltb (at w n) (plus t 1)) ≡ false → 0 < at w n → t < at w n
        early e some =
            by_cases (dec_lt (at w n) (plus t 1))
            (λ late. absurd (false≢true (sym e ∙ rw (lt-ltb 0 (at w n) some, lt-ltb (at w n) (plus t 1) late) refl)))
            (λ late. omega arith)

        stimulus : j < n → cond (ltb 0 (at w n) && ltb (at w n) (plus t 1)) (Lost (suc n) SaysInput t (with_one f j t))
            (InputColour (with_one f j t) (set w j (plus t 1)) × (t ≤ owed_input n tolerance (set w j (plus t 1))))
        stimulus l =
            split (ltb 0 (at w n) && ltb (at w n) (plus t 1))
            (λ b. cond b (Lost (suc n) SaysInput t (with_one f j t))
            (InputColour (with_one f j t) (set w j (plus t 1)) × (t ≤ owed_input n tolerance (set w j (plus t 1)))))
            (λ e. let (some, late) = (and-eq-true_iff (ltb 0 (at w n)) (ltb (at w n) (plus t 1))).0 e in
            stimulus_lost f w t long few past small colour j l (ltb-true 0 (at w n) some)
            (omega (arith, ltb-true (at w n) (plus t 1) late)))
            (λ e. (
              stimulus_keeps f w t long few past small colour j l (early e),
              stimulus_in_time f w t long few past small colour j l (early e),
            ))

    pub by_input : ByWords (suc n) SaysInput (owed_input n tolerance) (breaks_input n) (word_input n)
    by_input =
        record {
          few = few;
          says_same = λ f g same m i j k a b c.
              let asks = m i j k (subst (λ (xs : List ℕ). i < length xs) (sym (same n (omega arith))) a) b c in
              rw (same n (omega arith), same j (omega arith), same k (omega arith)) at asks;
          Colour = InputColour;
          colour_same = λ f g same w colour. record {
            latests = λ j l. subst (λ (xs : List ℕ). LatestOf xs (at w j)) (same j (omega arith)) (colour.latests j l);
            first = subst (λ (xs : List ℕ). FirstOf xs (at w n)) (same n (omega arith)) colour.first;
            ordered = colour.ordered;
            rising = subst (λ (xs : List ℕ). Each (λ y. at xs 0 ≤ y) xs) (same n (omega arith)) colour.rising;
            smalls = colour.smalls;
          };
          lacks = lacks_input;
          start = record {
            latests = λ j l. record { none = λ e. zeros 5 j; some = λ l. absurd (omega arith); below = each_none (λ s. s < at (replicate 5 0) j) };
            first = record { none = λ e. zeros 5 n; some = λ l. absurd (omega arith) };
            ordered = λ some j l. absurd (omega (arith, zeros 5 n));
            rising = each_none (λ y. 0 ≤ y);
            smalls = λ j l. omega (arith, zeros 5 j);
          };
          start_due = rw (eq-eqb (at (replicate 5 0) n) 0 (zeros 5 n)) refl;
          turns = turns;
          late = colour_late;
          says = colour_says;
          unsaid = colour_unsaid;
          nearer = colour_nearer;
        }
      where
        zeros : (m i : ℕ) → at (replicate m 0) i ≡ 0
        zeros zero i = refl
        zeros (suc m) zero = refl
        zeros (suc m) (suc i) = zeros m i

-- ---- the row

-- what is said of each colour is the definition of the type
input_says : (kinds : List ℕ) (response tolerance d : ℕ) (steps : List Step)
    → SaysInput (length kinds) tolerance (λ i. times (stream (at (kinds ++ (response ∷ [])) i) d) steps)
    ↔ MeetsInputSynchronization kinds response tolerance d steps
unfolding MeetsInputSynchronization
input_says kinds response tolerance d steps = (
  λ m i j k l a b.
      let asks = m i j k (subst (λ (s : ℕ). i < length (times (stream s d) steps)) (sym behind) l) a b in
      rw (behind, at_left kinds (response ∷ []) j a, at_left kinds (response ∷ []) k b) at asks,
  λ m i j k l a b.
      let asks = m i j k (subst (λ (s : ℕ). i < length (times (stream s d) steps)) behind l) a b in
      rw (behind, at_left kinds (response ∷ []) j a, at_left kinds (response ∷ []) k b) asks,
)
  where
    behind : at (kinds ++ (response ∷ [])) (length kinds) ≡ response
    behind = at_next kinds response [] (length kinds) refl

-- §5.14
pub exact_input_synchronization : (stimuli : List ℕ) (response x : ℕ) → Sound (InputSynchronization stimuli response x)
    → Exact (InputSynchronization stimuli response x) (decide_input_synchronization (parameters_of (InputSynchronization stimuli response x)))
unfolding Meets waiting
exact_input_synchronization stimuli response x sound =
    let c = InputSynchronization stimuli response x in
    let ks = stimuli ++ (response ∷ []) in
    let n = length stimuli in
    let few = (sound.known.1.n_known refl).1 in
    let long : suc n ≡ length ks = omega (arith, length-append stimuli (response ∷ [])) in
    exact_by_words ks (SaysInput n x) (decide_input_synchronization (parameters_of c)) (owed_input n x) (breaks_input n) (word_input n)
    (subst (λ (m : ℕ). ByWords m (SaysInput n x) (owed_input n x) (breaks_input n) (word_input n)) long (by_input n x (omega (arith, few)))) c
    (coloured_row c sound ks n x (ap (λ (l : List Field). byte count n ∷ l) (fields_behind x stimuli response))
    (SaysInput n x) owed_input breaks_input word_input (omega (arith, few, long)) few refl refl refl (λ steps. refl)
    (λ steps. (
      λ m d small. (input_says stimuli response x d steps).1 (m d small),
      λ m d small. (input_says stimuli response x d steps).0 (m d small),
    )))

-- ---- In a row

pub fits_input_synchronization : FitsRow machine_input_synchronization
fits_input_synchronization = fits_steady keeping_last (steady_words owed_input breaks_input word_input)
