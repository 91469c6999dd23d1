-- An Age is exact, colour by colour: only the latest stimulus counts, and a stimulus to come is not before the clock, so a response that none suits
-- now can only get one at its own time.
use Rattle.event_chain.proofs.Laws.ByPairs.{ByPair, ByPairs, LostPair, NearerPair, exact_by_pairs, maximum_small, minimum_first, steady_pair}
use Rattle.event_chain.proofs.Laws.Firsts.{each_snoc, latest_new, latest_old}
use Rattle.event_chain.proofs.Laws.Words.{high_of, latest_some, low_of}
use Rattle.event_chain.specs.Age.{after_response_age, after_stimulus_age, decide_age, due_age, machine_age, owed, pair_after_age, suits}
use Rattle.std.specs.Prelude.{Option}
use Rattle.event_chain.specs.FirstOwed.{first_owed_age}
use Rattle.event_chain.specs.Pairs.{no_pair, pair_of}
use Rattle.event_chain.specs.declared.pairs.Pair.{Pair}
use Rattle.constraint.proofs.Library.{List, [], ◌%◌, ◌&&◌, ◌++◌, ◌+◌, ◌-◌, ◌<◌, ◌∙◌, ◌∷◌, ◌≡◌, ◌≤◌, and-eq-true_iff, ap, arith, by_cases}
use Rattle.constraint.proofs.Library.{cond, dec_lt, eq-eqb, eqb, eqb-false, eqb-true, false, false≢true, le-leb, leb, leb-false, leb-true}
use Rattle.constraint.proofs.Library.{length}
use Rattle.constraint.proofs.Library.{length-append, lt-ltb, ltb, ltb-true, ne_eqb, refl, subst, sym, true, ℕ}
use Rattle.constraint.proofs.Lists.{Each, at_left, at_next, each_none, split}
use Rattle.constraint.specs.Steps.{at}
use Rattle.constraint.specs.{Limits.last_time}
use Rattle.constraint.specs.{Limits.no_limit, Meets.Between, Meets.Meets, Meets.MeetsAge, Meets.latest_of}
use Rattle.constraint.specs.{Waiting.waiting}
use Rattle.constraint.specs.{Constraint.Age}
use Rattle.row_type.proofs.Exact.{Exact, Sound}
use Rattle.row_type.proofs.FitsRow.{FitsRow, Steady, fits_steady, keeping_last}
use Rattle.row_type.specs.{Parts.plus, Parameters.parameters_of, Words.last_saved, declared.Registers.Registers}
use Rattle.row_type.specs.{declared.Parameters.Parameters}

plus_is : (t x : ℕ) → t ≤ last_time + 1 → x ≤ last_time → plus t x ≡ t + x
plus_is t x h k = omega arith

-- ---- the last moment of a colour

owed_there : (low high : ℕ) → ¬ (low ≡ 0) → owed low high ≡ no_limit
owed_there low high some = rw (ne_eqb low 0 some)

owed_quiet : (low high : ℕ) → high ≡ 0 → owed low high ≡ no_limit
owed_quiet low high none = split (eqb low 0) (λ x. cond x (cond (eqb high 0) no_limit (high - 1)) no_limit ≡ no_limit) (λ e. rw none refl) (λ e. refl)

owed_is : (low high a : ℕ) → low ≡ 0 → high ≡ a + 1 → owed low high ≡ a
owed_is low high a none is = rw none (latest_some high (λ e. omega arith) ∙ omega arith)

-- ---- one colour

module _ (minimum maximum : ℕ) where
  -- no response yet: the first word is one more than the latest stimulus
  pub record Quiet (stimuli responses : List ℕ) (low high : ℕ) : Type 0 where
    pub no_response : length responses ≡ 0
    pub high_is : high ≡ 0
    pub none : length stimuli ≡ 0 → low ≡ 0
    pub some : 0 < length stimuli → low ≡ latest_of stimuli + 1
    pub below : Each (λ s. s < low) stimuli

  -- the latest stimulus suits every response
  pub record Suited (stimuli responses : List ℕ) (low high : ℕ) : Type 0 where
    pub there : 0 < length responses
    pub high_is : high ≡ at responses 0 + 1
    pub some : 0 < length stimuli
    pub low_is : low ≡ latest_of stimuli + 1
    pub near : Each (Between minimum maximum (latest_of stimuli)) responses
    pub first : Each (λ y. at responses 0 ≤ y) responses

  -- a response that no stimulus suits yet
  pub record Owes (stimuli responses : List ℕ) (low high : ℕ) : Type 0 where
    pub there : 0 < length responses
    pub low_is : low ≡ 0
    pub high_is : high ≡ at responses 0 + 1
    pub free : minimum ≡ 0
    pub before : Each (λ s. s < at responses 0) stimuli
    pub alone : Each (λ y. y ≡ at responses 0) responses
    pub small : at responses 0 ≤ last_time
    pub unmet : 0 < length stimuli → latest_of stimuli + maximum < at responses 0

  pub data AgeColour (stimuli responses : List ℕ) (low high : ℕ) : Type 0 where
    quiet : Quiet stimuli responses low high → AgeColour stimuli responses low high
    suited : Suited stimuli responses low high → AgeColour stimuli responses low high
    owes : Owes stimuli responses low high → AgeColour stimuli responses low high

  abbrev pub LostAge : ℕ → List ℕ → List ℕ → Type 0
  LostAge = LostPair (MeetsAge minimum maximum)

  abbrev pub GoesAge : ℕ → List ℕ → List ℕ → ℕ → ℕ → Type 0
  GoesAge t stimuli responses low high = AgeColour stimuli responses low high × (t ≤ owed low high)

  -- ---- what is asked of the response at a place: by a stimulus to come, and where none comes

  asked_new : (stimuli fs responses gs : List ℕ) (i t : ℕ) → i < length responses → Each (λ s. t ≤ s) fs → 0 < length fs
      → MeetsAge minimum maximum (stimuli ++ fs) (responses ++ gs) → t + minimum ≤ at responses i
  unfolding MeetsAge
  asked_new stimuli fs responses gs i t h late some m =
      omega (
        arith,
        (m i (omega (arith, length-append responses gs))).1.0,
        latest_new stimuli fs some,
        at_left responses gs i h,
        late (length fs - 1) (omega arith),
      )

  asked_old : (stimuli fs responses gs : List ℕ) (i : ℕ) → i < length responses → length fs ≡ 0
      → MeetsAge minimum maximum (stimuli ++ fs) (responses ++ gs)
      → (0 < length stimuli) × Between minimum maximum (latest_of stimuli) (at responses i)
  unfolding MeetsAge
  asked_old stimuli fs responses gs i h none m =
      let asks = m i (omega (arith, length-append responses gs)) in
      let some : 0 < length stimuli = omega (arith, asks.0, length-append stimuli fs) in
      let same = latest_old stimuli fs none some in
      let here = at_left responses gs i h in
      (some, (omega (arith, asks.1.0, same, here), omega (arith, asks.1.1, same, here)))

  -- ---- a stimulus

  module _ (stimuli responses : List ℕ) (t : ℕ) (past : Each (λ s. s ≤ t) stimuli) (past_responses : Each (λ y. y ≤ t) responses)
      (small : t ≤ last_time) where
    abbrev StimulusDoes : Option Pair → Type 0
    StimulusDoes = ByPair (LostAge t (stimuli ++ t ∷ []) responses) (GoesAge t (stimuli ++ t ∷ []) responses)

    longer : length (stimuli ++ t ∷ []) ≡ length stimuli + 1
    longer = length-append stimuli (t ∷ [])

    latest_is : latest_of (stimuli ++ t ∷ []) ≡ t
    latest_is = latest_new stimuli (t ∷ []) (omega arith)

    sum : plus t 1 ≡ t + 1
    sum = plus_is t 1 (omega arith) (omega arith)

    -- after a response: at its own time it suits, and else none does any more
    after_response : (low high : ℕ) → 0 < length responses → high ≡ at responses 0 + 1 → (minimum ≡ 0 → high ≡ t + 1
        → Each (λ y. y ≡ t) responses) → StimulusDoes (cond (eqb minimum 0 && eqb high (t + 1)) (pair_of (t + 1) high) no_pair)
    after_response low high there is all =
        split (eqb minimum 0 && eqb high (t + 1)) (λ x. StimulusDoes (cond x (pair_of (t + 1) high) no_pair))
        (λ e. let (none, same) = (and-eq-true_iff (eqb minimum 0) (eqb high (t + 1))).0 e in
        let free = eqb-true minimum 0 none in
        let now = eqb-true high (t + 1) same in
        let each = all free now in (
          suited (record {
            there = there;
            high_is = is;
            some = omega (arith, longer);
            low_is = omega (arith, latest_is);
            near = λ i h. (omega (arith, latest_is, each i h, free), omega (arith, latest_is, each i h));
            first = λ i h. omega (arith, each i h, each 0 there);
          }),
          omega (arith, owed_there (t + 1) high (λ z. omega arith)),
        ))
        (λ e fs gs late late_responses m.
        let asks : t + minimum ≤ at responses 0 =
        by_cases (dec_lt 0 (length fs)) (λ some. asked_new (stimuli ++ t ∷ []) fs responses gs 0 t there late some m)
        (λ none. omega (arith, (asked_old (stimuli ++ t ∷ []) fs responses gs 0 there (omega arith) m).1.0, latest_is)) in
        let free : minimum ≡ 0 = omega (arith, past_responses 0 there) in
        let now : high ≡ t + 1 = omega (arith, past_responses 0 there) in
        let yes : (eqb minimum 0 && eqb high (t + 1)) ≡ true = rw (eq-eqb minimum 0 free, eq-eqb high (t + 1) now) refl in
        false≢true (sym e ∙ yes))

    pub stimulus_does : (low high : ℕ) → AgeColour stimuli responses low high → StimulusDoes (after_stimulus_age minimum high t)
    stimulus_does low high (quiet q) =
        rw (q.high_is, sum) (
          quiet (record {
            no_response = q.no_response;
            high_is = refl;
            none = λ e. absurd (omega (arith, longer));
            some = λ h. omega (arith, latest_is);
            below = each_snoc (λ s. s < t + 1) stimuli t (λ i h. omega (arith, past i h)) (omega arith);
          }),
          omega (arith, owed_there (t + 1) 0 (λ z. omega arith)),
        )
    stimulus_does low high (suited s) =
        rw (ne_eqb high 0 (λ e. omega (arith, s.high_is)), sum)
        (after_response low high s.there s.high_is (λ free now i h.
        omega (arith, past_responses i h, s.first i h, s.high_is)))
    stimulus_does low high (owes o) =
        rw (ne_eqb high 0 (λ e. omega (arith, o.high_is)), sum)
        (after_response low high o.there o.high_is (λ free now i h. omega (arith, o.alone i h, o.high_is)))

  -- ---- a response

  module _ (stimuli responses : List ℕ) (t : ℕ) (past : Each (λ s. s ≤ t) stimuli) (rises : Each (λ y. y < t) responses) (small : t ≤ last_time)
      (min_small : minimum ≤ last_time) (max_small : maximum ≤ last_time) where
    abbrev ResponseDoes : Option Pair → Type 0
    ResponseDoes = ByPair (LostAge t stimuli (responses ++ t ∷ [])) (GoesAge t stimuli (responses ++ t ∷ []))

    more : length (responses ++ t ∷ []) ≡ length responses + 1
    more = length-append responses (t ∷ [])

    last_is : at (responses ++ t ∷ []) (length responses) ≡ t
    last_is = at_next responses t [] (length responses) refl

    one : plus t 1 ≡ t + 1
    one = plus_is t 1 (omega arith) (omega arith)

    -- the test of the first response
    suits_is : (low : ℕ) → low ≤ t + 1 → suits minimum maximum low t ≡ (ltb 0 low && (leb (low + minimum) (t + 1) && leb (t + 1) (low + maximum)))
    suits_is low few = rw (one, plus_is low minimum (omega arith) min_small, plus_is low maximum (omega arith) max_small) refl

    suits_true : (low : ℕ) → low ≤ t + 1 → suits minimum maximum low t ≡ true → (0 < low) × (low + minimum ≤ t + 1) × (t + 1 ≤ low + maximum)
    suits_true low few e =
        let (some, near) = (and-eq-true_iff (ltb 0 low) (leb (low + minimum) (t + 1) && leb (t + 1) (low + maximum))).0 (sym (suits_is low few)
        ∙ e) in
        let (from, to) = (and-eq-true_iff (leb (low + minimum) (t + 1)) (leb (t + 1) (low + maximum))).0 near in
        (ltb-true 0 low some, leb-true (low + minimum) (t + 1) from, leb-true (t + 1) (low + maximum) to)

    suits_by : (low : ℕ) → low ≤ t + 1 → 0 < low → low + minimum ≤ t + 1 → t + 1 ≤ low + maximum → suits minimum maximum low t ≡ true
    suits_by low few some from to =
        suits_is low few ∙ rw (lt-ltb 0 low some, le-leb (low + minimum) (t + 1) from, le-leb (t + 1) (low + maximum) to) refl

    module _ (low high : ℕ) (q : Quiet stimuli responses low high) where
      low_few : low ≤ t + 1
      low_few =
          by_cases (dec_lt 0 (length stimuli)) (λ some. omega (arith, q.some some, past (length stimuli - 1) (omega arith)))
          (λ none. omega (arith, q.none (omega arith)))

      low_there : 0 < low → 0 < length stimuli
      low_there some = by_cases (dec_lt 0 (length stimuli)) (λ h. h) (λ none. absurd (omega (arith, q.none (omega arith))))

      first_is : at (responses ++ t ∷ []) 0 ≡ t
      first_is = at_next responses t [] 0 (sym q.no_response)

      only : (P : ℕ → Type 0) → P t → Each P (responses ++ t ∷ [])
      only P p = each_snoc P responses t (λ i h. absurd (omega (arith, q.no_response))) p

      first_suits : suits minimum maximum low t ≡ true → ResponseDoes (pair_of low (t + 1))
      first_suits e =
          let (some, from, to) = suits_true low low_few e in
          let is = q.some (low_there some) in (
            suited (record {
              there = omega (arith, more);
              high_is = omega (arith, first_is);
              some = low_there some;
              low_is = is;
              near = only (Between minimum maximum (latest_of stimuli)) (omega (arith, is), omega (arith, is));
              first = only (λ y. at (responses ++ t ∷ []) 0 ≤ y) (omega (arith, first_is));
            }),
            omega (arith, owed_there low (t + 1) (λ z. omega arith)),
          )

      first_owes : suits minimum maximum low t ≡ false → minimum ≡ 0 → ResponseDoes (pair_of 0 (t + 1))
      first_owes e free = (
        owes (record {
          there = omega (arith, more);
          low_is = refl;
          high_is = omega (arith, first_is);
          free = free;
          before = λ i h. omega (arith, first_is, earlier (omega (arith, q.below i h)), q.below i h);
          alone = only (λ y. y ≡ at (responses ++ t ∷ []) 0) (sym first_is);
          small = omega (arith, first_is);
          unmet = λ some. omega (arith, first_is, q.some some, past_due (omega (arith, q.some some)));
        }),
        omega (arith, owed_is 0 (t + 1) t refl refl),
      )
        where
          past_due : 0 < low → low + maximum < t + 1
          past_due some =
              by_cases (dec_lt (low + maximum) (t + 1)) (λ l. l)
              (λ l. absurd (false≢true (sym e ∙ suits_by low low_few some (omega (arith, low_few)) (omega arith))))

          earlier : 0 < low → low < t + 1
          earlier some = omega (arith, past_due some)

      first_lost : suits minimum maximum low t ≡ false → ¬ (minimum ≡ 0) → LostAge t stimuli (responses ++ t ∷ [])
      first_lost e asks_more fs gs late late_responses m =
          by_cases (dec_lt 0 (length fs))
          (λ some. asks_more (omega (arith, first_is, asked_new stimuli fs (responses ++ t ∷ []) gs 0 t (omega (arith, more)) late some m)))
          (λ none. let asks = asked_old stimuli fs (responses ++ t ∷ []) gs 0 (omega (arith, more)) (omega arith) m in
          let is = q.some asks.0 in
          false≢true (sym e ∙ suits_by low low_few (omega (arith, is)) (omega (arith, is, first_is, asks.1.0))
          (omega (arith, is, first_is, asks.1.1))))

    pub response_does : (low high : ℕ) → t ≤ owed low high → AgeColour stimuli responses low high
        → ResponseDoes (after_response_age minimum maximum low high t)
    response_does low high soon (quiet q) =
        rw q.high_is
        (split (suits minimum maximum low t)
        (λ x. ResponseDoes (cond x (pair_of low (plus t 1)) (cond (eqb minimum 0) (pair_of 0 (plus t 1)) no_pair)))
        (λ e. subst (λ (x : ℕ). ResponseDoes (pair_of low x)) (sym one) (first_suits low high q e))
        (λ e. split (eqb minimum 0) (λ x. ResponseDoes (cond x (pair_of 0 (plus t 1)) no_pair))
        (λ f. subst (λ (x : ℕ). ResponseDoes (pair_of 0 x)) (sym one) (first_owes low high q e (eqb-true minimum 0 f)))
        (λ f. first_lost low high q e (eqb-false minimum 0 f))))
    response_does low high soon (suited s) =
        let few : low ≤ last_time + 1 = omega (arith, s.low_is, past (length stimuli - 1) (omega (arith, s.some))) in
        let here = at_left responses (t ∷ []) 0 s.there in
        rw (ne_eqb high 0 (λ e. omega (arith, s.high_is)), one, plus_is low maximum few max_small)
        (split (leb (t + 1) (low + maximum)) (λ x. ResponseDoes (cond x (pair_of low high) no_pair))
        (λ e. (
          suited (record {
            there = omega (arith, more, s.there);
            high_is = s.high_is ∙ ap (λ (y : ℕ). y + 1) (sym here);
            some = s.some;
            low_is = s.low_is;
            near = each_snoc (Between minimum maximum (latest_of stimuli)) responses t s.near
                (omega (arith, (s.near 0 s.there).0, rises 0 s.there), omega (arith, s.low_is, leb-true (t + 1) (low + maximum) e));
            first = each_snoc (λ y. at (responses ++ t ∷ []) 0 ≤ y) responses t (λ i h. omega (arith, here, s.first i h))
                (omega (arith, here, rises 0 s.there));
          }),
          omega (arith, owed_there low high (λ z. omega (arith, s.low_is))),
        ))
        (λ e fs gs late late_responses m.
        by_cases (dec_lt 0 (length fs))
        (λ some. omega (
          arith,
          here,
          rises 0 s.there,
          asked_new stimuli fs (responses ++ t ∷ []) gs 0 t (omega (arith, more)) late some m,
        ))
        (λ none. omega (
          arith,
          s.low_is,
          last_is,
          leb-false (t + 1) (low + maximum) e,
          (asked_old stimuli fs (responses ++ t ∷ []) gs (length responses) (omega (arith, more)) (omega arith) m).1.1,
        ))))
    response_does low high soon (owes o) =
        absurd (omega (arith, rises 0 o.there, owed_is low high (at responses 0) o.low_is o.high_is))

  -- ---- the clock, and the close

  owes_of : (stimuli responses : List ℕ) (low high : ℕ) → AgeColour stimuli responses low high → owed low high < no_limit
      → Owes stimuli responses low high
  owes_of stimuli responses low high (quiet q) soon = absurd (omega (arith, owed_quiet low high q.high_is))
  owes_of stimuli responses low high (suited s) soon = absurd (omega (arith, owed_there low high (λ e. omega (arith, s.low_is))))
  owes_of stimuli responses low high (owes o) soon = o

  colour_late : (stimuli responses : List ℕ) (low high t : ℕ) → AgeColour stimuli responses low high → owed low high < t → t ≤ last_time
      → LostAge t stimuli responses
  colour_late stimuli responses low high t colour passed small fs gs late late_responses m =
      let o = owes_of stimuli responses low high colour (omega arith) in
      let is = owed_is low high (at responses 0) o.low_is o.high_is in
      by_cases (dec_lt 0 (length fs))
      (λ some. omega (arith, is, asked_new stimuli fs responses gs 0 t o.there late some m))
      (λ none. let asks = asked_old stimuli fs responses gs 0 o.there (omega arith) m in
      omega (arith, asks.1.1, o.unmet asks.0))

  colour_says : (stimuli responses : List ℕ) (low high : ℕ) → AgeColour stimuli responses low high → no_limit ≤ owed low high
      → MeetsAge minimum maximum stimuli responses
  unfolding MeetsAge
  colour_says stimuli responses low high (quiet q) none = λ i h. absurd (omega (arith, q.no_response))
  colour_says stimuli responses low high (suited s) none = λ i h. (s.some, s.near i h)
  colour_says stimuli responses low high (owes o) none =
      absurd (omega (arith, o.small, owed_is low high (at responses 0) o.low_is o.high_is))

  colour_unsaid : (stimuli responses : List ℕ) (low high : ℕ) → AgeColour stimuli responses low high → owed low high < no_limit
      → ¬ MeetsAge minimum maximum stimuli responses
  unfolding MeetsAge
  colour_unsaid stimuli responses low high colour soon m =
      let o = owes_of stimuli responses low high colour soon in
      let asks = m 0 o.there in
      omega (arith, asks.1.1, o.unmet asks.0)

  -- a stimulus at the response's own time
  answered : (stimuli responses : List ℕ) (low high : ℕ) → Owes stimuli responses low high
      → AgeColour (stimuli ++ at responses 0 ∷ []) responses (at responses 0 + 1) (at responses 0 + 1)
  answered stimuli responses low high o =
      let a = at responses 0 in
      let is = latest_new stimuli (a ∷ []) (omega arith) in
      suited (record {
        there = o.there;
        high_is = refl;
        some = omega (arith, length-append stimuli (a ∷ []));
        low_is = omega (arith, is);
        near = λ i h. (omega (arith, is, o.alone i h, o.free), omega (arith, is, o.alone i h));
        first = λ i h. omega (arith, o.alone i h);
      })

-- ---- the row

module _ (minimum maximum : ℕ) (low_first : minimum ≤ maximum) (max_small : maximum ≤ last_time) where
  near : (f : ℕ → List ℕ) (low high now : ℕ) → AgeColour minimum maximum (f 0) (f 1) low high → now ≤ owed low high → owed low high < no_limit
      → NearerPair (AgeColour minimum maximum) owed (λ low high. cond (eqb low 0) high 0) f low high now
  near f low high now colour in_time soon =
      let o = owes_of minimum maximum (f 0) (f 1) low high colour soon in
      let a = at (f 1) 0 in
      let is = owed_is low high a o.low_is o.high_is in
      record {
        kind = 0;
        of_row = omega arith;
        moment = a;
        begun = omega arith;
        soon = omega arith;
        rises = o.before;
        new_low = a + 1;
        new_high = a + 1;
        keeps = answered minimum maximum (f 0) (f 1) low high o;
        in_time = omega (arith, o.small, owed_there (a + 1) (a + 1) (λ z. omega arith));
        fewer = rw (ne_eqb (a + 1) 0 (λ z. omega arith), o.low_is, o.high_is) (omega arith);
      }

  by_age : ByPairs (MeetsAge minimum maximum) owed (λ low high t. after_stimulus_age minimum high t) (after_response_age minimum maximum)
  by_age =
      record {
        Colour = AgeColour minimum maximum;
        lacks = λ low high. cond (eqb low 0) high 0;
        start = quiet (record {
          no_response = refl;
          high_is = refl;
          none = λ e. refl;
          some = λ l. absurd (omega arith);
          below = each_none (λ s. s < 0);
        });
        start_due = refl;
        stimulus_does = stimulus_does minimum maximum;
        response_does = λ stimuli responses t past rises small. response_does minimum maximum stimuli responses t past rises small
            (omega (arith, low_first, max_small)) max_small;
        late = colour_late minimum maximum;
        says = colour_says minimum maximum;
        unsaid = colour_unsaid minimum maximum;
        nearer = near;
      }

-- §5.12
pub exact_age : (stimulus response minimum maximum : ℕ) → Sound (Age stimulus response minimum maximum)
    → Exact (Age stimulus response minimum maximum) (decide_age (parameters_of (Age stimulus response minimum maximum)))
unfolding Meets waiting decide_age
exact_age stimulus response minimum maximum sound =
    let c = Age stimulus response minimum maximum in
    exact_by_pairs c sound stimulus response minimum maximum refl (MeetsAge minimum maximum) owed (due_age 8)
    (λ low high t. after_stimulus_age minimum high t) (after_response_age minimum maximum)
    (by_age minimum maximum (minimum_first c sound stimulus response minimum maximum refl)
    (maximum_small c sound stimulus response minimum maximum refl))
    first_owed_age refl refl refl (λ steps. refl) (λ steps. (λ m. m, λ m. m))

-- ---- In a row

steady_age : (parameters : Parameters) (m : Registers) (words : List ℕ) (s t : ℕ) → Steady last_saved m words (decide_age parameters m words s t)
unfolding decide_age
steady_age parameters m words s t =
    steady_pair owed (due_age 8) m words (s % 8) (pair_after_age parameters s (low_of words (s % 8)) (high_of words (s % 8)) t)

pub fits_age : FitsRow machine_age
fits_age = fits_steady keeping_last steady_age
