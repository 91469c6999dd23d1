-- One colour of a Reaction: its words say where the first response may still come, which is from minimum after the newest stimulus to maximum
-- after the oldest, or when it came. A response to come can be at any time from the clock on, as its stream is empty.
use Rattle.event_chain.proofs.Laws.ByPairs.{ByPair, LostPair}
use Rattle.event_chain.proofs.Laws.Firsts.{each_snoc}
use Rattle.event_chain.proofs.Laws.Words.{latest_none, latest_some}
use Rattle.event_chain.specs.Reaction.{after_response, after_stimulus, latest}
use Rattle.event_chain.specs.Pairs.{no_pair, pair_of}
use Rattle.event_chain.specs.declared.pairs.Pair.{Pair}
use Rattle.std.specs.Prelude.{Option}
use Rattle.constraint.proofs.Library.{List, [], ◌++◌, ◌+◌, ◌<◌, ◌∙◌, ◌∷◌, ◌≡◌, ◌≤◌, ap, arith, cond, length, length-append, ltb, ltb-false, ltb-true}
use Rattle.constraint.proofs.Library.{ne_eqb, refl, sym, ℕ}
use Rattle.constraint.proofs.Lists.{Each, at_left, at_next, split}
use Rattle.constraint.specs.{Limits.last_time, Limits.no_limit, Meets.Between, Meets.MeetsReaction, Steps.at}
use Rattle.row_type.specs.Parts.{plus}

plus_is : (t x : ℕ) → t ≤ last_time → x ≤ last_time → plus t x ≡ t + x
plus_is t x h k = omega arith

module _ (minimum maximum : ℕ) where
  pub record Quiet (stimuli responses : List ℕ) (low high : ℕ) : Type 0 where
    pub no_stimulus : length stimuli ≡ 0
    pub no_response : length responses ≡ 0
    pub low_is : low ≡ 0
    pub high_is : high ≡ 0

  pub record Pending (stimuli responses : List ℕ) (low high : ℕ) : Type 0 where
    pub no_response : length responses ≡ 0
    pub newest : (i : ℕ) × (i < length stimuli) × (low ≡ at stimuli i + minimum)
    pub oldest : (j : ℕ) × (j < length stimuli) × (high ≡ at stimuli j + maximum + 1)
    pub inside : Each (λ s. (s + minimum ≤ low) × (high ≤ s + maximum + 1)) stimuli
    pub room : low < high
    pub small : high ≤ no_limit

  pub record Answered (stimuli responses : List ℕ) (low high : ℕ) : Type 0 where
    pub some : 0 < length responses
    pub low_is : low ≡ at responses 0 + 1
    pub high_is : high ≡ 0
    pub suits : Each (λ s. Between minimum maximum s (at responses 0)) stimuli

  pub data LiveColour (stimuli responses : List ℕ) (low high : ℕ) : Type 0 where
    quiet : Quiet stimuli responses low high → LiveColour stimuli responses low high
    pending : Pending stimuli responses low high → LiveColour stimuli responses low high
    answered : Answered stimuli responses low high → LiveColour stimuli responses low high

  -- no further times from t on meet it
  abbrev pub LostColour : ℕ → List ℕ → List ℕ → Type 0
  LostColour = LostPair (MeetsReaction minimum maximum)

  -- it goes on, and t is not past the last moment
  abbrev pub GoesAt : ℕ → List ℕ → List ℕ → ℕ → ℕ → Type 0
  GoesAt t stimuli responses low high = LiveColour stimuli responses low high × (t ≤ latest high)

  -- ---- what is asked of the first response by the stimulus at a place

  asked : (stimuli fs responses : List ℕ) (i : ℕ) → i < length stimuli → MeetsReaction minimum maximum (stimuli ++ fs) responses
      → (0 < length responses) × Between minimum maximum (at stimuli i) (at responses 0)
  unfolding MeetsReaction
  asked stimuli fs responses i h m =
      let there = m i (omega (arith, length-append stimuli fs)) in
      (there.0, (rw (at_left stimuli fs i h) at there.1.0, rw (at_left stimuli fs i h) at there.1.1))

  -- the first response, where one is there already, and where the next is it
  first_there : (responses gs : List ℕ) → 0 < length responses → at (responses ++ gs) 0 ≡ at responses 0
  first_there responses gs some = at_left responses gs 0 some

  first_next : (responses : List ℕ) (y : ℕ) (gs : List ℕ) → length responses ≡ 0 → at (responses ++ y ∷ gs) 0 ≡ y
  first_next responses y gs none = at_next responses y gs 0 (sym none)

  -- a stimulus at t, seen last
  last_stimulus : (stimuli : List ℕ) (t : ℕ) → at (stimuli ++ t ∷ []) (length stimuli) ≡ t
  last_stimulus stimuli t = at_next stimuli t [] (length stimuli) refl

  -- ---- a stimulus

  module _ (stimuli responses : List ℕ) (t : ℕ) (past : Each (λ s. s ≤ t) stimuli) (past_responses : Each (λ y. y ≤ t) responses)
      (small : t ≤ last_time) (low_first : minimum ≤ maximum) (max_small : maximum ≤ last_time) where
    abbrev StimulusDoes : Option Pair → Type 0
    StimulusDoes = ByPair (LostColour t (stimuli ++ t ∷ []) responses) (GoesAt t (stimuli ++ t ∷ []) responses)

    longer : length (stimuli ++ t ∷ []) ≡ length stimuli + 1
    longer = length-append stimuli (t ∷ [])

    pub stimulus_does : (low high : ℕ) → LiveColour stimuli responses low high → StimulusDoes (after_stimulus minimum maximum low high t)
    stimulus_does low high (quiet q) =
        let begun : Pending (stimuli ++ t ∷ []) responses (t + minimum) (t + maximum + 1) =
        record {
          no_response = q.no_response;
          newest = (length stimuli, omega (arith, longer), ap (λ (s : ℕ). s + minimum) (sym (last_stimulus stimuli t)));
          oldest = (length stimuli, omega (arith, longer), ap (λ (s : ℕ). s + maximum + 1) (sym (last_stimulus stimuli t)));
          inside = each_snoc (λ s. (s + minimum ≤ t + minimum) × (t + maximum + 1 ≤ s + maximum + 1)) stimuli t
              (λ i h. absurd (omega (arith, q.no_stimulus))) (omega arith, omega arith);
          room = omega arith;
          small = omega arith;
        } in
        let sum : plus (plus t maximum) 1 ≡ t + maximum + 1 = omega arith in
        rw (q.low_is, q.high_is, sum, plus_is t minimum small (omega arith))
        (pending begun, omega (arith, latest_some (t + maximum + 1) (λ e. omega arith)))
    stimulus_does low high (pending p) =
        rw (ne_eqb high 0 (λ e. omega (arith, p.room)), plus_is t minimum small (omega arith))
        (split (ltb (t + minimum) high) (λ x. StimulusDoes (cond x (pair_of (t + minimum) high) no_pair))
        (λ e. (
          pending (moved (ltb-true (t + minimum) high e)),
          omega (arith, ltb-true (t + minimum) high e, latest_some high (λ z. omega (arith, p.room))),
        ))
        (λ e fs gs late_stimuli late m.
        let (j, h, is) = p.oldest in
        let last = asked (stimuli ++ t ∷ []) fs (responses ++ gs) (length stimuli) (omega (arith, longer)) m in
        let first = asked (stimuli ++ t ∷ []) fs (responses ++ gs) j (omega (arith, longer)) m in
        omega (arith, ltb-false (t + minimum) high e, is, last.1.0, first.1.1, last_stimulus stimuli t, at_left stimuli (t ∷ []) j h)))
      where
        moved : t + minimum < high → Pending (stimuli ++ t ∷ []) responses (t + minimum) high
        moved room =
            let (i, h, newest-is) = p.newest in
            let (j, l, oldest_is) = p.oldest in
            record {
              no_response = p.no_response;
              newest = (length stimuli, omega (arith, longer), ap (λ (s : ℕ). s + minimum) (sym (last_stimulus stimuli t)));
              oldest = (j, omega (arith, longer), oldest_is ∙ ap (λ (s : ℕ). s + maximum + 1) (sym (at_left stimuli (t ∷ []) j l)));
              inside = each_snoc (λ s. (s + minimum ≤ t + minimum) × (high ≤ s + maximum + 1)) stimuli t
                  (λ k g. (omega (arith, past k g), (p.inside k g).1)) (omega arith, omega (arith, oldest_is, past j l));
              room = room;
              small = p.small;
            }
    stimulus_does low high (answered a) =
        rw (a.high_is, ne_eqb low 0 (λ e. omega (arith, a.low_is)), plus_is t minimum small (omega arith))
        (split (ltb (t + minimum) low) (λ x. StimulusDoes (cond x (pair_of low 0) no_pair))
        (λ e. (
          answered (record {
            some = a.some;
            low_is = a.low_is;
            high_is = refl;
            suits = each_snoc (λ s. Between minimum maximum s (at responses 0)) stimuli t a.suits
                (omega (arith, ltb-true (t + minimum) low e, a.low_is), omega (arith, past_responses 0 a.some));
          }),
          omega arith,
        ))
        (λ e fs gs late_stimuli late m.
        let last = asked (stimuli ++ t ∷ []) fs (responses ++ gs) (length stimuli) (omega (arith, longer)) m in
        omega (arith, ltb-false (t + minimum) low e, a.low_is, last.1.0, last_stimulus stimuli t, first_there responses gs a.some)))

  -- ---- a response

  -- a colour that waits gets its first response
  pub answers : (stimuli responses : List ℕ) (low high t : ℕ) → Pending stimuli responses low high → low ≤ t → t < high
      → Answered stimuli (responses ++ t ∷ []) (t + 1) 0
  answers stimuli responses low high t p late soon =
      record {
        some = omega (arith, length-append responses (t ∷ []));
        low_is = ap (λ (y : ℕ). y + 1) (sym (first_next responses t [] p.no_response));
        high_is = refl;
        suits = λ i h. rw (first_next responses t [] p.no_response) (omega (arith, p.inside i h), omega (arith, p.inside i h));
      }

  module _ (stimuli responses : List ℕ) (t : ℕ) (small : t ≤ last_time) where
    abbrev ResponseDoes : Option Pair → Type 0
    ResponseDoes = ByPair (LostColour t stimuli (responses ++ t ∷ [])) (GoesAt t stimuli (responses ++ t ∷ []))

    pub response_does : (low high : ℕ) → t ≤ latest high → LiveColour stimuli responses low high → ResponseDoes (after_response low high t)
    response_does low high soon (quiet q) =
        rw (q.low_is, q.high_is, plus_is t 1 small (omega arith)) (
          answered (record {
            some = omega (arith, length-append responses (t ∷ []));
            low_is = ap (λ (y : ℕ). y + 1) (sym (first_next responses t [] q.no_response));
            high_is = refl;
            suits = λ i h. absurd (omega (arith, q.no_stimulus));
          }),
          omega arith,
        )
    response_does low high soon (pending p) =
        let is = latest_some high (λ e. omega (arith, p.room)) in
        rw (ne_eqb high 0 (λ e. omega (arith, p.room)), plus_is t 1 small (omega arith))
        (split (ltb t low) (λ x. ResponseDoes (cond x no_pair (pair_of (t + 1) 0)))
        (λ e fs gs late_stimuli late m.
        let (i, h, newest-is) = p.newest in
        let asks = asked stimuli fs ((responses ++ t ∷ []) ++ gs) i h m in
        omega (
          arith,
          ltb-true t low e,
          newest-is,
          asks.1.0,
          at_left (responses ++ t ∷ []) gs 0 (omega (arith, length-append responses (t ∷ []))),
          first_next responses t [] p.no_response,
        ))
        (λ e. (answered (answers stimuli responses low high t p (ltb-false t low e) (omega (arith, is, p.room))), omega arith)))
    response_does low high soon (answered a) =
        rw (a.high_is, ne_eqb low 0 (λ e. omega (arith, a.low_is))) (
          answered (record {
            some = omega (arith, length-append responses (t ∷ []));
            low_is = a.low_is ∙ ap (λ (y : ℕ). y + 1) (sym (at_left responses (t ∷ []) 0 a.some));
            high_is = refl;
            suits = λ i h. rw (at_left responses (t ∷ []) 0 a.some) (a.suits i h);
          }),
          omega arith,
        )

  -- ---- the clock, and the close

  -- past the last moment of a colour that waits
  pub colour_late : (stimuli responses : List ℕ) (low high t : ℕ) → Pending stimuli responses low high → high ≤ t → LostColour t stimuli responses
  colour_late stimuli responses low high t p passed fs gs late_stimuli late m =
      let (j, h, is) = p.oldest in
      let asks = asked stimuli fs (responses ++ gs) j h m in
      let none = p.no_response in
      let first : at (responses ++ gs) 0 ≡ at gs 0 = first_of responses gs none in
      omega (arith, is, asks.1.1, late 0 (omega (arith, asks.0, length-append responses gs)))
    where
      first_of : (xs ys : List ℕ) → length xs ≡ 0 → at (xs ++ ys) 0 ≡ at ys 0
      first_of [] ys e = refl
      first_of (x ∷ xs) ys e = absurd (omega arith)

  -- a colour that does not wait is met, and one that waits is not
  pub colour_kept : (stimuli responses : List ℕ) (low high : ℕ) → LiveColour stimuli responses low high → no_limit ≤ latest high
      → MeetsReaction minimum maximum stimuli responses
  unfolding MeetsReaction
  colour_kept stimuli responses low high (quiet q) none = λ i h. absurd (omega (arith, q.no_stimulus))
  colour_kept stimuli responses low high (pending p) none = absurd (omega (arith, p.small, p.room, latest_some high (λ e. omega (arith, p.room))))
  colour_kept stimuli responses low high (answered a) none = λ i h. (a.some, a.suits i h)

  pub colour_unkept : (stimuli responses : List ℕ) (low high : ℕ) → Pending stimuli responses low high
      → ¬ MeetsReaction minimum maximum stimuli responses
  unfolding MeetsReaction
  colour_unkept stimuli responses low high p m = let (i, h, is) = p.newest in omega (arith, (m i h).0, p.no_response)

  -- a colour with a last moment waits
  pub waits : (stimuli responses : List ℕ) (low high : ℕ) → LiveColour stimuli responses low high → latest high < no_limit
      → Pending stimuli responses low high
  waits stimuli responses low high (quiet q) soon = absurd (omega (arith, latest_none high q.high_is))
  waits stimuli responses low high (pending p) soon = p
  waits stimuli responses low high (answered a) soon = absurd (omega (arith, latest_none high a.high_is))
