-- Rows of two coloured kinds with two words for each colour: such a row is exact if the two words of a colour tell what an event of it does, and if a
-- colour that is not kept can be brought nearer by one event.
use Rattle.event_chain.proofs.Laws.ByColour.{ByColour, Colouring, Lost, Nearer, Turned, due_next_lem, exact_by_colour, least_limit, with_one}
use Rattle.event_chain.proofs.Laws.Words.{due_stored, high_of, low_of, marking_last, other_high, other_low, stored, stored_high, stored_low}
use Rattle.event_chain.proofs.Laws.Words.{stored_whole, stream_coloured}
use Rattle.event_chain.specs.{Coloured.least_of, Marked.coloured_kind, Marked.due_marked, Marked.due_next}
use Rattle.event_chain.specs.Pairs.{change_pair, due_pairs}
use Rattle.event_chain.specs.declared.pairs.Pair.{Pair}
use Rattle.std.specs.Prelude.{Option, Some, None}
use Rattle.constraint.proofs.Library.{List, [], ◌%◌, ◌*◌, ◌++◌, ◌+◌, ◌<◌, ◌↔◌, ◌∙◌, ◌∷◌, ◌≡◌, ◌≤◌, ap, ap₂, arith, cond, eq-eqb, eqb, false}
use Rattle.constraint.proofs.Library.{get_or-replicate, length, ltb, ne_eqb, refl, replicate, subst, subst₂, suc, sym, take, zero, ℕ}
use Rattle.constraint.proofs.Lists.{Each, each_cons, each_none}
use Rattle.constraint.proofs.Streams.{streams_in}
use Rattle.constraint.specs.Accepted.{EachField, FieldInRange, InRange, KindClassFits, KindsFit, KindsSuit, LowerFirst, Ordered, kinds_in}
use Rattle.constraint.specs.Steps.{Step, at, times}
use Rattle.constraint.specs.Types.{Field, byte, coloured, fields_of, first_of, lower, time, type_of, upper}
use Rattle.constraint.specs.{Limits.first_coloured, Limits.last_colour, Limits.last_time, Limits.no_limit, Meets.Meets, Streams.stream}
use Rattle.constraint.specs.{Waiting.waiting, Constraint.Constraint}
use Rattle.row_type.proofs.Exact.{ByOutcome, Exact, Sound}
use Rattle.row_type.proofs.FieldNumbers.{tag_is}
use Rattle.row_type.proofs.FitsRow.{Steady, keeping_last, steady_breaking, steady_by, steady_store}
use Rattle.row_type.proofs.SeveralKinds.{kinds_apart}
use Rattle.row_type.specs.Parameters.{constants_of, start_words, waits_in, word_counts}
use Rattle.row_type.specs.{Parts.breaking, Words.last_saved, declared.Change.Change, declared.Registers.Registers}

-- ---- a colour's words

-- by what an event makes of a colour's words
abbrev pub ByPair : Type 0 → (ℕ → ℕ → Type 0) → Option Pair → Type 0
ByPair Breaks Goes None = Breaks
ByPair Breaks Goes (Some pair) = Goes pair.low pair.high

-- no further times from t on are what is said
abbrev pub LostPair : (List ℕ → List ℕ → Type 0) → ℕ → List ℕ → List ℕ → Type 0
LostPair Says t stimuli responses =
    (fs gs : List ℕ) → Each (λ s. t ≤ s) fs → Each (λ y. t ≤ y) gs → ¬ Says (stimuli ++ fs) (responses ++ gs)

-- an event that brings a colour nearer to being kept, not after its last moment: a stimulus, 0, or a response, 1; and the new words
pub record NearerPair (Colour : List ℕ → List ℕ → ℕ → ℕ → Type 0) (owed lacks : ℕ → ℕ → ℕ) (f : ℕ → List ℕ) (low high now : ℕ) : Type 0 where
  pub kind : ℕ
  pub of_row : kind < 2
  pub moment : ℕ
  pub begun : now ≤ moment
  pub soon : moment ≤ owed low high
  pub rises : Each (λ s. s < moment) (f kind)
  pub new_low : ℕ
  pub new_high : ℕ
  pub keeps : Colour (with_one f kind moment 0) (with_one f kind moment 1) new_low new_high
  pub in_time : moment ≤ owed new_low new_high
  pub fewer : lacks new_low new_high < lacks low high

-- what the row says of a colour's times, and what its words tell
pub record ByPairs (Says : List ℕ → List ℕ → Type 0) (owed : ℕ → ℕ → ℕ) (on_stimulus on_response : ℕ → ℕ → ℕ → Option Pair) : Type 1 where
  pub Colour : List ℕ → List ℕ → ℕ → ℕ → Type 0
  pub lacks : ℕ → ℕ → ℕ
  pub start : Colour [] [] 0 0
  pub start_due : owed 0 0 ≡ no_limit
  -- an event in time leaves no continuation, or the colour goes on
  pub stimulus_does : (stimuli responses : List ℕ) (t : ℕ) → Each (λ s. s ≤ t) stimuli → Each (λ y. y ≤ t) responses → t ≤ last_time
      → (low high : ℕ) → Colour stimuli responses low high
      → ByPair (LostPair Says t (stimuli ++ t ∷ []) responses) (λ l h. Colour (stimuli ++ t ∷ []) responses l h × (t ≤ owed l h))
      (on_stimulus low high t)
  pub response_does : (stimuli responses : List ℕ) (t : ℕ) → Each (λ s. s ≤ t) stimuli → Each (λ y. y < t) responses → t ≤ last_time
      → (low high : ℕ) → t ≤ owed low high → Colour stimuli responses low high
      → ByPair (LostPair Says t stimuli (responses ++ t ∷ [])) (λ l h. Colour stimuli (responses ++ t ∷ []) l h × (t ≤ owed l h))
      (on_response low high t)
  -- the clock past the last moment leaves none; without a last moment it is met, and with one it is not
  pub late : (stimuli responses : List ℕ) (low high t : ℕ) → Colour stimuli responses low high → owed low high < t → t ≤ last_time
      → LostPair Says t stimuli responses
  pub says : (stimuli responses : List ℕ) (low high : ℕ) → Colour stimuli responses low high → no_limit ≤ owed low high → Says stimuli responses
  pub unsaid : (stimuli responses : List ℕ) (low high : ℕ) → Colour stimuli responses low high → owed low high < no_limit → ¬ Says stimuli responses
  -- and until then it can be brought nearer
  pub nearer : (f : ℕ → List ℕ) (low high now : ℕ) → Colour (f 0) (f 1) low high → now ≤ owed low high → owed low high < no_limit
      → NearerPair Colour owed lacks f low high now

-- ---- the machine

-- the due time after new words of a colour, by the last moments of the words and that of all colours
abbrev pub pair_due : (ℕ → ℕ → ℕ) → (ℕ → ℕ → ℕ → List ℕ → ℕ) → Registers → List ℕ → ℕ → ℕ → ℕ → ℕ
pair_due owed due registers words d low high =
    due_next (due_marked registers) (owed (low_of words d) (high_of words d)) (owed low high) (due d low high words)

-- the change that new words of a colour make
abbrev pub pair_change : (ℕ → ℕ → ℕ) → (ℕ → ℕ → ℕ → List ℕ → ℕ) → Registers → List ℕ → ℕ → Option Pair → Change
pair_change owed due registers words d pair = change_pair owed due registers words d (owed (low_of words d) (high_of words d)) pair

-- an event of one of the row's streams
abbrev pub decide_pair : (ℕ → ℕ → ℕ) → (ℕ → ℕ → ℕ → List ℕ → ℕ) → (ℕ → ℕ → ℕ → Option Pair) → (ℕ → ℕ → ℕ → Option Pair) → ℕ
    → Registers → List ℕ → ℕ → ℕ → Change
decide_pair owed due on_stimulus on_response stimulus registers words s t =
    cond (ltb (length words) 16) breaking
    (pair_change owed due registers words (s % 8)
    (cond (eqb (coloured_kind s) stimulus) (on_stimulus (low_of words (s % 8)) (high_of words (s % 8)) t) (on_response (low_of words (s % 8))
    (high_of words (s % 8)) t)))

-- its due time is the first of all last moments
abbrev pub FirstOwed : (ℕ → ℕ → ℕ) → (ℕ → ℕ → ℕ → List ℕ → ℕ) → Type 0
FirstOwed owed due = (d low high : ℕ) (words : List ℕ) → due d low high words ≡ due_pairs owed d low high words 8

-- whatever the words of the event's colour become, they stand where they stood, and only the mark changes
pub steady_pair : (owed : ℕ → ℕ → ℕ) (due : ℕ → ℕ → ℕ → List ℕ → ℕ) (m : Registers) (words : List ℕ) (d : ℕ) (pair : Option Pair)
    → Steady last_saved m words (cond (ltb (length words) 16) breaking (pair_change owed due m words d pair))
steady_pair owed due m words d None = steady_by (ltb (length words) 16) (steady_breaking keeping_last) (steady_breaking keeping_last)
steady_pair owed due m words d (Some pair) =
    steady_by (ltb (length words) 16) (steady_breaking keeping_last)
    (steady_store (2 * d) pair.low pair.high (marking_last (pair_due owed due m words d pair.low pair.high)))

-- ---- a constraint of two coloured kinds and an interval

abbrev pub pair_fields : ℕ → ℕ → ℕ → ℕ → List Field
pair_fields stimulus response minimum maximum =
    byte coloured stimulus ∷ byte coloured response ∷ time lower minimum ∷ time upper maximum ∷ []

module _ (c : Constraint) (sound : Sound c) (stimulus response minimum maximum : ℕ)
    (fields : fields_of c ≡ pair_fields stimulus response minimum maximum)
  where
    abbrev ks : List ℕ
    ks = stimulus ∷ response ∷ []

    suit : EachField KindClassFits (pair_fields stimulus response minimum maximum)
    unfolding KindsSuit
    suit = subst (EachField KindClassFits) fields sound.kinds_suit

    fit : KindsFit ks
    fit = subst (λ (l : List Field). KindsFit (kinds_in l)) fields sound.kinds_fit

    coloured_all : Each (λ k. first_coloured ≤ k) ks
    coloured_all =
        each_cons (λ k. first_coloured ≤ k) stimulus (response ∷ []) suit.0
        (each_cons (λ k. first_coloured ≤ k) response [] suit.1.0 (each_none (λ k. first_coloured ≤ k)))

    kinds_differ : ¬ (response ≡ stimulus)
    kinds_differ = kinds_apart ks fit 1 0 (omega arith) (omega arith) (λ e. omega arith)

    pub minimum_first : minimum ≤ maximum
    unfolding LowerFirst
    minimum_first = (subst (λ (l : List Field). Ordered (first_of l) 0 l) fields sound.lower_first).1.1.1.0

    pub maximum_small : maximum ≤ last_time
    unfolding InRange
    maximum_small = (subst (EachField FieldInRange) fields sound.in_range).1.1.1.0

    colour_of : (k d : ℕ) → d ≤ last_colour → stream k d % 8 ≡ d
    colour_of k d few = omega arith

    module _ (Says : List ℕ → List ℕ → Type 0) (owed : ℕ → ℕ → ℕ) (due : ℕ → ℕ → ℕ → List ℕ → ℕ) (on_stimulus on_response : ℕ → ℕ → ℕ → Option Pair)
        (r : ByPairs Says owed on_stimulus on_response) (due_is : FirstOwed owed due) where
      abbrev decide : Registers → List ℕ → ℕ → ℕ → Change
      decide = decide_pair owed due on_stimulus on_response stimulus

      abbrev SaysOf : (ℕ → List ℕ) → Type 0
      SaysOf f = Says (f 0) (f 1)

      abbrev colouring : Colouring
      colouring =
          record {
            Keeps = λ f d words. (length words ≡ 16) × r.Colour (f 0) (f 1) (low_of words d) (high_of words d);
            due = λ words d. owed (low_of words d) (high_of words d);
            lacks = λ words d. r.lacks (low_of words d) (high_of words d);
            Alike = λ e a b. (low_of b e ≡ low_of a e) × (high_of b e ≡ high_of a e);
          }

      decides_stimulus : (registers : Registers) (words : List ℕ) (d t : ℕ) → d ≤ last_colour → length words ≡ 16
          → decide registers words (stream stimulus d) t ≡ pair_change owed due registers words d (on_stimulus (low_of words d) (high_of words d) t)
      decides_stimulus registers words d t few whole =
          rw (whole, colour_of stimulus d few, stream_coloured stimulus d suit.0 few, eq-eqb stimulus stimulus refl)

      decides_response : (registers : Registers) (words : List ℕ) (d t : ℕ) → d ≤ last_colour → length words ≡ 16
          → decide registers words (stream response d) t ≡ pair_change owed due registers words d (on_response (low_of words d) (high_of words d) t)
      decides_response registers words d t few whole =
          rw (whole, colour_of response d few, stream_coloured response d suit.1.0 few, ne_eqb response stimulus kinds_differ)

      -- the new words of a colour
      pair_turns : (f : ℕ → List ℕ) (registers : Registers) (words : List ℕ) (d j t : ℕ) (pair : Option Pair) → d ≤ last_colour → length words ≡ 16
          → due_marked registers ≡ least_of (colouring.due words) 8
          → ByPair (LostPair Says t (with_one f j t 0) (with_one f j t 1))
          (λ l h. r.Colour (with_one f j t 0) (with_one f j t 1) l h × (t ≤ owed l h)) pair
          → ByOutcome (Lost 2 SaysOf t (with_one f j t)) (Turned colouring f d j t words) (pair_change owed due registers words d pair)
      pair_turns f registers words d j t None few whole marked = λ lost g late. lost (g 0) (g 1) (late 0 (omega arith)) (late 1 (omega arith))
      pair_turns f registers words d j t (Some pair) few whole marked =
          let low = pair.low in let high = pair.high in
          let now = pair_due owed due registers words d low high in
          let next = colouring.due (stored words d low high) in
          let low_is = sym (stored_low words whole d low high (omega arith)) in
          let high_is = sym (stored_high words whole d low high (omega arith)) in
          let first : now ≡ least_of next 8 =
          due_next_lem (colouring.due words) next d (omega arith)
          (λ e h o. ap₂ owed (other_low words whole d low high (omega arith) e o) (other_high words whole d low high (omega arith) e o))
          (due_marked registers) (owed low high) (due d low high words) marked (ap₂ owed low_is high_is)
          (due_is d low high words ∙ due_stored words whole d low high (omega arith) owed 8) in
          λ goes. record {
            keeps = (
              stored_whole words whole d low high (omega arith),
              subst₂ (r.Colour (with_one f j t 0) (with_one f j t 1)) low_is high_is goes.0,
            );
            others = λ x l o. (other_low words whole d low high (omega arith) x o, other_high words whole d low high (omega arith) x o);
            in_time = subst₂ (λ (a b : ℕ). t ≤ owed a b) low_is high_is goes.1;
            due_is = first;
            kept_is = refl;
            marked = omega (arith, first, least_limit next 8);
          }

      turns : (f : ℕ → List ℕ) (registers : Registers) (words : List ℕ) (d j t : ℕ) → d ≤ last_colour → j < 2
          → ((i : ℕ) → i < 2 → Each (λ s. s ≤ t) (f i)) → Each (λ s. s < t) (f j) → t ≤ last_time → colouring.Keeps f d words
          → t ≤ colouring.due words d → due_marked registers ≡ least_of (colouring.due words) 8
          → ByOutcome (Lost 2 SaysOf t (with_one f j t)) (Turned colouring f d j t words) (decide registers words (stream (at ks j) d) t)
      turns f registers words d zero t few h past rises small keeps soon marked =
          rw (decides_stimulus registers words d t few keeps.0)
          (pair_turns f registers words d 0 t (on_stimulus (low_of words d) (high_of words d) t) few keeps.0 marked
          (r.stimulus_does (f 0) (f 1) t (past 0 (omega arith)) (past 1 (omega arith)) small (low_of words d) (high_of words d) keeps.1))
      turns f registers words d (suc zero) t few h past rises small keeps soon marked =
          rw (decides_response registers words d t few keeps.0)
          (pair_turns f registers words d 1 t (on_response (low_of words d) (high_of words d) t) few keeps.0 marked
          (r.response_does (f 0) (f 1) t (past 0 (omega arith)) rises small (low_of words d) (high_of words d) soon keeps.1))
      turns f registers words d (suc (suc j)) t few h past rises small keeps soon marked = absurd (omega arith)

      nearer : (f : ℕ → List ℕ) (words : List ℕ) (d now : ℕ) → d ≤ last_colour → ((i : ℕ) → i < 2 → Each (λ s. s ≤ now) (f i)) → Unit {0}
          → colouring.Keeps f d words → now ≤ colouring.due words d → colouring.due words d < no_limit
          → Nearer colouring (λ x. Unit {0}) 2 f d words now
      nearer f words d now few past fine (whole, colour) in_time soon =
          let near = r.nearer f (low_of words d) (high_of words d) now colour in_time soon in
          let low = near.new_low in let high = near.new_high in
          let low_is = sym (stored_low words whole d low high (omega arith)) in
          let high_is = sym (stored_high words whole d low high (omega arith)) in
          record {
            kind = near.kind;
            of_row = near.of_row;
            moment = near.moment;
            begun = near.begun;
            soon = near.soon;
            fine = tt;
            rises = near.rises;
            next = stored words d low high;
            keeps = (
              stored_whole words whole d low high (omega arith),
              subst₂ (r.Colour (with_one f near.kind near.moment 0) (with_one f near.kind near.moment 1)) low_is high_is near.keeps,
            );
            others = λ x l o. (other_low words whole d low high (omega arith) x o, other_high words whole d low high (omega arith) x o);
            in_time = subst₂ (λ (a b : ℕ). near.moment ≤ owed a b) low_is high_is near.in_time;
            fewer = subst₂ (λ (a b : ℕ). r.lacks a b < r.lacks (low_of words d) (high_of words d)) low_is high_is near.fewer;
          }

      zero_at : (i : ℕ) → i < 16 → at (replicate 16 0) i ≡ 0
      zero_at i h = get_or-replicate 16 i 0 0 h

      by_colour : at word_counts (type_of c) ≡ 16 → constants_of c ≡ [] → waits_in (type_of c) ≡ false → ((steps : List Step) → waiting c steps ≡ 0)
          → ((steps : List Step) → Meets c steps ↔ ((d : ℕ) → d ≤ last_colour → Says (times (stream stimulus d) steps)
          (times (stream response d) steps)))
          → ByColour c decide
      by_colour long none none_waits waits_none meets =
          let start : start_words c ≡ replicate 16 0 =
          ap₂ (λ (m : ℕ) (l : List ℕ). take m (take 64 (l ++ replicate 64 0))) (ap (at word_counts) (tag_is c) ∙ long) none in
          record {
            ks = ks;
            fit = fit;
            coloured_all = coloured_all;
            streams_are = ap streams_in fields;
            none_waits = ap waits_in (tag_is c) ∙ none_waits;
            waits_none = waits_none;
            Says = SaysOf;
            says_same = λ f g same. subst₂ Says (same 0 (omega arith)) (same 1 (omega arith));
            meets = meets;
            k = colouring;
            keeps_same = λ f g same d words (whole, colour). (
              whole,
              subst₂ (λ (x y : List ℕ). r.Colour x y (low_of words d) (high_of words d)) (same 0 (omega arith)) (same 1 (omega arith)) colour,
            );
            keeps_alike = λ f e a b alike long (whole, colour). (
              long ∙ whole,
              subst₂ (r.Colour (f 0) (f 1)) (sym alike.0) (sym alike.1) colour,
            );
            due_alike = λ e a b alike. ap₂ owed alike.0 alike.1;
            lacks_alike = λ e a b alike. ap₂ r.lacks alike.0 alike.1;
            size = 16;
            few = omega arith;
            whole = λ f d words keeps. keeps.0;
            start_keeps = λ d h. rw start
                (refl, subst₂ (r.Colour [] []) (sym (zero_at (2 * d) (omega arith))) (sym (zero_at (2 * d + 1) (omega arith))) r.start);
            start_due = λ d h. rw start (ap₂ owed (zero_at (2 * d) (omega arith)) (zero_at (2 * d + 1) (omega arith)) ∙ r.start_due);
            turns = turns;
            late = λ f words d t keeps passed small g late. r.late (f 0) (f 1) (low_of words d) (high_of words d) t keeps.1 passed small
                (g 0) (g 1) (late 0 (omega arith)) (late 1 (omega arith));
            says = λ f words d keeps none. r.says (f 0) (f 1) (low_of words d) (high_of words d) keeps.1 none;
            unsaid = λ f words d keeps soon. r.unsaid (f 0) (f 1) (low_of words d) (high_of words d) keeps.1 soon;
            Fine = λ x. Unit {0};
            fine = λ now small. tt;
            nearer = nearer;
          }

      pub exact_by_pairs : at word_counts (type_of c) ≡ 16 → constants_of c ≡ [] → waits_in (type_of c) ≡ false → ((steps : List Step)
          → waiting c steps ≡ 0)
          → ((steps : List Step) → Meets c steps ↔ ((d : ℕ) → d ≤ last_colour → Says (times (stream stimulus d) steps)
          (times (stream response d) steps)))
          → Exact c decide
      exact_by_pairs long none none_waits waits_none meets = exact_by_colour c decide (by_colour long none none_waits waits_none meets)
