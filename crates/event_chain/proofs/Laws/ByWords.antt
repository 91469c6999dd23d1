-- Rows of coloured kinds with a word for each kind and colour: such a row is exact if the words of one colour tell what an event of it does, and if a
-- colour that is not kept can be brought nearer by one event at the clock. The places of the words are looked at here alone.
use Rattle.event_chain.proofs.Laws.ByColour.{ByColour, Colouring, Lost, Nearer, Turned, colours_of, due_next_lem, exact_by_colour, least_limit}
use Rattle.event_chain.proofs.Laws.ByColour.{least_same, with_one}
use Rattle.event_chain.proofs.Laws.Words.{marking_last, stream_coloured}
use Rattle.event_chain.specs.Coloured.{decide_words, due_words, four_kinds, kind_count, least_of, noted, one_new, place_among, place_in}
use Rattle.event_chain.specs.Coloured.{unchanged, words_at, words_but}
use Rattle.event_chain.specs.Marked.{coloured_kind, due_marked, due_next}
use Rattle.constraint.proofs.Library.{Bool, List, [], ◌%◌, ◌*◌, ◌++◌, ◌+◌, ◌<◌, ◌↔◌, ◌∙◌, ◌∷◌, ◌≡◌, ◌≤◌, ◌||◌, ap, ap₂, arith, by_cases, cond}
use Rattle.constraint.proofs.Library.{dec_lt, eq-eqb, eqb, eqb-true, ext_get_or, false, get_or, get_or-replicate, get_or-set_other, get_or-set_same}
use Rattle.constraint.proofs.Library.{get_or-take}
use Rattle.constraint.proofs.Library.{length, length-set, ltb, ne_eqb, refl, replicate, set, set-get_or, set_out, subst}
use Rattle.constraint.proofs.Library.{suc, sym, take, take-take, zero, ℕ, ℕ_discrete}
use Rattle.constraint.proofs.Lists.{Each, at_left, each_cons, each_none, split}
use Rattle.constraint.proofs.Streams.{colours, streams, streams_in}
use Rattle.constraint.specs.Accepted.{EachField, KindClassFits, KindsFit, KindsSuit, kinds, kinds_in}
use Rattle.constraint.specs.Steps.{Step, at, times}
use Rattle.constraint.specs.Types.{Field, byte, coloured, count, fields_of, kind_fields, plain, time, tolerance, type_of}
use Rattle.constraint.specs.{Limits.first_coloured, Limits.last_colour, Limits.last_time, Limits.no_limit, Meets.Meets}
use Rattle.constraint.specs.{Streams.stream, Waiting.waiting, Constraint.Constraint}
use Rattle.row_type.proofs.Exact.{ByOutcome, Exact, Sound}
use Rattle.row_type.proofs.FieldNumbers.{kinds_are, tag_is}
use Rattle.row_type.proofs.FitsRow.{Steady, keeping_last, steady_breaking, steady_by, steady_drop, steady_store}
use Rattle.row_type.proofs.SeveralKinds.{kinds_apart}
use Rattle.row_type.specs.Parameters.{constants_of, no_fields, no_kind, parameters_of, start_words, waits_in, with_fields, word_counts}
use Rattle.row_type.specs.{Parts.breaking, Words.last_saved}
use Rattle.row_type.specs.{declared.Change.Change, declared.Parameters.Parameters, declared.Registers.Registers}
use Rattle.ring.specs.{Ring.changed}

-- ---- a colour's words

-- an event at the clock that brings a colour nearer to being kept: its kind, and the kind's new word
pub record NearerWord (n : ℕ) (Colour : (ℕ → List ℕ) → List ℕ → Type 0) (owed lacks : List ℕ → ℕ) (f : ℕ → List ℕ) (w : List ℕ) (now : ℕ)
    : Type 0 where
  pub kind : ℕ
  pub of_row : kind < n
  pub rises : Each (λ s. s < now) (f kind)
  pub value : ℕ
  pub keeps : Colour (with_one f kind now) (set w kind value)
  pub in_time : now ≤ owed (set w kind value)
  pub fewer : lacks (set w kind value) < lacks w

-- what the row says of a colour's times, and what its words tell
pub record ByWords (n : ℕ) (Says : (ℕ → List ℕ) → Type 0) (owed : List ℕ → ℕ) (breaks : List ℕ → ℕ → ℕ → Bool) (word : List ℕ → ℕ → ℕ → ℕ)
    : Type 1 where
  pub few : n ≤ 5
  pub says_same : (f g : ℕ → List ℕ) → ((i : ℕ) → i < n → f i ≡ g i) → Says f → Says g
  -- what the words keep of them
  pub Colour : (ℕ → List ℕ) → List ℕ → Type 0
  pub colour_same : (f g : ℕ → List ℕ) → ((i : ℕ) → i < n → f i ≡ g i) → (w : List ℕ) → Colour f w → Colour g w
  pub lacks : List ℕ → ℕ
  pub start : Colour (λ i. []) (replicate 5 0)
  pub start_due : owed (replicate 5 0) ≡ no_limit
  -- an event in time leaves no continuation, or the colour goes on
  pub turns : (f : ℕ → List ℕ) (w : List ℕ) (j t : ℕ) → length w ≡ 5 → j < n → ((i : ℕ) → i < n → Each (λ s. s ≤ t) (f i))
      → Each (λ s. s < t) (f j) → t ≤ last_time → Colour f w → t ≤ owed w
      → cond (breaks w j t) (Lost n Says t (with_one f j t))
      (Colour (with_one f j t) (set w j (word w j t)) × (t ≤ owed (set w j (word w j t))))
  -- the clock past the last moment leaves none; without a last moment it is met, and with one it is not
  pub late : (f : ℕ → List ℕ) (w : List ℕ) (t : ℕ) → Colour f w → owed w < t → t ≤ last_time → Lost n Says t f
  pub says : (f : ℕ → List ℕ) (w : List ℕ) → Colour f w → no_limit ≤ owed w → Says f
  pub unsaid : (f : ℕ → List ℕ) (w : List ℕ) → Colour f w → owed w < no_limit → ¬ Says f
  -- and until then it can be brought nearer
  pub nearer : (f : ℕ → List ℕ) (w : List ℕ) (now : ℕ) → length w ≡ 5 → ((i : ℕ) → i < n → Each (λ s. s ≤ now) (f i)) → now ≤ last_time
      → Colour f w → now ≤ owed w → owed w < no_limit → NearerWord n Colour owed lacks f w now

-- ---- one word is new

abbrev stored : List ℕ → ℕ → ℕ → List ℕ
stored words p x = changed (one_new p x words) words

module _ (words : List ℕ) (p x : ℕ) where
  stored_long : length (stored words p x) ≡ length words
  stored_long = length-set (set words p x) (p + 1) (get_or words (p + 1) 0) ∙ length-set words p x

  stored_own : p < length words → get_or (stored words p x) p 0 ≡ x
  stored_own h = get_or-set_other (set words p x) (p + 1) p (get_or words (p + 1) 0) 0 (λ e. omega arith) ∙ get_or-set_same words p x 0 h

  stored_other : (q : ℕ) → ¬ (q ≡ p) → get_or (stored words p x) q 0 ≡ get_or words q 0
  stored_other q other =
      by_cases (ℕ_discrete q (p + 1))
      (λ e. subst (λ (i : ℕ). get_or (stored words p x) i 0 ≡ get_or words i 0) (sym e) behind)
      (λ o. get_or-set_other (set words p x) (p + 1) q (get_or words (p + 1) 0) 0 o ∙ get_or-set_other words p q x 0 other)
    where
      behind : get_or (stored words p x) (p + 1) 0 ≡ get_or words (p + 1) 0
      behind =
          by_cases (dec_lt (p + 1) (length words))
          (λ h. get_or-set_same (set words p x) (p + 1) (get_or words (p + 1) 0) 0 (omega (arith, length-set words p x)))
          (λ l. ap (λ (xs : List ℕ). get_or xs (p + 1) 0) (set_out (set words p x) (p + 1) (get_or words (p + 1) 0) (omega (
            arith,
            length-set words p x,
          )))
          ∙ get_or-set_other words p (p + 1) x 0 (λ e. omega arith))

pub words_at_lem : (words : List ℕ) (d i : ℕ) → i < 5 → at (words_at words d) i ≡ get_or words (5 * d + i) 0
words_at_lem words d zero h = refl
words_at_lem words d (suc zero) h = refl
words_at_lem words d (suc (suc zero)) h = refl
words_at_lem words d (suc (suc (suc zero))) h = refl
words_at_lem words d (suc (suc (suc (suc zero)))) h = refl
words_at_lem words d (suc (suc (suc (suc (suc i))))) h = absurd (omega arith)

module _ (words : List ℕ) (whole : length words ≡ 40) (d j x : ℕ) (few : d ≤ last_colour) (small : j < 5) where
  own_words : words_at (stored words (5 * d + j) x) d ≡ set (words_at words d) j x
  own_words =
      ext_get_or 0 (words_at (stored words (5 * d + j) x) d) (set (words_at words d) j x) (sym (length-set (words_at words d) j x))
      (λ i h. words_at_lem (stored words (5 * d + j) x) d i h
      ∙ by_cases (ℕ_discrete i j)
      (λ e. ap (λ (q : ℕ). get_or (stored words (5 * d + j) x) (5 * d + q) 0) e ∙ stored_own words (5 * d + j) x (omega arith)
      ∙ sym (ap (at (set (words_at words d) j x)) e ∙ get_or-set_same (words_at words d) j x 0 small))
      (λ o. stored_other words (5 * d + j) x (5 * d + i) (λ e. o (omega arith)) ∙ sym (words_at_lem words d i h)
      ∙ sym (get_or-set_other (words_at words d) j i x 0 o)))

  other_words : (e : ℕ) → ¬ (e ≡ d) → words_at (stored words (5 * d + j) x) e ≡ words_at words e
  other_words e other =
      ext_get_or 0 (words_at (stored words (5 * d + j) x) e) (words_at words e) refl
      (λ i h. words_at_lem (stored words (5 * d + j) x) e i h ∙ stored_other words (5 * d + j) x (5 * e + i) (λ same. other (omega arith))
      ∙ sym (words_at_lem words e i h))

  but_words : (e : ℕ) → words_but words d j x e ≡ words_at (stored words (5 * d + j) x) e
  but_words e =
      by_cases (ℕ_discrete e d)
      (λ is. rw (eq-eqb e d is) (sym own_words ∙ ap (words_at (stored words (5 * d + j) x)) (sym is)))
      (λ other. rw (ne_eqb e d other) (sym (other_words e other)))

start_words_lem : (d : ℕ) → d ≤ last_colour → words_at (replicate 40 0) d ≡ replicate 5 0
start_words_lem d few =
    ext_get_or 0 (words_at (replicate 40 0) d) (replicate 5 0) refl
    (λ i h. words_at_lem (replicate 40 0) d i h ∙ get_or-replicate 40 (5 * d + i) 0 0 (omega arith) ∙ sym (get_or-replicate 5 i 0 0 h))

-- ---- the place of a kind

place_in_lem : (ks : List ℕ) (k j : ℕ) → ((i : ℕ) → i < j → ¬ (at ks i ≡ k)) → (j < length ks → at ks j ≡ k) → j ≤ length ks → place_in ks k ≡ j
place_in_lem [] k zero apart is few = refl
place_in_lem [] k (suc j) apart is few = absurd (omega arith)
place_in_lem (x ∷ ks) k zero apart is few = rw (eq-eqb x k (is (omega arith))) refl
place_in_lem (x ∷ ks) k (suc j) apart is few =
    rw (ne_eqb x k (apart 0 (omega arith)))
    (ap suc (place_in_lem ks k j (λ i l. apart (suc i) (omega arith)) (λ l. is (omega arith)) (omega arith)))

-- the numbers of a row have its kinds at their places
kind_at : (c : Constraint) (i : ℕ) → i < length (kinds c) → i < 4 → at (four_kinds (parameters_of c)) i ≡ at (kinds c) i
kind_at c i there small =
    ap (λ (l : List ℕ). at l i) (ap (take 4) (kinds_are c) ∙ take-take 4 5 (kinds c ++ replicate 5 no_kind) (omega arith))
    ∙ get_or-take 4 (kinds c ++ replicate 5 no_kind) i 0 small ∙ at_left (kinds c) (replicate 5 no_kind) i there

place_among_lem : (c : Constraint) → KindsFit (kinds c) → length (kinds c) ≤ 5 → (j : ℕ) → j < length (kinds c)
    → place_among (parameters_of c) (at (kinds c) j) ≡ j
place_among_lem c fit few j there =
    place_in_lem (four_kinds (parameters_of c)) (at (kinds c) j) j
    (λ i l e. kinds_apart (kinds c) fit i j (omega arith) there (λ same. omega arith) (sym (kind_at c i (omega arith) (omega arith)) ∙ e))
    (λ small. kind_at c j there small) (omega arith)

-- ---- the row

-- what is asked of a constraint whose row has these kinds and says this of each colour
pub record ColouredRow (c : Constraint) (ks : List ℕ) (Says : (ℕ → List ℕ) → Type 0) (decide : Registers → List ℕ → ℕ → ℕ → Change)
    (owed : List ℕ → ℕ) (breaks : List ℕ → ℕ → ℕ → Bool) (word : List ℕ → ℕ → ℕ → ℕ) : Type 0 where
  pub fit : KindsFit ks
  pub coloured_all : Each (λ k. first_coloured ≤ k) ks
  pub streams_are : streams c ≡ colours_of ks
  pub none_waits : waits_in (parameters_of c).tag ≡ false
  pub waits_none : (steps : List Step) → waiting c steps ≡ 0
  pub meets : (steps : List Step) → Meets c steps ↔ ((d : ℕ) → d ≤ last_colour → Says (λ i. times (stream (at ks i) d) steps))
  pub start_is : start_words c ≡ replicate 40 0
  pub decides : (registers : Registers) (words : List ℕ) (d j t : ℕ) → d ≤ last_colour → j < length ks
      → length words ≡ 40
      → decide registers words (stream (at ks j) d) t ≡ cond (breaks (words_at words d) j t) breaking
      (cond (eqb (word (words_at words d) j t) (at (words_at words d) j)) (unchanged registers)
      (noted owed registers words d j (word (words_at words d) j t)))

module _ (ks : List ℕ) (Says : (ℕ → List ℕ) → Type 0) (decide : Registers → List ℕ → ℕ → ℕ → Change) (owed : List ℕ → ℕ)
    (breaks : List ℕ → ℕ → ℕ → Bool) (word : List ℕ → ℕ → ℕ → ℕ)
    (r : ByWords (length ks) Says owed breaks word) (c : Constraint) (row : ColouredRow c ks Says decide owed breaks word) where
  abbrev colouring : Colouring
  colouring =
      record {
        Keeps = λ f d words. (length words ≡ 40) × r.Colour f (words_at words d);
        due = λ words d. owed (words_at words d);
        lacks = λ words d. r.lacks (words_at words d);
        Alike = λ e a b. words_at b e ≡ words_at a e;
      }

  -- a word is new, or it is what it was
  module _ (f : ℕ → List ℕ) (registers : Registers) (words : List ℕ) (d j t : ℕ) (few : d ≤ last_colour) (place : j < 5) (whole : length words ≡ 40)
      (marked : due_marked registers ≡ least_of (colouring.due words) 8) (x : ℕ) (keeps : r.Colour (with_one f j t) (set (words_at words d) j x))
      (in_time : t ≤ owed (set (words_at words d) j x)) where
    abbrev w : List ℕ
    w = words_at words d

    abbrev next : List ℕ
    next = stored words (5 * d + j) x

    own : words_at next d ≡ set w j x
    own = own_words words whole d j x few place

    all_is : due_words owed words d j x 8 ≡ least_of (colouring.due next) 8
    unfolding due_words
    all_is =
        least_same (λ e. owed (words_but words d j x e)) (λ e. owed (words_at next e)) 8 (λ e l. ap owed (but_words words whole d j x few place e))

    first : due_next (due_marked registers) (owed w) (owed (set w j x)) (due_words owed words d j x 8) ≡ least_of (colouring.due next) 8
    first =
        due_next_lem (colouring.due words) (colouring.due next) d (omega arith) (λ e l other. ap owed
        (other_words words whole d j x few place e other))
        (due_marked registers) (owed (set w j x)) (due_words owed words d j x 8) marked (ap owed (sym own)) all_is

    word_turns : Turned colouring f d j t words (noted owed registers words d j x)
    word_turns =
        record {
          keeps = (stored_long words (5 * d + j) x ∙ whole, subst (r.Colour (with_one f j t)) (sym own) keeps);
          others = λ i l other. other_words words whole d j x few place i other;
          in_time = subst (λ (v : List ℕ). t ≤ owed v) (sym own) in_time;
          due_is = first;
          kept_is = refl;
          marked = omega (arith, first, least_limit (colouring.due next) 8);
        }

    word_stays : x ≡ at w j → Turned colouring f d j t words (unchanged registers)
    word_stays is =
        let same : set w j x ≡ w = ap (set w j) is ∙ set-get_or w j 0 in
        record {
          keeps = (whole, subst (r.Colour (with_one f j t)) same keeps);
          others = λ i l other. refl;
          in_time = subst (λ (v : List ℕ). t ≤ owed v) same in_time;
          due_is = marked;
          kept_is = refl;
          marked = refl;
        }

  turns : (f : ℕ → List ℕ) (registers : Registers) (words : List ℕ) (d j t : ℕ) → d ≤ last_colour → j < length ks
      → ((i : ℕ) → i < length ks → Each (λ s. s ≤ t) (f i)) → Each (λ s. s < t) (f j) → t ≤ last_time → colouring.Keeps f d words
      → t ≤ colouring.due words d → due_marked registers ≡ least_of (colouring.due words) 8
      → ByOutcome (Lost (length ks) Says t (with_one f j t)) (Turned colouring f d j t words) (decide registers words (stream (at ks j) d) t)
  turns f registers words d j t few h past rises small (whole, colour) soon marked =
      let w = words_at words d in
      let x = word w j t in
      let place : j < 5 = omega (arith, r.few) in
      rw (row.decides registers words d j t few h whole)
      (split (breaks w j t)
      (λ b. cond b (Lost (length ks) Says t (with_one f j t)) (r.Colour (with_one f j t) (set w j x) × (t ≤ owed (set w j x)))
      → ByOutcome (Lost (length ks) Says t (with_one f j t)) (Turned colouring f d j t words)
      (cond b breaking (cond (eqb x (at w j)) (unchanged registers) (noted owed registers words d j x))))
      (λ e lost. lost)
      (λ e goes. split (eqb x (at w j))
      (λ b. ByOutcome (Lost (length ks) Says t (with_one f j t)) (Turned colouring f d j t words)
      (cond b (unchanged registers) (noted owed registers words d j x)))
      (λ same. word_stays f registers words d j t few place whole marked x goes.0 goes.1 (eqb-true x (at w j) same))
      (λ other. word_turns f registers words d j t few place whole marked x goes.0 goes.1))
      (r.turns f w j t refl h past rises small colour soon))

  nearer : (f : ℕ → List ℕ) (words : List ℕ) (d now : ℕ) → d ≤ last_colour → ((i : ℕ) → i < length ks → Each (λ s. s ≤ now) (f i)) → now ≤ last_time
      → colouring.Keeps f d words → now ≤ colouring.due words d → colouring.due words d < no_limit
      → Nearer colouring (λ x. x ≤ last_time) (length ks) f d words now
  nearer f words d now few past small (whole, colour) in_time soon =
      let near = r.nearer f (words_at words d) now refl past small colour in_time soon in
      let place : near.kind < 5 = omega (arith, r.few, near.of_row) in
      let own = own_words words whole d near.kind near.value few place in
      record {
        kind = near.kind;
        of_row = near.of_row;
        moment = now;
        begun = omega arith;
        soon = in_time;
        fine = small;
        rises = near.rises;
        next = stored words (5 * d + near.kind) near.value;
        keeps = (
          stored_long words (5 * d + near.kind) near.value ∙ whole,
          subst (r.Colour (with_one f near.kind now)) (sym own) near.keeps,
        );
        others = λ i l other. other_words words whole d near.kind near.value few place i other;
        in_time = subst (λ (v : List ℕ). now ≤ owed v) (sym own) near.in_time;
        fewer = subst (λ (v : List ℕ). r.lacks v < r.lacks (words_at words d)) (sym own) near.fewer;
      }

  by_colour : ByColour c decide
  by_colour =
      record {
        ks = ks;
        fit = row.fit;
        coloured_all = row.coloured_all;
        streams_are = row.streams_are;
        none_waits = row.none_waits;
        waits_none = row.waits_none;
        Says = Says;
        says_same = r.says_same;
        meets = row.meets;
        k = colouring;
        keeps_same = λ f g same d words (whole, colour). (whole, r.colour_same f g same (words_at words d) colour);
        keeps_alike = λ f e a b alike long (whole, colour). (long ∙ whole, subst (r.Colour f) (sym alike) colour);
        due_alike = λ e a b alike. ap owed alike;
        lacks_alike = λ e a b alike. ap r.lacks alike;
        size = 40;
        few = omega arith;
        whole = λ f d words keeps. keeps.0;
        start_keeps = λ d h. rw row.start_is (refl, subst (r.Colour (λ i. [])) (sym (start_words_lem d h)) r.start);
        start_due = λ d h. rw row.start_is (ap owed (start_words_lem d h) ∙ r.start_due);
        turns = turns;
        late = λ f words d t keeps passed small. r.late f (words_at words d) t keeps.1 passed small;
        says = λ f words d keeps none. r.says f (words_at words d) keeps.1 none;
        unsaid = λ f words d keeps soon. r.unsaid f (words_at words d) keeps.1 soon;
        Fine = λ x. x ≤ last_time;
        fine = λ now small. small;
        nearer = nearer;
      }

  pub exact_by_words : Exact c decide
  exact_by_words = exact_by_colour c decide by_colour

-- ---- a constraint of some coloured kinds and a tolerance

module _ (x : ℕ) where
  abbrev pub coloured_fields : List ℕ → List Field
  coloured_fields ks = kind_fields coloured ks ++ (time (plain tolerance) x ∷ [])

  -- one more behind the others
  pub fields_behind : (ks : List ℕ) (k : ℕ)
      → kind_fields coloured ks ++ (byte coloured k ∷ time (plain tolerance) x ∷ []) ≡ coloured_fields (ks ++ (k ∷ []))
  fields_behind [] k = refl
  fields_behind (first ∷ ks) k = ap (λ (l : List Field). byte coloured first ∷ l) (fields_behind ks k)

  kinds_in_lem : (ks : List ℕ) → kinds_in (coloured_fields ks) ≡ ks
  kinds_in_lem [] = refl
  kinds_in_lem (k ∷ ks) = ap (λ (l : List ℕ). k ∷ l) (kinds_in_lem ks)

  streams_in_lem : (ks : List ℕ) → streams_in (coloured_fields ks) ≡ colours_of ks
  streams_in_lem [] = refl
  streams_in_lem (k ∷ ks) = ap (λ (l : List ℕ). colours k ++ l) (streams_in_lem ks)

  suit_all : (ks : List ℕ) → EachField KindClassFits (coloured_fields ks) → Each (λ k. first_coloured ≤ k) ks
  suit_all [] suit = each_none (λ k. first_coloured ≤ k)
  suit_all (k ∷ ks) suit = each_cons (λ k. first_coloured ≤ k) k ks suit.0 (suit_all ks suit.1)

  upper_in : (ks : List ℕ) (p : Parameters) → (with_fields (coloured_fields ks) p).upper ≡ x
  upper_in [] p = refl
  upper_in (k ∷ ks) p = upper_in ks p

-- a constraint of these fields, of a type with 40 words that keeps no times
module _ (c : Constraint) (sound : Sound c) (ks : List ℕ) (n x : ℕ) (fields : fields_of c ≡ byte count n ∷ coloured_fields x ks) where
  kinds_same : kinds c ≡ ks
  kinds_same = ap kinds_in fields ∙ kinds_in_lem x ks

  span_same : (parameters_of c).span ≡ n
  span_same = ap (λ (l : List Field). (with_fields l (no_fields (type_of c))).span) fields

  upper_same : (parameters_of c).upper ≡ x
  upper_same = ap (λ (l : List Field). (with_fields l (no_fields (type_of c))).upper) fields ∙ upper_in x ks (no_fields (type_of c))

  suit_same : Each (λ k. first_coloured ≤ k) ks
  unfolding KindsSuit
  suit_same = suit_all x ks (subst (EachField KindClassFits) fields sound.kinds_suit).1

  colour_of : (k d : ℕ) → d ≤ last_colour → stream k d % 8 ≡ d
  colour_of k d few = omega arith

  place_of : (j d : ℕ) → length ks ≤ 5 → d ≤ last_colour → j < length ks → place_among (parameters_of c) (coloured_kind (stream (at ks j) d)) ≡ j
  place_of j d few small there =
      ap (place_among (parameters_of c)) (stream_coloured (at ks j) d (suit_same j there) small ∙ sym (ap (λ (l : List ℕ). at l j) kinds_same))
      ∙ place_among_lem c sound.kinds_fit (omega (arith, ap length kinds_same)) j (omega (arith, ap length kinds_same))

  pub coloured_row : (Says : (ℕ → List ℕ) → Type 0) (owed : ℕ → ℕ → List ℕ → ℕ) (breaks : ℕ → List ℕ → ℕ → ℕ → Bool)
      (word : ℕ → List ℕ → ℕ → ℕ → ℕ) → length ks ≤ 5 → n ≤ 4 → at word_counts (type_of c) ≡ 40 → constants_of c ≡ [] → waits_in (type_of c) ≡ false
      → ((steps : List Step) → waiting c steps ≡ 0)
      → ((steps : List Step) → Meets c steps ↔ ((d : ℕ) → d ≤ last_colour → Says (λ i. times (stream (at ks i) d) steps)))
      → ColouredRow c ks Says (decide_words owed breaks word (parameters_of c)) (owed n x) (breaks n) (word n)
  unfolding decide_words
  coloured_row Says owed breaks word few less long none none_waits waits_none meets =
      record {
        fit = subst KindsFit kinds_same sound.kinds_fit;
        coloured_all = suit_same;
        streams_are = ap streams_in fields ∙ streams_in_lem x ks;
        none_waits = ap waits_in (tag_is c) ∙ none_waits;
        waits_none = waits_none;
        meets = meets;
        start_is = ap₂ (λ (m : ℕ) (l : List ℕ). take m (take 64 (l ++ replicate 64 0))) (ap (at word_counts) (tag_is c) ∙ long) none;
        decides = λ registers words d j t small there whole.
            let same : kind_count (parameters_of c) ≡ n = omega (arith, span_same, less) in
            rw (whole, same, upper_same, colour_of (at ks j) d small, place_of j d few small there) refl;
      }

-- ---- in a row

-- whatever the new word is, it stands where one stood, and only the mark changes
pub steady_words : (owed : ℕ → ℕ → List ℕ → ℕ) (breaks : ℕ → List ℕ → ℕ → ℕ → Bool) (word : ℕ → List ℕ → ℕ → ℕ → ℕ) (parameters : Parameters)
    (m : Registers) (words : List ℕ) (s t : ℕ) → Steady last_saved m words (decide_words owed breaks word parameters m words s t)
unfolding decide_words
steady_words owed breaks word parameters m words s t =
    let n = kind_count parameters in
    let w = words_at words (s % 8) in
    let j = place_among parameters (coloured_kind s) in
    let p = 5 * (s % 8) + j in
    steady_by (ltb (length words) 40 || breaks n w j t) (steady_breaking keeping_last)
    (steady_by (eqb (word n w j t) (at w j)) (steady_drop 0 (λ e. e))
    (steady_store p (word n w j t) (get_or words (p + 1) 0) (marking_last _)))
