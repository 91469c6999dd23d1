-- Rows of coloured kinds, each colour by itself: such a row is exact if the words of a colour tell what an event of it does, and if a colour that is
-- not kept can always be brought nearer by one event at its last moment or before. The colours do not disturb each other, and where each has a
-- moment left, the one with the first last moment goes first.
use Rattle.event_chain.specs.{Coloured.least_of, Marked.due_marked, Marked.due_next}
use Rattle.constraint.proofs.History.{Accepts, Past, clock_event, clock_tick, closed_event, times_append, times_other, times_own, times_tick}
use Rattle.constraint.proofs.History.{with_time}
use Rattle.constraint.proofs.Library.{Bool, List, [], ◌++◌, ◌+◌, ◌-◌, ◌<◌, ◌↔◌, ◌∙◌, ◌∷◌, ◌≡◌, ◌≤◌, ap, ap₂, append_assoc, arith, by_cases, cond}
use Rattle.constraint.proofs.Library.{dec_lt}
use Rattle.constraint.proofs.Library.{eq-eqb, eqb, eqb-false, eqb-true, false, leb, leb-false, leb-true, length, length-append, ltb, ltb-true, min}
use Rattle.constraint.proofs.Library.{ne_eqb, refl, subst, suc, sym, zero, ℕ, ℕ_discrete}
use Rattle.constraint.proofs.Lists.{Each, each_append, at_left, at_right, each_cons, each_left, each_none, each_right, split}
use Rattle.constraint.proofs.Streams.{colour_at, colours, stream_below, streams, streams_apart}
use Rattle.constraint.proofs.{Continuations.SameTimes, Continuations.continues_late, Continuations.same_times, Verdicts.open_of_meets}
use Rattle.constraint.specs.Steps.{Step, at, clock, closed, event, own, tick, times}
use Rattle.constraint.specs.{Accepted.KindsFit, Continuation.Open, Continuation.more, Limits.first_coloured, Limits.last_colour, Limits.last_time}
use Rattle.constraint.specs.{Limits.no_limit, Limits.waiting_limit, Meets.Meets, Streams.stream, Waiting.waiting, Constraint.Constraint}
use Rattle.row_type.proofs.Exact.{ByOutcome, Exact, GoesOn, OfStream, Starts, outcome_map}
use Rattle.row_type.proofs.SeveralKinds.{by_place, kinds_apart, kinds_small}
use Rattle.row_type.specs.{Parameters.parameters_of, Parameters.start_words, Parameters.waits_in, declared.Change.Change}
use Rattle.row_type.specs.{declared.Registers.Registers}
use Rattle.ring.specs.{Ring.changed}

-- ---- the least of some numbers, and their sum

pub least_below : (f : ℕ → ℕ) (n d : ℕ) → d < n → least_of f n ≤ f d
unfolding least_of
least_below f zero d h = absurd (omega arith)
least_below f (suc n) d h = by_cases (ℕ_discrete d n) (λ e. omega (arith, ap f e)) (λ e. omega (arith, least_below f n d (omega arith)))

pub least_found : (f : ℕ → ℕ) (n : ℕ) → least_of f n < no_limit → (d : ℕ) × (d < n) × (f d ≡ least_of f n)
unfolding least_of
least_found f zero h = absurd (omega arith)
least_found f (suc n) h =
    by_cases (dec_lt (least_of f n) (f n))
    (λ sooner. let (d, l, is) = least_found f n (omega arith) in (d, omega arith, omega arith))
    (λ later. (n, omega arith, omega arith))

pub least_above : (f : ℕ → ℕ) (n t : ℕ) → t ≤ no_limit → ((d : ℕ) → d < n → t ≤ f d) → t ≤ least_of f n
unfolding least_of
least_above f zero t small each = small
least_above f (suc n) t small each = omega (arith, least_above f n t small (λ d l. each d (omega arith)), each n (omega arith))

pub least_limit : (f : ℕ → ℕ) (n : ℕ) → least_of f n ≤ no_limit
unfolding least_of
least_limit f zero = omega arith
least_limit f (suc n) = omega (arith, least_limit f n)

pub least_same : (f g : ℕ → ℕ) (n : ℕ) → ((d : ℕ) → d < n → f d ≡ g d) → least_of f n ≡ least_of g n
unfolding least_of
least_same f g zero same = refl
least_same f g (suc n) same = ap₂ min (least_same f g n (λ d l. same d (omega arith))) (same n (omega arith))

-- where the last moment of one colour alone is new, the due time is found without the others, or all are looked at
module _ (f g : ℕ → ℕ) (d : ℕ) (few : d < 8) (others : (e : ℕ) → e < 8 → ¬ (e ≡ d) → g e ≡ f e) where
  above : (t : ℕ) → t ≤ least_of f 8 → t ≤ g d → t ≤ least_of g 8
  above t soon new =
      least_above g 8 t (omega (arith, least_limit f 8)) (λ e h. by_cases (ℕ_discrete e d) (λ is. omega (arith, ap g is))
      (λ other. omega (arith, others e h other, least_below f 8 e h)))

  -- the colour did not have the first
  stays : least_of f 8 < f d → least_of f 8 < g d → least_of f 8 ≡ least_of g 8
  stays old new =
      by_cases (dec_lt (least_of f 8) no_limit)
      (λ soon. let (e, h, is) = least_found f 8 soon in
      let other : ¬ (e ≡ d) = λ same. omega (arith, ap f same) in
      omega (arith, above (least_of f 8) (omega arith) (omega arith), others e h other, least_below g 8 e h))
      (λ none. omega (arith, above (least_of f 8) (omega arith) (omega arith), least_limit g 8))

  found : due_next (least_of f 8) (f d) (g d) (least_of g 8) ≡ least_of g 8
  found =
      split (leb (g d) (least_of f 8)) (λ b. cond b (g d) (cond (ltb (least_of f 8) (f d)) (least_of f 8) (least_of g 8)) ≡ least_of g 8)
      (λ e. omega (arith, above (g d) (leb-true (g d) (least_of f 8) e) (omega arith), least_below g 8 d few))
      (λ e. split (ltb (least_of f 8) (f d)) (λ b. cond b (least_of f 8) (least_of g 8) ≡ least_of g 8)
      (λ l. stays (ltb-true (least_of f 8) (f d) l) (leb-false (g d) (least_of f 8) e)) (λ l. refl))

  pub due_next_lem : (before new all : ℕ) → before ≡ least_of f 8 → new ≡ g d → all ≡ least_of g 8 → due_next before (f d) new all ≡ least_of g 8
  due_next_lem before new all marked New-is all_is = rw (marked, New-is, all_is) found

unfoldable pub sum_of : (ℕ → ℕ) → ℕ → ℕ
sum_of f zero = 0
sum_of f (suc n) = sum_of f n + f n

pub sum_same : (f g : ℕ → ℕ) (n : ℕ) → ((e : ℕ) → e < n → g e ≡ f e) → sum_of g n ≡ sum_of f n
unfolding sum_of
sum_same f g zero same = refl
sum_same f g (suc n) same = ap₂ ◌+◌ (sum_same f g n (λ e l. same e (omega arith))) (same n (omega arith))

pub sum_fewer : (f g : ℕ → ℕ) (n d : ℕ) → d < n → g d < f d → ((e : ℕ) → e < n → ¬ (e ≡ d) → g e ≡ f e) → sum_of g n < sum_of f n
unfolding sum_of
sum_fewer f g zero d h fewer same = absurd (omega arith)
sum_fewer f g (suc n) d h fewer same =
    by_cases (ℕ_discrete n d)
    (λ e. let before = sum_same f g n (λ i l. same i (omega arith) (λ is. omega arith)) in
    let here : g n < f n = subst (λ (i : ℕ). g i < f i) (sym e) fewer in
    omega arith)
    (λ e. let before = sum_fewer f g n d (omega arith) fewer (λ i l o. same i (omega arith) o) in
    omega (arith, same n (omega arith) e))

-- ---- the streams of coloured kinds

abbrev pub colours_of : List ℕ → List ℕ
colours_of [] = []
colours_of (k ∷ ks) = colours k ++ colours_of ks

coloured_each : (ks : List ℕ) (P : ℕ → Type 0) → ((j d : ℕ) → j < length ks → d ≤ last_colour → P (stream (at ks j) d)) → (i : ℕ)
    → i < length (colours_of ks) → P (at (colours_of ks) i)
coloured_each [] P f i h = absurd (omega arith)
coloured_each (k ∷ ks) P f i h =
    by_cases (dec_lt i 8)
    (λ l. subst P (sym (at_left (colours k) (colours_of ks) i l ∙ colour_at k i (omega arith))) (f 0 i (omega arith) (omega arith)))
    (λ l. let place : 8 + (i - 8) ≡ i = omega arith in
    subst (λ (j : ℕ). P (at (colours k ++ colours_of ks) j)) place
    (subst P (sym (at_right (colours k) (colours_of ks) (i - 8)))
    (coloured_each ks P (λ j d less few. f (suc j) d (omega arith) few) (i - 8) (omega (arith, length-append (colours k) (colours_of ks))))))

coloured_at : (ks : List ℕ) (P : ℕ → Type 0) → Each P (colours_of ks) → (j d : ℕ) → j < length ks → d ≤ last_colour → P (stream (at ks j) d)
coloured_at [] P all j d h few = absurd (omega arith)
coloured_at (k ∷ ks) P all zero d h few = subst P (colour_at k d few) (each_left P (colours k) (colours_of ks) all d (omega arith))
coloured_at (k ∷ ks) P all (suc j) d h few = coloured_at ks P (each_right P (colours k) (colours_of ks) all) j d (omega arith) few

-- ---- what a type shows of one colour: its times by the places of the row's kinds, and the row's words

-- the times with one more of the kind at place j
abbrev pub with_one : (ℕ → List ℕ) → ℕ → ℕ → ℕ → List ℕ
with_one f j t i = cond (eqb i j) (f i ++ (t ∷ [])) (f i)

-- no further times from t on are what is said
abbrev pub Lost : ℕ → ((ℕ → List ℕ) → Type 0) → ℕ → (ℕ → List ℕ) → Type 0
Lost n Says t f = (g : ℕ → List ℕ) → ((i : ℕ) → i < n → Each (λ y. t ≤ y) (g i)) → ¬ Says (λ i. f i ++ g i)

-- what is known of a colour, its last moment, and that its words are the same
pub record Colouring : Type 1 where
  pub Keeps : (ℕ → List ℕ) → ℕ → List ℕ → Type 0
  pub due : List ℕ → ℕ → ℕ
  pub lacks : List ℕ → ℕ → ℕ
  pub Alike : ℕ → List ℕ → List ℕ → Type 0

-- the words after a change at t by an event of the kind at place j and of colour d
pub record Turned (k : Colouring) (f : ℕ → List ℕ) (d j t : ℕ) (words : List ℕ) (change : Change) : Type 0 where
  pub keeps : k.Keeps (with_one f j t) d (changed change.edit words)
  pub others : (e : ℕ) → e ≤ last_colour → ¬ (e ≡ d) → k.Alike e words (changed change.edit words)
  pub in_time : t ≤ k.due (changed change.edit words) d
  pub due_is : change.due ≡ least_of (k.due (changed change.edit words)) 8
  pub kept_is : change.kept ≡ eqb change.due no_limit
  pub marked : due_marked change.registers ≡ change.due

-- an event that brings a colour nearer to being kept, not after its last moment
pub record Nearer (k : Colouring) (Fine : ℕ → Type 0) (n : ℕ) (f : ℕ → List ℕ) (d : ℕ) (words : List ℕ) (now : ℕ) : Type 0 where
  pub kind : ℕ
  pub of_row : kind < n
  pub moment : ℕ
  pub begun : now ≤ moment
  pub soon : moment ≤ k.due words d
  pub fine : Fine moment
  pub rises : Each (λ s. s < moment) (f kind)
  pub next : List ℕ
  pub keeps : k.Keeps (with_one f kind moment) d next
  pub others : (e : ℕ) → e ≤ last_colour → ¬ (e ≡ d) → k.Alike e words next
  pub in_time : moment ≤ k.due next d
  pub fewer : k.lacks next d < k.lacks words d

pub record ByColour (c : Constraint) (decide : Registers → List ℕ → ℕ → ℕ → Change) : Type 1 where
  pub ks : List ℕ
  pub fit : KindsFit ks
  pub coloured_all : Each (λ k. first_coloured ≤ k) ks
  pub streams_are : streams c ≡ colours_of ks
  pub none_waits : waits_in (parameters_of c).tag ≡ false
  pub waits_none : (steps : List Step) → waiting c steps ≡ 0
  -- what the row says of a colour's times
  pub Says : (ℕ → List ℕ) → Type 0
  pub says_same : (f g : ℕ → List ℕ) → ((i : ℕ) → i < length ks → f i ≡ g i) → Says f → Says g
  pub meets : (steps : List Step) → Meets c steps ↔ ((d : ℕ) → d ≤ last_colour → Says (λ i. times (stream (at ks i) d) steps))
  -- what the words keep of them
  pub k : Colouring
  pub keeps_same : (f g : ℕ → List ℕ) → ((i : ℕ) → i < length ks → f i ≡ g i) → (d : ℕ) (words : List ℕ) → k.Keeps f d words → k.Keeps g d words
  pub keeps_alike : (f : ℕ → List ℕ) (e : ℕ) (a b : List ℕ) → k.Alike e a b → length b ≡ length a → k.Keeps f e a → k.Keeps f e b
  pub due_alike : (e : ℕ) (a b : List ℕ) → k.Alike e a b → k.due b e ≡ k.due a e
  pub lacks_alike : (e : ℕ) (a b : List ℕ) → k.Alike e a b → k.lacks b e ≡ k.lacks a e
  pub size : ℕ
  pub few : size ≤ waiting_limit
  pub whole : (f : ℕ → List ℕ) (d : ℕ) (words : List ℕ) → k.Keeps f d words → length words ≡ size
  pub start_keeps : (d : ℕ) → d ≤ last_colour → k.Keeps (λ i. []) d (start_words c)
  pub start_due : (d : ℕ) → d ≤ last_colour → k.due (start_words c) d ≡ no_limit
  -- an event in time leaves no continuation, or the colour goes on, the mark telling the due time
  pub turns : (f : ℕ → List ℕ) (registers : Registers) (words : List ℕ) (d j t : ℕ) → d ≤ last_colour → j < length ks
      → ((i : ℕ) → i < length ks → Each (λ s. s ≤ t) (f i)) → Each (λ s. s < t) (f j) → t ≤ last_time → k.Keeps f d words → t ≤ k.due words d
      → due_marked registers ≡ least_of (k.due words) 8
      → ByOutcome (Lost (length ks) Says t (with_one f j t)) (Turned k f d j t words) (decide registers words (stream (at ks j) d) t)
  -- the clock past the last moment leaves none; without a last moment it is met, and with one it is not
  pub late : (f : ℕ → List ℕ) (words : List ℕ) (d t : ℕ) → k.Keeps f d words → k.due words d < t → t ≤ last_time → Lost (length ks) Says t f
  pub says : (f : ℕ → List ℕ) (words : List ℕ) (d : ℕ) → k.Keeps f d words → no_limit ≤ k.due words d → Says f
  pub unsaid : (f : ℕ → List ℕ) (words : List ℕ) (d : ℕ) → k.Keeps f d words → k.due words d < no_limit → ¬ Says f
  -- and until then it can be brought nearer
  pub Fine : ℕ → Type 0
  pub fine : (now : ℕ) → now ≤ last_time → Fine now
  pub nearer : (f : ℕ → List ℕ) (words : List ℕ) (d now : ℕ) → d ≤ last_colour → ((i : ℕ) → i < length ks → Each (λ s. s ≤ now) (f i)) → Fine now
      → k.Keeps f d words → now ≤ k.due words d → k.due words d < no_limit → Nearer k Fine (length ks) f d words now

module _ (c : Constraint) (decide : Registers → List ℕ → ℕ → ℕ → Change) (r : ByColour c decide) where
  abbrev n : ℕ
  n = length r.ks

  abbrev stream_at : ℕ → ℕ → ℕ
  stream_at j d = stream (at r.ks j) d

  abbrev column : List Step → ℕ → ℕ → List ℕ
  column steps d i = times (stream_at i d) steps

  record Live (steps : List Step) (words : List ℕ) : Type 0 where
    each : (d : ℕ) → d ≤ last_colour → r.k.Keeps (column steps d) d words

  abbrev due_of : List ℕ → ℕ
  due_of words = least_of (r.k.due words) 8

  -- and the mark tells the due time
  abbrev Marked : List Step → Registers → List ℕ → Type 0
  Marked steps registers words = Live steps words × (due_marked registers ≡ due_of words)

  abbrev due : Registers → List ℕ → ℕ
  due registers words = due_of words

  abbrev kept : Registers → List ℕ → Bool
  kept registers words = eqb (due_of words) no_limit

  whole : (steps : List Step) (words : List ℕ) → Live steps words → length words ≡ r.size
  whole steps words live = r.whole (column steps 0) 0 words (live.each 0 (omega arith))

  -- ---- Start

  start : Starts (Marked []) due kept (start_words c)
  unfolding times
  start =
      record {
        live = (record { each = λ d h. r.keeps_same (λ i. []) (column [] d) (λ i l. refl) d (start_words c) (r.start_keeps d h) }, none);
        due_is = none;
        kept_is = sym (eq-eqb (due_of (start_words c)) no_limit (sym none));
      }
    where
      none : no_limit ≡ due_of (start_words c)
      none =
          omega (
            arith,
            least_limit (r.k.due (start_words c)) 8,
            least_above (r.k.due (start_words c)) 8 no_limit (omega arith) (λ d h. omega (arith, r.start_due d (omega arith))),
          )

  -- ---- Events

  lost_same : (t : ℕ) (f g : ℕ → List ℕ) → ((i : ℕ) → i < n → f i ≡ g i) → Lost n r.Says t f → Lost n r.Says t g
  lost_same t f g same lost h late says =
      lost h late (r.says_same (λ i. g i ++ h i) (λ i. f i ++ h i) (λ i l. ap (λ (xs : List ℕ). xs ++ h i) (sym (same i l))) says)

  -- no continuation is left where none is left for a colour
  shut : (t : ℕ) (steps : List Step) → clock steps ≡ t → (d : ℕ) → d ≤ last_colour → Lost n r.Says t (column steps d) → ¬ Open c steps
  shut t steps now d few lost (further, follows, meets) =
      lost (column further d) (λ i h. rw now at (continues_late follows (stream_at i d)))
      (r.says_same (column (steps ++ further) d) (λ i. column steps d i ++ column further d i) (λ i h. times_append (stream_at i d) steps further)
      ((r.meets (steps ++ further)).0 meets d few))

  apart : (i j d e : ℕ) → i < n → j < n → d ≤ last_colour → e ≤ last_colour → stream_at i d ≡ stream_at j e → (i ≡ j) × (d ≡ e)
  apart i j d e h l p q same =
      let both = streams_apart (at r.ks i) (at r.ks j) d e (r.coloured_all i h) (r.coloured_all j l) p q same in
      (by_cases (ℕ_discrete i j) (λ is. is) (λ other. absurd (kinds_apart r.ks r.fit i j h l other both.0)), both.1)

  -- an event of one colour, of the kind at place j
  module _ (steps : List Step) (d j t : ℕ) (few : d ≤ last_colour) (of_row : j < n) where
    abbrev after : List Step
    after = steps ++ (event (stream_at j d) t ∷ [])

    column_own : (i : ℕ) → i < n → with_one (column steps d) j t i ≡ column after d i
    column_own i h =
        by_cases (ℕ_discrete i j)
        (λ e. rw (eq-eqb i j e) (subst (λ (x : ℕ). times (stream_at x d) steps ++ (t ∷ []) ≡ times (stream_at x d) after) (sym e)
        (sym (times_own (stream_at j d) t steps))))
        (λ o. rw (ne_eqb i j o) (sym (times_other (stream_at i d) (stream_at j d) t steps (λ same. o (sym (apart j i d d of_row h few few same).0)))))

    column_other : (e : ℕ) → e ≤ last_colour → ¬ (e ≡ d) → (i : ℕ) → i < n → column steps e i ≡ column after e i
    column_other e l o i h =
        sym (times_other (stream_at i e) (stream_at j d) t steps (λ same. o (sym (apart j i d e of_row h few l same).1)))

    live_after : (words next : List ℕ) → Live steps words → length next ≡ length words → r.k.Keeps (with_one (column steps d) j t) d next
        → ((e : ℕ) → e ≤ last_colour → ¬ (e ≡ d) → r.k.Alike e words next) → Live after next
    live_after words next live long keeps others =
        record {
          each = λ e l. by_cases (ℕ_discrete e d)
              (λ is. subst (λ (x : ℕ). r.k.Keeps (column after x) x next) (sym is)
              (r.keeps_same (with_one (column steps d) j t) (column after d) column_own d next keeps))
              (λ o. r.keeps_same (column steps e) (column after e) (column_other e l o) e next
              (r.keeps_alike (column steps e) e words next (others e l o) long (live.each e l)));
        }

    soon_after : (words next : List ℕ) → t ≤ due_of words → t ≤ no_limit → t ≤ r.k.due next d
        → ((e : ℕ) → e ≤ last_colour → ¬ (e ≡ d) → r.k.Alike e words next) → t ≤ due_of next
    soon_after words next soon small new others =
        least_above (r.k.due next) 8 t small (λ e l. by_cases (ℕ_discrete e d)
        (λ is. omega (arith, ap (r.k.due next) is))
        (λ o. omega (arith, r.due_alike e words next (others e (omega arith) o), least_below (r.k.due words) 8 e l)))

  abbrev Does : List Step → Registers → List ℕ → ℕ → ℕ → Type 0
  Does steps registers words s t =
      ByOutcome (¬ Open c (steps ++ (event s t ∷ []))) (GoesOn (Marked (steps ++ (event s t ∷ []))) due kept words t) (decide registers words s t)

  event_does : (steps : List Step) (registers : Registers) (words : List ℕ) (t : ℕ) → Past steps → Marked steps registers words
      → (j d : ℕ) → j < n → d ≤ last_colour
      → Accepts steps (event (stream_at j d) t) → t ≤ due_of words → Does steps registers words (stream_at j d) t
  event_does steps registers words t past (live, marked) j d of_row few a soon =
      let change = decide registers words (stream_at j d) t in
      outcome_map change.breaks
      (λ lost. shut t (steps ++ (event (stream_at j d) t ∷ [])) (clock_event (stream_at j d) t steps) d few
      (lost_same t (with_one (column steps d) j t) (column (steps ++ (event (stream_at j d) t ∷ [])) d) (column_own steps d j t few of_row) lost))
      (λ turned.
      let next = changed change.edit words in
      let long : length next ≡ length words =
      r.whole (with_one (column steps d) j t) d next turned.keeps ∙ sym (whole steps words live) in
      record {
        live = (
          live_after steps d j t few of_row words next live long turned.keeps turned.others,
          turned.marked ∙ turned.due_is,
        );
        due_is = turned.due_is;
        kept_is = turned.kept_is ∙ ap (λ (x : ℕ). eqb x no_limit) turned.due_is;
        in_time = subst (λ (x : ℕ). t ≤ x) (sym turned.due_is)
            (soon_after steps d j t few of_row words next soon (omega (arith, a.time_small)) turned.in_time turned.others);
      })
      (r.turns (column steps d) registers words d j t few of_row (λ i h l g. omega (arith, past.past (stream_at i d) l g, a.in_order.0))
      a.in_order.1 a.time_small (live.each d few) (omega (arith, least_below (r.k.due words) 8 d (omega arith))) marked)

  does : (steps : List Step) (registers : Registers) (words : List ℕ) (s t : ℕ) → Past steps → Marked steps registers words → OfStream c s
      → Accepts steps (event s t)
      → t ≤ due_of words → Does steps registers words s t
  does steps registers words s t past live =
      by_place c (colours_of r.ks) r.streams_are (λ x. Accepts steps (event x t) → t ≤ due_of words → Does steps registers words x t)
      (coloured_each r.ks (λ x. Accepts steps (event x t) → t ≤ due_of words → Does steps registers words x t)
      (λ j d h few. event_does steps registers words t past live j d h few))

  -- ---- Ticks

  same : (a b : List Step) (words : List ℕ) → own (streams c) a ≡ own (streams c) b → Live a words → Live b words
  same a b words equal live =
      let both : SameTimes (colours_of r.ks) a b = rw r.streams_are at (same_times (streams c) a b equal) in
      record {
        each = λ d few. r.keeps_same (column a d) (column b d)
            (λ i h. coloured_at r.ks (λ s. times s a ≡ times s b) both i d h few) d words (live.each d few);
      }

  late : (steps : List Step) (words : List ℕ) (t : ℕ) → Live steps words → due_of words < t → t ≤ last_time → ¬ Open c (steps ++ (tick t ∷ []))
  late steps words t live passed small =
      let (d, h, is) = least_found (r.k.due words) 8 (omega arith) in
      shut t (steps ++ (tick t ∷ [])) (clock_tick t steps) d (omega arith)
      (lost_same t (column steps d) (column (steps ++ (tick t ∷ [])) d) (λ i l. sym (times_tick (stream_at i d) t steps))
      (r.late (column steps d) words d t (live.each d (omega arith)) (omega arith) small))

  -- ---- Close

  met : (steps : List Step) (words : List ℕ) → Live steps words → no_limit ≤ due_of words → Meets c steps
  met steps words live none =
      (r.meets steps).1 (λ d few. r.says (column steps d) words d (live.each d few)
      (omega (arith, least_below (r.k.due words) 8 d (omega arith))))

  not_met : (steps : List Step) (words : List ℕ) → Live steps words → due_of words < no_limit → ¬ Meets c steps
  not_met steps words live soon m =
      let (d, h, is) = least_found (r.k.due words) 8 soon in
      r.unsaid (column steps d) words d (live.each d (omega arith)) (omega arith) ((r.meets steps).0 m d (omega arith))

  unkept_missed : (steps : List Step) (words : List ℕ) → Live steps words → eqb (due_of words) no_limit ≡ false → ¬ Meets c steps
  unkept_missed steps words live e =
      not_met steps words live (below (due_of words) (least_limit (r.k.due words) 8) (eqb-false (due_of words) no_limit e))
    where
      below : (x : ℕ) → x ≤ no_limit → ¬ (x ≡ no_limit) → x < no_limit
      below x h other = omega arith

  -- ---- Open

  -- the colour with the first last moment is brought nearer
  module _ (steps : List Step) (words : List ℕ) (live : Live steps words) (d : ℕ) (few : d ≤ last_colour) (first : r.k.due words d ≡ due_of words)
      (soon : due_of words < no_limit) (near : Nearer r.k r.Fine n (column steps d) d words (clock steps)) where
    abbrev more_event : Step
    more_event = event (stream_at near.kind d) near.moment

    next_live : Live (steps ++ (more_event ∷ [])) near.next
    next_live =
        live_after steps d near.kind near.moment few near.of_row words near.next live
        (r.whole (with_one (column steps d) near.kind near.moment) d near.next near.keeps ∙ sym (whole steps words live))
        near.keeps near.others

    next_soon : clock (steps ++ (more_event ∷ [])) ≤ due_of near.next
    next_soon =
        rw (clock_event (stream_at near.kind d) near.moment steps)
        (soon_after steps d near.kind near.moment few near.of_row words near.next (omega (arith, near.soon)) (omega (arith, near.soon))
        near.in_time near.others)

    next_fewer : sum_of (r.k.lacks near.next) 8 < sum_of (r.k.lacks words) 8
    next_fewer =
        sum_fewer (r.k.lacks words) (r.k.lacks near.next) 8 d (omega arith) near.fewer
        (λ e l o. r.lacks_alike e words near.next (near.others e (omega arith) o))

    opens : closed steps ≡ false → Open c (steps ++ (more_event ∷ [])) → Open c steps
    opens open_still (further, follows, meets) = (
      more_event ∷ further,
      more (stream_at near.kind d) near.moment open_still
          (stream_below (at r.ks near.kind) d (kinds_small r.ks r.fit near.kind near.of_row) few)
          (near.begun, near.rises) follows,
      subst (Meets c) (append_assoc steps (more_event ∷ []) further) meets,
    )

    next_past : ((x : ℕ) → Each (λ s. s ≤ clock steps) (times x steps)) → (x : ℕ)
        → Each (λ s. s ≤ clock (steps ++ (more_event ∷ []))) (times x (steps ++ (more_event ∷ [])))
    next_past past x =
        let before : Each (λ s. s ≤ near.moment) (times x steps) = λ i h. omega (arith, past x i h, near.begun) in
        rw (clock_event (stream_at near.kind d) near.moment steps)
        (with_time x (stream_at near.kind d) near.moment steps (Each (λ s. s ≤ near.moment))
        (λ e. each_append (λ s. s ≤ near.moment) (times x steps) (near.moment ∷ []) before
        (each_cons (λ s. s ≤ near.moment) near.moment [] (omega arith) (each_none (λ s. s ≤ near.moment)))) before)

  goes_on : (m : ℕ) (steps : List Step) (words : List ℕ) → sum_of (r.k.lacks words) 8 < m → closed steps ≡ false
      → ((x : ℕ) → Each (λ s. s ≤ clock steps) (times x steps)) → r.Fine (clock steps) → Live steps words → clock steps ≤ due_of words → Open c steps
  goes_on zero steps words left open_still past fine live in_time = absurd (omega arith)
  goes_on (suc m) steps words left open_still past fine live in_time =
      by_cases (dec_lt (due_of words) no_limit)
      (λ soon.
      let (d, h, is) = least_found (r.k.due words) 8 soon in
      let near = r.nearer (column steps d) words d (clock steps) (omega arith) (λ i l. past (stream_at i d)) fine
      (live.each d (omega arith)) (omega arith) (omega arith) in
      opens steps words live d (omega arith) is soon near open_still
      (goes_on m (steps ++ (event (stream_at near.kind d) near.moment ∷ [])) near.next
      (omega (arith, next_fewer steps words live d (omega arith) is soon near))
      (closed_event (stream_at near.kind d) near.moment steps ∙ open_still)
      (next_past steps words live d (omega arith) is soon near past) (subst r.Fine (sym (clock_event (stream_at near.kind d)
      near.moment steps)) near.fine)
      (next_live steps words live d (omega arith) is soon near) (next_soon steps words live d (omega arith) is soon near)))
      (λ none. open_of_meets c steps (met steps words live (omega arith)))

  -- ---- Exact

  pub exact_by_colour : Exact c decide
  exact_by_colour =
      record {
        Live = Marked;
        due = due;
        kept = kept;
        start = start;
        does = does _ _ _ _ _;
        same = λ equal (live, marked). (same _ _ _ equal live, marked);
        late = λ past (live, marked). late _ _ _ live;
        is_open = λ {steps} {registers} {times = words} past o (live, marked) soon.
            goes_on (suc (sum_of (r.k.lacks words) 8)) steps words (omega arith) o past.past
            (r.fine (clock steps) past.small) live soon;
        waits = λ {steps} {registers} {times = words} past (live, marked). rw r.none_waits
            (r.waits_none steps, omega (arith, whole steps words live, r.few));
        is_kept = λ {steps} {registers} {times = words} past (live, marked) soon k.
            met steps words live (omega (arith, eqb-true (due_of words) no_limit k));
        not_kept = λ past (live, marked) k. unkept_missed _ _ live k;
      }
