-- Repeat and Burst: an event adds one pair span places apart and one pair of neighbours, and the machine still has the earlier time of each,
-- so its test tells whether the events still meet the row; the events without one span places after them are those whose times it has, and
-- the oldest of them is the first that the clock leaves too far behind.
use Rattle.constraint.proofs.Library.{Bool, List, [], ◌&&◌, ◌++◌, ◌+◌, ◌-◌, ◌<◌, ◌||◌, ◌↔◌, ◌∙◌, ◌∷◌, ◌≡◌, ◌≤◌, ap, arith, by_cases, cond, dec_lt}
use Rattle.constraint.proofs.Library.{drop, drop-append-le, drop-drop, drop-nil, false, get_or-drop, inr, le-ltb, leb, length, length-append}
use Rattle.constraint.proofs.Library.{length-drop, ltb, ltb-false, ltb-true, refl, subst, sym, take, take-append-drop, true, ℕ, ⊎_elim}
use Rattle.constraint.proofs.Lists.{Each, Rising, at_left, at_right, rising_at, rising_left, rising_right, split}
use Rattle.constraint.proofs.{Continuations.continues_clock, Continuations.continues_late, Continuations.not_later_earlier, History.times_append}
use Rattle.constraint.specs.{Accepted.InRange, Constraint.Repeat, Continuation.Open, Limits.last_time, Limits.no_limit, Limits.span_limit}
use Rattle.constraint.specs.{Limits.waiting_limit, Meets.AtLeastApart, Meets.Meets, Meets.MeetsRepeat, Meets.SpansApart, Steps.Step, Steps.at}
use Rattle.constraint.specs.{Steps.clock, Steps.times, Waiting.waiting}
use Rattle.row_type.proofs.FitsRow.{FitsRow, Places, Unkept, calm_by, free_first, free_second, keeping_last, kind_overflows, neither, pushed}
use Rattle.row_type.proofs.FitsRow.{unkept_by}
use Rattle.row_type.proofs.Oldest.{due_dropped, due_or_pushed, due_pushed, due_reached, due_within, front_at}
use Rattle.row_type.proofs.Spans.{ApartFromNew, LastIs, apart_first, apart_more, apart_new, far_enough_lem, last_new, last_none, rising_apart}
use Rattle.row_type.proofs.Tests.{Tells, fails, holds, tells_and, tells_leb, tells_or, tells_same}
use Rattle.row_type.proofs.{Exact.Exact, Exact.Sound, OneKind.ByTurn, OneKind.exact_one_kind}
use Rattle.row_type.specs.Parts.{breaking, continues_with, due_oldest, due_or, far_enough, front, no_registers, plus, with_last}
use Rattle.row_type.specs.{Parameters.parameters_of, Words.last_saved, declared.Change.Change, declared.Parameters.Parameters}
use Rattle.row_type.specs.{declared.Registers.Registers}
use Rattle.ring.specs.declared.Edit.TheVariants.{Push}
use Rattle.repeat_burst.specs.Repeat.{decide_repeat, due_with, leaving, machine_repeat, overflows_repeat, span_reached, taken_repeat}

-- each event and the one span places after it are lower to upper apart
abbrev pub MeetsSpan : Parameters → List ℕ → Type 0
MeetsSpan parameters events = SpansApart parameters.span parameters.lower parameters.upper events

-- the row waits until upper after the oldest time that it keeps
abbrev pub due_repeat : Parameters → Registers → List ℕ → ℕ
due_repeat parameters registers kept = due_oldest parameters.upper kept

-- what the row keeps of its events: the times of the last span, and the last
pub record KeepsRepeat (parameters : Parameters) (events : List ℕ) (registers : Registers) (kept : List ℕ) : Type 0 where
  pub spans : MeetsSpan parameters events
  pub apart : AtLeastApart parameters.minimum events
  pub newest : kept ≡ drop (length events - parameters.span) events
  pub last_is : LastIs events registers.last

-- ---- Start

pub repeat_none : (parameters : Parameters) → KeepsRepeat parameters [] no_registers []
unfolding SpansApart
repeat_none parameters =
    record {
      spans = λ i h. absurd (omega arith);
      apart = λ i h. absurd (omega arith);
      newest = sym (drop-nil (0 - parameters.span));
      last_is = last_none;
    }

-- ---- Events

rising_drop : (n : ℕ) (xs : List ℕ) → Rising xs → Rising (drop n xs)
rising_drop n xs r = rising_right (take n xs) (drop n xs) (subst Rising (sym (take-append-drop n xs)) r)

module _ (parameters : Parameters) (events : List ℕ) (registers : Registers) (kept : List ℕ) (keeps : KeepsRepeat parameters events registers kept)
  where
    kept_length : length kept ≡ length events - (length events - parameters.span)
    kept_length = ap length keeps.newest ∙ length-drop (length events - parameters.span) events

    kept_oldest : (i : ℕ) → i ≡ length events - parameters.span → at kept 0 ≡ at events i
    kept_oldest i e =
        let place : length events - parameters.span + 0 ≡ i = omega arith in
        ap (λ l. at l 0) keeps.newest ∙ get_or-drop (length events - parameters.span) events 0 0 ∙ ap (at events) place

    kept_front : (i : ℕ) → i + parameters.span ≡ length events → front kept ≡ at events i
    kept_front i e = front_at kept ∙ kept_oldest i (omega arith)

    module _ (t : ℕ) (some : 1 ≤ parameters.span) (small : t ≤ last_time) (rises : Rising (events ++ (t ∷ [])))
        (soon : t ≤ due_oldest parameters.upper kept) where
      in_span : Tells (MeetsSpan parameters (events ++ (t ∷ []))) (span_reached parameters kept t)
      in_span =
          tells_or (ltb (length kept) parameters.span) (leb (front kept + parameters.lower) t)
          (λ few. more (λ i e. absurd (omega (arith, kept_length, ltb-true))))
          (λ full. let e : length events - parameters.span + parameters.span ≡ length events = omega (arith, kept_length, ltb-false) in
          let within : t ≤ at kept 0 + parameters.upper = due_within parameters.upper t kept soon (omega (arith, ltb-false)) in
          tells_same (tells_leb (front kept + parameters.lower) t)
          (λ far. more (λ i f. (omega (arith, kept_front i f), inr (omega (arith, kept_front i f, front_at kept)))))
          (λ m. omega (
            arith,
            kept_front (length events - parameters.span) e,
            (apart_new parameters.span parameters.lower parameters.upper events t some m (length events - parameters.span) e).0,
          )))
        where
          more : ApartFromNew parameters.span parameters.lower parameters.upper events t → MeetsSpan parameters (events ++ (t ∷ []))
          more new = apart_more parameters.span parameters.lower parameters.upper events t some keeps.spans new

      kept_new : drop (leaving parameters (length kept)) kept ++ (t ∷ []) ≡ drop (length (events ++ (t ∷ [])) - parameters.span) (events ++ (t ∷ []))
      kept_new =
          ap (λ l. drop dropped l ++ (t ∷ [])) keeps.newest
          ∙ ap (λ l. l ++ (t ∷ [])) (drop-drop dropped (length events - parameters.span) events)
          ∙ ap (λ n. drop n events ++ (t ∷ [])) still
          ∙ sym (drop-append-le (length (events ++ (t ∷ [])) - parameters.span) events (t ∷ []) (omega (arith, length-append events (t ∷ []))))
        where
          dropped : ℕ
          dropped = leaving parameters (length kept)

          still : length events - parameters.span + dropped ≡ length (events ++ (t ∷ [])) - parameters.span
          still =
              split (ltb (length kept) parameters.span)
              (λ x. length events - parameters.span + cond x 0 1 ≡ length (events ++ (t ∷ [])) - parameters.span)
              (λ e. omega (arith, kept_length, ltb-true, length-append events (t ∷ [])))
              (λ e. omega (arith, kept_length, ltb-false, length-append events (t ∷ [])))

      due_new : due_with parameters kept t ≡ due_oldest parameters.upper (drop (leaving parameters (length kept)) kept ++ (t ∷ []))
      due_new = due_or_pushed parameters.upper t (drop (leaving parameters (length kept)) kept)

      still_soon : t ≤ due_with parameters kept t
      still_soon =
          rw due_new (due_pushed parameters.upper t (drop (leaving parameters (length kept)) kept) small
          (due_dropped parameters.upper t (leaving parameters (length kept)) kept small
          (subst Rising (sym keeps.newest) (rising_drop (length events - parameters.span) events (rising_left events (t ∷ []) rises))) soon))

      pub repeat_event : (kind : ℕ) (Says : List ℕ → ℕ → Type 0)
          → (Says (events ++ (t ∷ [])) t → MeetsSpan parameters (events ++ (t ∷ [])) × AtLeastApart parameters.minimum (events ++ (t ∷ [])))
          → ByTurn Says (KeepsRepeat parameters) (due_repeat parameters) events kept t (decide_repeat parameters registers kept kind t)
      unfolding decide_repeat
      repeat_event kind Says both =
          turn (tells_and (far_enough_lem parameters.minimum events t registers.last keeps.last_is keeps.apart) in_span)
        where
          turn : {test : Bool} → Tells (AtLeastApart parameters.minimum (events ++ (t ∷ [])) × MeetsSpan parameters (events ++ (t ∷ []))) test
              → ByTurn Says (KeepsRepeat parameters) (due_repeat parameters) events kept t
              (cond test (continues_with (Push (leaving parameters (length kept)) t) (with_last registers (plus t 1))
              (due_with parameters kept t) true)
              breaking)
          turn (holds m) =
              record {
                live = record { spans = m.1; apart = m.0; newest = kept_new; last_is = last_new events t (plus t 1) (omega arith) };
                due_is = due_new;
                kept_is = refl;
                in_time = still_soon;
              }
          turn (fails n) = λ s. n ((both s).1, (both s).0)

-- ---- Open

-- an event that is the last but fewer than span has one span places after it among further events, or the clock that they close at is early
pub repeat_first : (span lower upper : ℕ) (xs ys : List ℕ) (now later : ℕ) → now ≤ later → Each (λ y. now ≤ y) ys
    → MeetsRepeat span lower upper (xs ++ ys) later → MeetsRepeat span lower upper xs now
unfolding SpansApart MeetsRepeat
repeat_first span lower upper xs ys now later h after m = (
  apart_first span lower upper xs ys m.0,
  λ i g end. rw (at_left xs ys i g) at
      (by_cases (dec_lt (i + span) (length (xs ++ ys)))
      (λ there. not_later_earlier (at (xs ++ ys) i) now (at (xs ++ ys) (i + span)) (behind (i + span) end there) (m.0 i there).1)
      (λ none. not_later_earlier (at (xs ++ ys) i) now later h (m.1 i (omega (arith, length-append xs ys)) (omega arith)))),
)
  where
    behind : (j : ℕ) → length xs ≤ j → j < length (xs ++ ys) → now ≤ at (xs ++ ys) j
    behind j past there =
        let place : length xs + (j - length xs) ≡ j = omega arith in
        subst (λ (n : ℕ). now ≤ at (xs ++ ys) n) place
        (rw (at_right xs ys (j - length xs)) (after (j - length xs) (omega (arith, length-append xs ys))))

-- so a signal that is silent for too long leaves no continuation
pub silent_repeat_shut : (kind span lower upper : ℕ) (steps : List Step) → ¬ (upper ≡ no_limit) → (i : ℕ) → i < length (times kind steps)
    → length (times kind steps) ≤ i + span → at (times kind steps) i + upper < clock steps → ¬ Open (Repeat kind span lower upper) steps
unfolding Meets MeetsRepeat
silent_repeat_shut kind span lower upper steps limit i there none silent (further, follows, m) =
    let now =
    repeat_first span lower upper (times kind steps) (times kind further) (clock steps) (clock (steps ++ further)) (continues_clock follows)
    (continues_late follows kind) (rw (times_append kind steps further) at m) in
    ⊎_elim limit (λ soon. omega arith) (now.1 i there none)

repeat_says : (parameters : Parameters) (events : List ℕ) (registers : Registers) (kept : List ℕ) (now : ℕ) → Rising events → now ≤ last_time
    → KeepsRepeat parameters events registers kept
    → MeetsRepeat parameters.span parameters.lower parameters.upper events now ↔ (now ≤ due_repeat parameters registers kept)
unfolding MeetsRepeat
repeat_says parameters events registers kept now rises small keeps = (
  λ m. due_reached parameters.upper now kept small (λ some. ⊎_elim (λ e. omega arith) (λ h. omega (arith, oldest))
      (m.1 first (omega (arith, count)) (omega arith))),
  λ soon. (
    keeps.spans,
    λ i h end. inr (by_cases (dec_lt first i)
        (λ l. omega (arith, due_within parameters.upper now kept soon (omega (arith, count)), oldest, rising_at events rises first i l h))
        (λ l. let e : first ≡ i = omega arith in
        omega (
          arith,
          due_within parameters.upper now kept soon (omega (arith, count)),
          kept_oldest parameters events registers kept keeps i
              (sym e),
        ))),
  ),
)
  where
    first : ℕ
    first = length events - parameters.span

    oldest : at kept 0 ≡ at events first
    oldest = kept_oldest parameters events registers kept keeps first refl

    count : length kept ≡ length events - (length events - parameters.span)
    count = kept_length parameters events registers kept keeps

-- ---- Waiting

pub repeat_few : (parameters : Parameters) → parameters.span ≤ span_limit
    → {events : List ℕ} {registers : Registers} {kept : List ℕ} → KeepsRepeat parameters events registers kept
    → length kept ≤ waiting_limit
repeat_few parameters small {events} {registers} {kept} keeps = omega (arith, kept_length parameters events registers kept keeps)

-- ---- Exact

-- §5.3
pub exact_repeat : (kind span lower upper : ℕ) → Sound (Repeat kind span lower upper)
    → Exact (Repeat kind span lower upper) (decide_repeat (parameters_of (Repeat kind span lower upper)))
unfolding Meets MeetsRepeat waiting InRange
exact_repeat kind span lower upper sound =
    exact_one_kind (Repeat kind span lower upper) (decide_repeat parameters)
    (record {
      kind = kind;
      Says = MeetsRepeat span lower upper;
      words = [];
      one_kind = refl;
      start_words_lem = refl;
      meets = λ steps. (λ m. m, λ m. m);
      none_waits = refl;
      waits_none = λ steps. refl;
      follows = record {
        Keeps = KeepsRepeat parameters;
        due = due_repeat parameters;
        says_first = repeat_first span lower upper;
        keeps_none = repeat_none parameters;
        due_none = refl;
        keeps_says = λ now rises small keeps. repeat_says parameters _ _ _ now rises small keeps;
        keeps_few = repeat_few parameters sound.in_range.1.0.1;
        keeps_event = λ t rises small keeps soon.
            repeat_event parameters _ _ _ keeps t sound.in_range.1.0.0 small rises soon kind (MeetsRepeat span lower upper)
            (λ m. (m.0, rising_apart _ rises));
      };
    })
  where
    parameters : Parameters
    parameters = parameters_of (Repeat kind span lower upper)

-- ---- In a row, as a Burst too

-- an event changes the last time alone
unkept_repeat : (parameters : Parameters) (m : Registers) (times : List ℕ) (kind t : ℕ) → Unkept last_saved m
    → Unkept last_saved (decide_repeat parameters m times kind t).registers
unfolding decide_repeat
unkept_repeat parameters m times kind t e =
    unkept_by last_saved (far_enough parameters.minimum m.last t && span_reached parameters times t)
    (continues_with (Push (leaving parameters (length times)) t) (with_last m (plus t 1)) (due_with parameters times t) true) breaking
    (ap (λ (x : Registers). with_last x (plus t 1)) e) refl

replaced : (times : List ℕ) (t : ℕ) → 63 ≤ length times → length times ≤ 64 → ltb 64 (length (drop 1 times ++ (t ∷ []))) ≡ false
replaced times t many few =
    rw (length-append (drop 1 times) (t ∷ []), length-drop 1 times) (le-ltb 64 (length times - 1 + 1) (omega (arith, few, many)))

crowding_repeat : (parameters : Parameters) (registers : Registers) (times : List ℕ) (kind t : ℕ) → 63 ≤ length times → length times ≤ 64
    → overflows_repeat parameters registers (length times) kind t ≡ kind_overflows (decide_repeat parameters registers times kind t) times
unfolding overflows_repeat decide_repeat
crowding_repeat parameters registers times kind t many few =
    let far : Bool = far_enough parameters.minimum registers.last t in
    let reached : Bool = leb (front times + parameters.lower) t in
    let full : Bool → Bool = λ b. cond (ltb (length times) waiting_limit) false b in
    let on : Bool → Change = λ s. continues_with (Push (cond s 0 1) t) (with_last registers (plus t 1))
    (due_or (plus t parameters.upper) parameters.upper (drop (cond s 0 1) times)) true in
    split (ltb (length times) parameters.span) (λ s. cond s (full far) false ≡ kind_overflows (cond (far && (s || reached)) (on s) breaking) times)
    (λ _. split far (λ f. full f ≡ kind_overflows (cond (f && true) (on true) breaking) times)
    (λ _. sym (pushed times t)) (λ _. neither (ltb (length times) waiting_limit)))
    (λ _. sym (calm_by times (far && reached) (on false) breaking (replaced times t many few) refl))

room_repeat : (parameters : Parameters) (registers : Registers) (n s t : ℕ) → 63 ≤ n → taken_repeat parameters.span n < 64
    → overflows_repeat parameters registers n s t ≡ false
unfolding overflows_repeat
room_repeat parameters registers n s t many =
    let far : Bool = far_enough parameters.minimum registers.last t in
    split (ltb 64 parameters.span) (λ b. cond b n 0 < 64 → cond (ltb n parameters.span) (cond (ltb n waiting_limit) false far) false ≡ false)
    (λ _ l. free_second n l (ltb n parameters.span) far)
    (λ e _. split (ltb n parameters.span) (λ b. cond b (cond (ltb n waiting_limit) false far) false ≡ false)
    (λ f. free_first n (omega (arith, ltb-false 64 parameters.span e, ltb-true n parameters.span f)) far) (λ _. refl))

places_repeat : Places taken_repeat
places_repeat =
    record {
      rise = λ span n m l. split (ltb 64 span) (λ b. cond b n 0 ≤ cond b m 0) (λ _. l) (λ _. omega arith);
      few = λ span n l. split (ltb 64 span) (λ b. cond b n 0 ≤ 64) (λ _. l) (λ _. omega arith);
      free = λ span n l. split (ltb 64 span) (λ b. cond b n 0 ≤ 63) (λ _. omega (arith, l)) (λ _. omega arith);
    }

pub fits_repeat : FitsRow machine_repeat
fits_repeat =
    record { keeping = keeping_last; unkept = unkept_repeat; crowding = crowding_repeat; room = room_repeat; places = places_repeat }
