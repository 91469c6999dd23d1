-- Repetition: what the row keeps tells the places of the next point, and where each event has one there are points. So the machine's test tells
-- whether the events still have points, for every span by one argument.
use Rattle.constraint.proofs.Library.{Bool, List, [], ◌++◌, ◌+◌, ◌-◌, ◌/◌, ◌<◌, ◌↔◌, ◌∷◌, ◌≡◌, ◌≤◌, ap, arith, cond, drop, false, le-ltb, length}
use Rattle.constraint.proofs.Library.{length-append, length-drop, lt-ltb, ltb, ltb-false, ltb-true, refl, subst, sym, take, true, ℕ}
use Rattle.constraint.proofs.Lists.{Rising, split}
use Rattle.constraint.specs.{Accepted.InRange, Accepted.LowerFirst, Limits.last_time, Limits.no_limit, Meets.Meets, Meets.MeetsRepetition}
use Rattle.constraint.specs.{Waiting.waiting, Constraint.Repetition}
use Rattle.row_type.proofs.FitsRow.{FitsRow, Places, Unkept, calm_by, kind_overflows, keeping_none, unkept_by}
use Rattle.row_type.proofs.Tests.{Tells, fails, holds, tells_and, tells_leb}
use Rattle.row_type.proofs.{Exact.Exact, Exact.Sound, OneKind.ByTurn, OneKind.exact_one_kind}
use Rattle.row_type.specs.Parts.{breaking, continues_with}
use Rattle.row_type.specs.{Parameters.parameters_of, Words.none_saved, declared.Change.Change, declared.Registers.Registers}
use Rattle.row_type.specs.{declared.Parameters.Parameters}
use Rattle.hidden_points.proofs.Laws.Points.{points_first}
use Rattle.ring.specs.declared.Edit.TheVariants.{PushTwo}
use Rattle.repetition.proofs.Laws.Chains.{Fitting, keeps_more, keeps_says, next_breaks}
use Rattle.repetition.proofs.Laws.Kept.{Asked, IsNext, KeepsLast, is_next, kept_few, kept_points, last_none, new_high, new_low, newest_more}
use Rattle.repetition.specs.Repetition.{decide_repetition, overflows_repetition, has_place, machine_repetition, placed, points, taken_repetition}

-- the clock and the marks say nothing here
abbrev SaysRepetition : Parameters → List ℕ → ℕ → Type 0
SaysRepetition parameters events now = MeetsRepetition parameters.span parameters.lower parameters.upper parameters.jitter events

abbrev KeepsRepetition : Parameters → List ℕ → Registers → List ℕ → Type 0
KeepsRepetition parameters events registers kept = KeepsLast parameters events kept

abbrev due_repetition : Registers → List ℕ → ℕ
due_repetition registers kept = no_limit

-- ---- Events

module _ (parameters : Parameters) (asked : Asked parameters) (events : List ℕ) (registers : Registers) (kept : List ℕ) (row : KeepsLast parameters
    events kept) (t : ℕ)
    (rising : Rising (events ++ (t ∷ []))) (small : t ≤ last_time) where
  abbrev low : ℕ
  low = new_low parameters events kept row asked t small rising

  abbrev high : ℕ
  high = new_high parameters events kept row asked t small rising

  next : IsNext parameters events kept row asked t small rising low high
  next = is_next parameters events kept row asked t small rising

  abbrev Fits : Type 0
  Fits =
      Fitting parameters.span parameters.lower parameters.upper parameters.jitter asked.positive asked.given events row.lows
      row.highs row.keeps
      t rising low high

  abbrev TurnsRepetition : Change → Type 0
  TurnsRepetition = ByTurn (SaysRepetition parameters) (KeepsRepetition parameters) due_repetition events kept t

  -- the row goes on: as many numbers leave as are not of the last span any more
  goes_on : Fits → (dropped : ℕ) → cond (ltb (points kept) parameters.span) 0 2 ≡ dropped
      → TurnsRepetition (continues_with (PushTwo dropped low high) registers no_limit true)
  goes_on fits dropped is =
      record {
        live = record {
          lows = row.lows ++ (low ∷ []);
          highs = row.highs ++ (high ∷ []);
          keeps = keeps_more parameters.span parameters.lower parameters.upper parameters.jitter asked.positive asked.given events
              row.lows row.highs
              row.keeps t rising low high next fits;
          newest = newest_more parameters events kept row asked t small rising low high dropped is;
        };
        due_is = refl;
        kept_is = refl;
        in_time = omega arith;
      }

  breaks : ¬ Fits → TurnsRepetition breaking
  unfolding MeetsRepetition
  breaks none =
      next_breaks parameters.span parameters.lower parameters.upper parameters.jitter asked.positive asked.given events row.lows
      row.highs
      row.keeps t rising low high next none

  -- an event after the first span
  later_event : ltb (points kept) parameters.span ≡ false
      → TurnsRepetition (cond (has_place parameters low high) (continues_with (PushTwo 2 low high) registers no_limit true) breaking)
  later_event full = turn has_place_lem
    where
      many : parameters.span ≤ length events
      many = omega (arith, ltb-false (points kept) parameters.span full, kept_points parameters events kept row)

      has_place_lem : Tells ((parameters.span ≤ parameters.upper) × (low ≤ high)) (has_place parameters low high)
      has_place_lem = tells_and (tells_leb parameters.span parameters.upper) (tells_leb low high)

      turn : {test : Bool} → Tells ((parameters.span ≤ parameters.upper) × (low ≤ high)) test
          → TurnsRepetition (cond test (continues_with (PushTwo 2 low high) registers no_limit true) breaking)
      turn (holds both) = goes_on (λ m. both) 2 (ap (λ b. cond b 0 2) full)
      turn (fails none) = breaks (λ fits. none (fits many))

  repetition_event : (kind : ℕ) → TurnsRepetition (decide_repetition parameters registers kept kind t)
  unfolding decide_repetition placed
  repetition_event kind =
      split (ltb (points kept) parameters.span)
      (λ b. TurnsRepetition (cond b (continues_with (PushTwo 0 low high) registers no_limit true)
      (cond (has_place parameters low high) (continues_with (PushTwo 2 low high) registers no_limit true) breaking)))
      (λ few. goes_on
      (λ many. absurd (omega (arith, ltb-true (points kept) parameters.span few, kept_points parameters events kept row))) 0
      (ap (λ b. cond b 0 2) few))
      later_event

-- ---- Open

repetition_first : (span lower upper jitter : ℕ) (xs ys : List ℕ) → MeetsRepetition span lower upper jitter (xs ++ ys)
    → MeetsRepetition span lower upper jitter xs
unfolding MeetsRepetition
repetition_first span lower upper jitter xs ys (points, hidden) = (take (length xs) points, points_first span lower upper jitter xs ys points hidden)

-- at every clock
repetition_says : (parameters : Parameters) → 1 ≤ parameters.span → parameters.lower ≤ parameters.upper
    → (events kept : List ℕ) (now : ℕ) → Rising events → now ≤ last_time
    → KeepsLast parameters events kept → SaysRepetition parameters events now ↔ (now ≤ no_limit)
unfolding MeetsRepetition
repetition_says parameters positive possible events kept now rising small row = (
  λ m. omega arith,
  λ soon. keeps_says parameters.span parameters.lower parameters.upper parameters.jitter positive possible events row.lows row.highs
      row.keeps rising,
)

-- ---- Exact

-- §5.10
pub exact_repetition : (kind span lower upper jitter : ℕ) → Sound (Repetition kind span lower upper jitter)
    → Exact (Repetition kind span lower upper jitter) (decide_repetition (parameters_of (Repetition kind span lower upper jitter)))
unfolding Meets waiting InRange LowerFirst
exact_repetition kind span lower upper jitter sound =
    exact_one_kind (Repetition kind span lower upper jitter) (decide_repetition parameters)
    (record {
      kind = kind;
      Says = SaysRepetition parameters;
      words = [];
      one_kind = refl;
      start_words_lem = refl;
      meets = λ steps. (λ m. m, λ m. m);
      none_waits = refl;
      waits_none = λ steps. refl;
      follows = record {
        Keeps = KeepsRepetition parameters;
        due = due_repetition;
        says_first = λ xs ys now later h after m. repetition_first span lower upper jitter xs ys m;
        keeps_none = last_none parameters;
        due_none = refl;
        keeps_says = λ now rising small row.
            repetition_says parameters sound.in_range.1.0.0 sound.lower_first.1.1.1.0 _ _ now rising small row;
        keeps_few = λ row. omega (arith, kept_few parameters _ _ row, sound.in_range.1.0.1);
        keeps_event = λ t rising small row soon. repetition_event parameters asked _ _ _ row t rising small kind;
      };
    })
  where
    parameters : Parameters
    parameters = parameters_of (Repetition kind span lower upper jitter)

    asked : Asked parameters
    asked = record { positive = sound.in_range.1.0.0; given = sound.in_range.1.1.1.0; small_lower = sound.in_range.1.1.0 }

-- ---- In a row

-- no mark changes, whatever the places of the new point
unkept_placed : (parameters : Parameters) (m : Registers) (n low high : ℕ) → Unkept none_saved m
    → Unkept none_saved (placed parameters m n low high).registers
unfolding placed
unkept_placed parameters m n low high e =
    unkept_by none_saved (ltb n parameters.span) (continues_with (PushTwo 0 low high) m no_limit true)
    (cond (has_place parameters low high) (continues_with (PushTwo 2 low high) m no_limit true) breaking) e
    (unkept_by none_saved (has_place parameters low high) (continues_with (PushTwo 2 low high) m no_limit true) breaking e refl)

unkept_repetition : (parameters : Parameters) (m : Registers) (times : List ℕ) (kind t : ℕ) → Unkept none_saved m
    → Unkept none_saved (decide_repetition parameters m times kind t).registers
unfolding decide_repetition
unkept_repetition parameters m times kind t e = unkept_placed parameters m (points times) _ _ e

crowding_repetition : (parameters : Parameters) (registers : Registers) (times : List ℕ) (kind t : ℕ) → 63 ≤ length times → length times ≤ 64
    → overflows_repetition parameters registers (length times) kind t ≡ kind_overflows (decide_repetition parameters registers times kind t) times
unfolding overflows_repetition decide_repetition placed
crowding_repetition parameters registers times kind t many few = by_span _ _
  where
    two : (low high : ℕ) → ltb 64 (length (drop 0 times ++ (low ∷ high ∷ []))) ≡ true
    two low high = rw (length-append (drop 0 times) (low ∷ high ∷ []), length-drop 0 times) (lt-ltb 64 (length times - 0 + 2) (omega (arith, many)))

    turned : (low high : ℕ) → ltb 64 (length (drop 2 times ++ (low ∷ high ∷ []))) ≡ false
    turned low high =
        rw (length-append (drop 2 times) (low ∷ high ∷ []), length-drop 2 times) (le-ltb 64 (length times - 2 + 2) (omega (arith, few, many)))

    by_span : (low high : ℕ) → ltb (points times) parameters.span
        ≡ kind_overflows (cond (ltb (points times) parameters.span) (continues_with (PushTwo 0 low high) registers no_limit true)
        (cond (has_place parameters low high) (continues_with (PushTwo 2 low high) registers no_limit true) breaking)) times
    by_span low high =
        split (ltb (points times) parameters.span)
        (λ b. b ≡ kind_overflows (cond b (continues_with (PushTwo 0 low high) registers no_limit true)
        (cond (has_place parameters low high) (continues_with (PushTwo 2 low high) registers no_limit true) breaking)) times)
        (λ _. sym (two low high))
        (λ _. sym (calm_by times (has_place parameters low high) (continues_with (PushTwo 2 low high) registers no_limit true) breaking
        (turned low high)
        refl))

room_repetition : (parameters : Parameters) (registers : Registers) (n s t : ℕ) → 63 ≤ n → taken_repetition parameters.span n < 64
    → overflows_repetition parameters registers n s t ≡ false
unfolding overflows_repetition
room_repetition parameters registers n s t many =
    split (ltb 31 parameters.span) (λ b. cond b (cond (ltb n 63) n 64) 0 < 64 → ltb (n / 2) parameters.span ≡ false)
    (λ _ l. absurd (full (subst (λ (k : ℕ). k < 64) (ap (λ (b : Bool). cond b n 64) (le-ltb n 63 many)) l)))
    (λ e _. le-ltb (n / 2) parameters.span (omega (arith, many, ltb-false 31 parameters.span e)))
  where
    full : 64 < 64 → ⊥
    full l = omega (arith, l)

-- two more numbers find no room where 63 are kept
in_twos : (n : ℕ) → (cond (ltb n 63) n 64 ≤ 64) × ((m : ℕ) → n ≤ m → cond (ltb n 63) n 64 ≤ cond (ltb m 63) m 64)
in_twos n = (
  few,
  λ m l. split (ltb m 63) (λ b. ltb m 63 ≡ b → cond (ltb n 63) n 64 ≤ cond b m 64)
      (λ _ e. subst (λ (b : Bool). cond b n 64 ≤ m) (sym (lt-ltb n 63 (omega (arith, ltb-true m 63 e, l)))) l) (λ _ _. few) refl,
)
  where
    few : cond (ltb n 63) n 64 ≤ 64
    few = split (ltb n 63) (λ b. ltb n 63 ≡ b → cond b n 64 ≤ 64) (λ _ e. omega (arith, ltb-true n 63 e)) (λ _ _. omega arith) refl

places_repetition : Places taken_repetition
places_repetition =
    record {
      rise = λ span n m l.
          split (ltb 31 span) (λ b. cond b (cond (ltb n 63) n 64) 0 ≤ cond b (cond (ltb m 63) m 64) 0) (λ _. (in_twos n).1 m l) (λ _. omega arith);
      few = λ span n l. split (ltb 31 span) (λ b. cond b (cond (ltb n 63) n 64) 0 ≤ 64) (λ _. (in_twos n).0) (λ _. omega arith);
      free = λ span n l.
          split (ltb 31 span) (λ b. cond b (cond (ltb n 63) n 64) 0 ≤ 63)
          (λ _. subst (λ (b : Bool). cond b n 64 ≤ 63) (sym (lt-ltb n 63 (omega (arith, l)))) (omega (arith, l))) (λ _. omega arith);
    }

pub fits_repetition : FitsRow machine_repetition
fits_repetition =
    record {
      keeping = keeping_none;
      unkept = unkept_repetition;
      crowding = crowding_repetition;
      room = room_repetition;
      places = places_repetition;
    }
