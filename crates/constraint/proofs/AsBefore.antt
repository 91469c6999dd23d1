-- What colours leave as it was, for tables and events of plain kinds: their questions have the answers that they had, and a row without a coloured
-- field is open just where it was over continuations of kinds 0 to 63, since of any continuation the row's own events alone will do.
use Rattle.constraint.proofs.Names.{Answer, Call, Constraint, Continues, EventInOrder, Field, InRange, Judged, KindsFit, KindsSuit, List}
use Rattle.constraint.proofs.Names.{LowerFirst, Meets, Open, Question, Room, EachField, KindClassFits, Step, [], ◌++◌, ◌<◌, ◌↔◌, ◌∙◌, ◌∷◌, ◌≡◌}
use Rattle.constraint.proofs.Names.{◌≤◌}
use Rattle.constraint.proofs.Names.{among, ap}
use Rattle.constraint.proofs.Names.{Age, Arbitrary, Burst, Comparison, Delay, ExecutionTime, InputSynchronization, Order}
use Rattle.constraint.proofs.Names.{OutputSynchronization, Pattern}
use Rattle.constraint.proofs.Names.{Reaction, Repeat, Repetition, Sporadic, StrongDelay, StrongSynchronization, Synchronization, kind_fields}
use Rattle.constraint.proofs.Names.{last_type, plain as neither, tolerance}
use Rattle.constraint.proofs.Names.{arith, at, byte, clock, clock_from, close, closed, coloured, cond, count, event, false, fields_of}
use Rattle.constraint.proofs.Names.{first_coloured, kind, kinds, last_count, last_kind, last_time, length, more, own, questions, refl}
use Rattle.constraint.proofs.Names.{row_questions, span, stop, sym, tick, time, times, true, type_of, ℕ}
use Rattle.constraint.proofs.History.{clock_append, clock_event, closed_event, own_append, times_append, times_other}
use Rattle.constraint.proofs.Lists.{Each, both, each_cons, each_none, split}
use Rattle.constraint.proofs.Streams.{among_where, streams, streams_in}
use Rattle.constraint.proofs.{Continuations.meets_same, Judged.put_in, Judged.skipped}

-- ---- questions

-- the questions of a row before there were colours; a row whose kinds suit its type is answered as it was
abbrev pub row_questions_before : Constraint → List Question
row_questions_before c = (5, KindsFit (kinds c)) ∷ (6, InRange c) ∷ (7, LowerFirst c) ∷ []

-- §8.18
pub row_as_before : (c : Constraint) → KindsSuit c → (a : Answer) → Judged (row_questions c) a ↔ Judged (row_questions_before c) a
row_as_before c suit a =
    let first : List Question = (5, KindsFit (kinds c)) ∷ [] in
    let later : List Question = (6, InRange c) ∷ (7, LowerFirst c) ∷ [] in
    (skipped first later 18 (KindsSuit c) suit a, put_in first later 18 (KindsSuit c) suit a)

-- the questions of an event without those of colours; one of a plain kind is answered as it was
abbrev pub event_questions_before : List Constraint → List Step → ℕ → ℕ → List Question
event_questions_before rows steps k t =
    (8, closed steps ≡ false) ∷ (24, length steps < last_count) ∷ (9, k ≤ last_kind) ∷ (10, t ≤ last_time) ∷ (11, EventInOrder steps k t)
    ∷ (12, Room rows (steps ++ (event k t ∷ []))) ∷ []

-- §8.19
pub event_as_before : (rows : List Constraint) (steps : List Step) (k t : ℕ) → k < first_coloured → (a : Answer)
    → Judged (questions rows steps (Call.Event k t)) a ↔ Judged (event_questions_before rows steps k t) a
unfolding questions
event_as_before rows steps k t plain a =
    let first : List Question = (8, closed steps ≡ false) ∷ (24, length steps < last_count) ∷ (9, k ≤ last_kind) ∷ [] in
    let later : List Question = (10, t ≤ last_time) ∷ (11, EventInOrder steps k t) ∷ (12, Room rows (steps ++ (event k t ∷ []))) ∷ [] in
    (skipped first later 19 (k < first_coloured) plain a, put_in first later 19 (k < first_coloured) plain a)

-- ---- verdicts

-- continuations before there were colours, and when a row was open
pub data ContinuesBefore : List Step → List Step → Type 0 where
  stop_before : {steps : List Step} → ContinuesBefore steps []
  more_before : {steps further : List Step} (k t : ℕ) → closed steps ≡ false → k ≤ last_kind → EventInOrder steps k t
      → ContinuesBefore (steps ++ (event k t ∷ [])) further → ContinuesBefore steps (event k t ∷ further)

abbrev pub OpenBefore : Constraint → List Step → Type 0
OpenBefore c steps = (further : List Step) × ContinuesBefore steps further × Meets c (steps ++ further)

-- such a continuation is one still
continues_still : {steps further : List Step} → ContinuesBefore steps further → Continues steps further
continues_still stop_before = stop
continues_still (more_before k t o small order rest) = more k t o (omega arith) order (continues_still rest)

-- the events of some streams alone
thin : List ℕ → List Step → List Step
thin ks [] = []
thin ks (event k t ∷ steps) = cond (among k ks) (event k t ∷ thin ks steps) (thin ks steps)
thin ks (tick t ∷ steps) = thin ks steps
thin ks (close ∷ steps) = thin ks steps

own_thin : (ks : List ℕ) (steps : List Step) → own ks (thin ks steps) ≡ own ks steps
unfolding own thin
own_thin ks [] = refl
own_thin ks (event k t ∷ steps) =
    split (among k ks) (λ x. among k ks ≡ x → own ks (cond x (event k t ∷ thin ks steps) (thin ks steps))
    ≡ cond x ((k, t) ∷ own ks steps) (own ks steps))
    (λ e f. rw f (ap (λ (l : List (ℕ × ℕ)). (k, t) ∷ l) (own_thin ks steps))) (λ e f. own_thin ks steps) refl
own_thin ks (tick t ∷ steps) = own_thin ks steps
own_thin ks (close ∷ steps) = own_thin ks steps

-- without the others they still continue, and the clock is no later after them
module _ (ks : List ℕ) (small : Each (λ k. k ≤ last_kind) ks) where
  -- the events that are left follow b, and the clock after them is no later than that after all of them
  abbrev Left : List Step → ℕ → List Step → List Step → Type 0
  Left b now further left = ContinuesBefore b left × (clock_from (clock b) left ≤ clock_from now further)

  continues_thin : {a further : List Step} → Continues a further → (b : List Step) → closed b ≡ closed a
      → ((k : ℕ) → among k ks ≡ true → times k a ≡ times k b) → clock b ≤ clock a → Left b (clock a) further (thin ks further)
  unfolding thin clock_from
  continues_thin stop b o same before = (stop_before, before)
  continues_thin (more {steps = a} {further = further} k t open-a stream order rest) b o same before =
      split (among k ks) (λ x. among k ks ≡ x → Left b t further (cond x (event k t ∷ thin ks further) (thin ks further)))
      (λ e f. let here = among_where k ks f in
      let later = continues_thin rest (b ++ (event k t ∷ [])) (closed_event k t b ∙ o ∙ sym (closed_event k t a))
      (λ j own_j. times_append j a (event k t ∷ []) ∙ rw (same j own_j) (sym (times_append j b (event k t ∷ []))))
      (rw (clock_event k t b, clock_event k t a) (omega arith)) in (
        more_before k t (o ∙ open-a) (omega (arith, small here.0 here.1, here.2)) (omega (arith, order.0), rw (← same k f) order.1)
            later.0,
        rw (clock_event k t b, clock_event k t a) at later.1,
      ))
      (λ e f. let later = continues_thin rest b (o ∙ sym (closed_event k t a))
      (λ j own_j. times_other j k t a (λ is. both (sym own_j ∙ ap (λ (i : ℕ). among i ks) (sym is) ∙ f)) ∙ same j own_j)
      (rw (clock_event k t a) (omega (arith, order.0))) in
      (later.0, rw (clock_event k t a) at later.1))
      refl

-- no field is a coloured kind
abbrev pub Uncoloured : List Field → Type 0
Uncoloured [] = Unit {0}
Uncoloured (byte kind x ∷ fields) = Uncoloured fields
Uncoloured (byte coloured x ∷ fields) = ⊥
Uncoloured (byte count x ∷ fields) = Uncoloured fields
Uncoloured (byte (span limit) x ∷ fields) = Uncoloured fields
Uncoloured (time role x ∷ fields) = Uncoloured fields

-- the streams of fields of which none is coloured are plain kinds
plain_streams : (fields : List Field) → EachField KindClassFits fields → Uncoloured fields → Each (λ k. k ≤ last_kind) (streams_in fields)
plain_streams [] suit plain = each_none (λ k. k ≤ last_kind)
plain_streams (byte kind x ∷ fields) suit plain =
    each_cons (λ k. k ≤ last_kind) x (streams_in fields) (omega (arith, suit.0)) (plain_streams fields suit.1 plain)
plain_streams (byte coloured x ∷ fields) suit plain = absurd plain
plain_streams (byte count x ∷ fields) suit plain = plain_streams fields suit.1 plain
plain_streams (byte (span limit) x ∷ fields) suit plain = plain_streams fields suit.1 plain
plain_streams (time role x ∷ fields) suit plain = plain_streams fields suit.1 plain

-- §2.4: a row without a coloured field is open just where it was; and its verdict is read off that alone (§2.4, §2.5, §2.6)
pub open_as_before : (c : Constraint) → KindsSuit c → Uncoloured (fields_of c) → (steps : List Step) → Open c steps ↔ OpenBefore c steps
unfolding KindsSuit
open_as_before c suit plain steps = (
  λ (further, follows, meets).
      let ks = streams c in
      let small = plain_streams (fields_of c) suit plain in
      let left = continues_thin ks small follows steps refl (λ k e. refl) (omega arith) in (
        thin ks further,
        left.0,
        meets_same c (steps ++ further) (steps ++ thin ks further)
            (own_append ks steps further ∙ sym (own_append ks steps (thin ks further)
            ∙ ap (λ (l : List (ℕ × ℕ)). own ks steps ++ l) (own_thin ks further)))
            (rw (clock_append 0 steps further, clock_append 0 steps (thin ks further)) left.1) meets,
      ),
  λ (further, follows, meets). (further, continues_still follows, meets),
)

-- the kinds of a list without colours
plain_fields : (ks : List ℕ) (later : List Field) → Uncoloured later → Uncoloured (kind_fields kind ks ++ later)
plain_fields [] later h = h
plain_fields (k ∷ ks) later h = plain_fields ks later h

-- §16.2: every row of the first edition but a Reaction has no coloured field
pub first_edition_plain : (c : Constraint) → type_of c ≤ last_type 1 → ¬ (type_of c ≡ 9) → Uncoloured (fields_of c)
first_edition_plain (Delay a b x y) first other = tt
first_edition_plain (StrongDelay a b x y) first other = tt
first_edition_plain (Repeat a b x y) first other = tt
first_edition_plain (Sporadic a x y z w) first other = tt
first_edition_plain (Burst a b x y) first other = tt
first_edition_plain (Order a b) first other = tt
first_edition_plain (StrongSynchronization ks x) first other = plain_fields ks (time (neither tolerance) x ∷ []) tt
first_edition_plain (ExecutionTime a b c d x y) first other = tt
first_edition_plain (Reaction a b x y) first other = absurd (other refl)
first_edition_plain (Repetition a b x y z) first other = tt
first_edition_plain (Synchronization ks x) first other = plain_fields ks (time (neither tolerance) x ∷ []) tt
first_edition_plain (Age a b x y) first other = absurd (omega (arith, first))
first_edition_plain (OutputSynchronization a ks x) first other = absurd (omega (arith, first))
first_edition_plain (InputSynchronization ks a x) first other = absurd (omega (arith, first))
first_edition_plain (Pattern a x y z xs) first other = absurd (omega (arith, first))
first_edition_plain (Arbitrary a ps) first other = absurd (omega (arith, first))
first_edition_plain (Comparison a x y) first other = tt
