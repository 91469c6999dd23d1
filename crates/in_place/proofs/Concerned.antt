-- A step of a row is what the clock and the close do to it, and then what an event does that concerns it: a row that is not concerned is changed
-- by the first part alone, and one that is applies the event, as it has room and is broken or in time.
use Rattle.in_place.proofs.Names.{RowUndo, Bool, StepInput, Row, Parameters, ◌<◌, ◌∙◌, ◌≡◌, ◌⊎◌, ap, undo_of_event, applied_row, arith, both}
use Rattle.in_place.proofs.Names.{State, broken_row}
use Rattle.in_place.proofs.Names.{broken_state, concerns, cond, crowds, ended_row, ended_saves, ended_state, ends_by, eq-eqb, eqb, event_row}
use Rattle.in_place.proofs.Names.{event_saves}
use Rattle.in_place.proofs.Names.{false, inl, inr, lt-ltb, ltb, ltb-false, ltb-true, moves_by, ne_eqb, refl, row_from, row_step, parameters_stays}
use Rattle.in_place.proofs.Names.{saved_applied, saved_ended, saved_at, saved_by, saved_row, split, step_applied, step_crowds, step_ended, still}
use Rattle.in_place.proofs.Names.{subst, sym, true, ℕ, ⊎_elim}

-- ---- what a step makes of a row

-- a broken row is left as it is
broken_stays : (r : Row) (o : StepInput) (number : ℕ) → ltb 0 r.now.broken ≡ true → (row_step r o number).row ≡ r
unfolding row_step
broken_stays r o number e = rw e

broken_unsaved : (r : Row) (o : StepInput) (number : ℕ) (b : RowUndo) → ltb 0 r.now.broken ≡ true → saved_by o number r b ≡ b
unfolding saved_by moves_by
broken_unsaved r o number b e = rw e

is_broken : (r : Row) (t : ℕ) (closes : Bool) (number : ℕ) → 0 < number → ltb 0 (broken_row r t closes number).now.broken ≡ true
unfolding broken_row
is_broken r t closes number h = lt-ltb 0 number h

-- one that is not concerned moves where the clock or the close goes to it
same_tests : (broken late closes : Bool) → cond broken false (cond late true (cond closes true false))
    ≡ cond broken false (cond late true (cond closes (cond false false true) false))
same_tests true late closes = refl
same_tests false true closes = refl
same_tests false false true = refl
same_tests false false false = refl

pub unconcerned : (r : Row) (o : StepInput) → concerns r.parameters o.kind ≡ false
    → moves_by r.parameters r.now o ≡ ends_by r.parameters r.now o
unfolding moves_by ends_by
unconcerned r o e = rw e (same_tests (ltb 0 r.now.broken) (ltb r.now.due o.time) o.closes)

-- they go to none that is in time while the recording is open
no_ends_by : (broken : Bool) → cond broken false false ≡ false
no_ends_by true = refl
no_ends_by false = refl

pub no_ends : (r : Row) (o : StepInput) → o.closes ≡ false → ltb r.now.due o.time ≡ false → ends_by r.parameters r.now o ≡ false
unfolding ends_by
no_ends r o not_closed in_time = rw (in_time, not_closed) (no_ends_by (ltb 0 r.now.broken))

-- one that is not broken is in time where they do not
in_time_by : (broken late closes own : Bool) → broken ≡ false → cond broken false (cond late true (cond closes (cond own false true) false)) ≡ false
    → late ≡ false
in_time_by true late closes own b e = both b
in_time_by false true closes own b e = both e
in_time_by false false closes own b e = refl

open_in_time : (r : Row) (o : StepInput) → ltb 0 r.now.broken ≡ false → ends_by r.parameters r.now o ≡ false → ltb r.now.due o.time
    ≡ false
unfolding ends_by
open_in_time r o unbroken e = in_time_by (ltb 0 r.now.broken) (ltb r.now.due o.time) o.closes (concerns r.parameters o.kind)
    unbroken e

-- one that is concerned is overdue where they do
overdue_by : (broken late closes own : Bool) → own ≡ true → cond broken false (cond late true (cond closes (cond own false true) false)) ≡ true
    → late ≡ true
overdue_by true late closes own c e = both (sym e)
overdue_by false true closes own c e = refl
overdue_by false false true true c e = both (sym e)
overdue_by false false true false c e = both (sym c)
overdue_by false false false own c e = both (sym e)

overdue : (r : Row) (o : StepInput) → concerns r.parameters o.kind ≡ true → ends_by r.parameters r.now o ≡ true
    → ltb r.now.due o.time ≡ true
unfolding ends_by
overdue r o concerned e = overdue_by (ltb 0 r.now.broken) (ltb r.now.due o.time) o.closes (concerns r.parameters o.kind) concerned
    e

-- one that is not broken has no step that broke it
not_zero : (n : ℕ) → ltb 0 n ≡ true → eqb n 0 ≡ false
not_zero n e = ne_eqb n 0 (λ z. omega (arith, z, ltb-true 0 n e))

is_zero : (n : ℕ) → ltb 0 n ≡ false → eqb n 0 ≡ true
is_zero n e = eq-eqb n 0 (omega (arith, ltb-false 0 n e))

-- ---- a step, and the part of it that the clock and the close do
module _ (o : StepInput) (number : ℕ) where
  abbrev pub moved : Row → Row
  moved r = (row_step r o number).row

  abbrev pub ends : Row → Bool
  ends r = ends_by r.parameters r.now o

  abbrev pub late : Row → Row
  late r = cond (ends r) (moved r) r

  abbrev pub saves : Row → RowUndo → RowUndo
  saves r b = saved_by o number r b

  abbrev pub late_saves : Row → RowUndo → RowUndo
  late_saves r b = cond (ends r) (saves r b) b

  -- that part, as it is done
  pub ended_late : (r : Row) → ended_row o number r ≡ late r
  ended_late r =
      split (ends r) (λ b. ends r ≡ b → cond b (row_from r.parameters r.times (ended_state r.now o number)) r ≡ cond b (moved r) r)
      (λ _ e. sym (step_ended r o number e)) (λ _ e. refl) refl

  pub saved_late : (r : Row) (b : RowUndo) → ended_saves o number r b ≡ late_saves r b
  saved_late r b =
      split (ends r) (λ z. ends r ≡ z → cond z (saved_at r 0 number) b ≡ cond z (saves r b) b) (λ _ e. sym (saved_ended r o number b e))
      (λ _ e. refl) refl

  -- the row is broken by it, or left as it is
  abbrev broken_state_lem : Row → State
  broken_state_lem r = broken_state r.now o.time o.closes number

  by_state : (r : Row) (a b : Bool) → row_from r.parameters r.times (cond a (broken_state_lem r) (cond b (broken_state_lem r) r.now))
      ≡ broken_row r o.time o.closes number
      ⊎ row_from r.parameters r.times (cond a (broken_state_lem r) (cond b (broken_state_lem r) r.now)) ≡ r
  unfolding broken_row
  by_state r true b = inl refl
  by_state r false true = inl refl
  by_state r false false = inr refl

  either_way : (r : Row) → ends r ≡ true → (moved r ≡ broken_row r o.time o.closes number) ⊎ (moved r ≡ r)
  unfolding ended_state
  either_way r e =
      ⊎_elim (λ broken. inl (step_ended r o number e ∙ broken)) (λ same. inr (step_ended r o number e ∙ same))
      (by_state r (ltb r.now.due o.time) (eqb r.now.kept 0))

  once : (r : Row) → 0 < number → ends r ≡ true → moved (moved r) ≡ moved r
  once r h e =
      ⊎_elim
      (λ broken. ap moved broken ∙ broken_stays (broken_row r o.time o.closes number) o number (is_broken r o.time o.closes number h)
      ∙ sym broken) (λ same. ap moved same)
      (either_way r e)

  saves_twice : (r : Row) (b : RowUndo) → saves r (saves r b) ≡ saves r b
  unfolding saved_by
  saves_twice r b =
      split (moves_by r.parameters r.now o) (λ z. cond z (saved_row r o number) (cond z (saved_row r o number) b) ≡ cond z (saved_row r o number) b)
      (λ _. refl) (λ _. refl)

  saves_once : (r : Row) (b : RowUndo) → 0 < number → ends r ≡ true → saves (moved r) (saves r b) ≡ saves r b
  saves_once r b h e =
      ⊎_elim (λ broken. ap (λ (x : Row). saves x (saves r b)) broken
      ∙ broken_unsaved (broken_row r o.time o.closes number) o number (saves r b) (is_broken r o.time o.closes number h))
      (λ same. ap (λ (x : Row). saves x (saves r b)) same ∙ saves_twice r b) (either_way r e)

  -- to do that part beforehand makes no difference
  pub late_first : 0 < number → (r : Row) → moved (late r) ≡ moved r
  late_first h r = split (ends r) (λ b. ends r ≡ b → moved (cond b (moved r) r) ≡ moved r) (λ _ e. once r h e) (λ _ e. refl) refl

  pub late_saves_first : 0 < number → (r : Row) (b : RowUndo) → saves (late r) (late_saves r b) ≡ saves r b
  late_saves_first h r b =
      split (ends r) (λ z. ends r ≡ z → saves (cond z (moved r) r) (cond z (saves r b) b) ≡ saves r b) (λ _ e. saves_once r b h e) (λ _ e. refl) refl

  -- then a row that is not concerned is left as it is
  pub late_still : 0 < number → (r : Row) → concerns r.parameters o.kind ≡ false → moved (late r) ≡ late r
  late_still h r out =
      split (ends r) (λ b. ends r ≡ b → moved (cond b (moved r) r) ≡ cond b (moved r) r) (λ _ e. once r h e)
      (λ _ e. still r o number (unconcerned r o out ∙ e)) refl

  pub unsaved : (r : Row) (b : RowUndo) → moves_by r.parameters r.now o ≡ false → saves r b ≡ b
  unfolding saved_by
  unsaved r b e = rw e

  pub late_unsaved : 0 < number → (r : Row) (b : RowUndo) → concerns r.parameters o.kind ≡ false
      → saves (late r) (late_saves r b) ≡ late_saves r b
  late_unsaved h r b out =
      split (ends r) (λ z. ends r ≡ z → saves (cond z (moved r) r) (cond z (saves r b) b) ≡ cond z (saves r b) b) (λ _ e. saves_once r b h e)
      (λ _ e. unsaved r b (unconcerned r o out ∙ e)) refl

  -- ---- a row that applies the event

  -- what it applies is its step, where it is concerned and has room, and is broken or in time
  pub applied_moved : (r : Row) → concerns r.parameters o.kind ≡ true
      → (ltb 0 r.now.broken ≡ false → (ltb r.now.due o.time ≡ false) × (crowds o r ≡ false))
      → (event_row o number r ≡ moved r) × ((b : RowUndo) → event_saves o number r b ≡ saves r b)
  applied_moved r concerned when-open =
      split (ltb 0 r.now.broken)
      (λ z. ltb 0 r.now.broken ≡ z → (event_row o number r ≡ moved r) × ((b : RowUndo) → event_saves o number r b ≡ saves r b))
      (λ _ e. (
        ap (λ (z : Bool). cond z (applied_row r o number) r) (not_zero r.now.broken e) ∙ sym (broken_stays r o number e),
        λ b. ap (λ (z : Bool). cond z (undo_of_event r o number) b) (not_zero r.now.broken e) ∙ sym (broken_unsaved r o number b e),
      ))
      (λ _ e.
      let so = when-open e in (
        ap (λ (z : Bool). cond z (applied_row r o number) r) (is_zero r.now.broken e)
            ∙ sym (step_applied r o number e so.0 concerned (step_crowds r o number ∙ so.1)),
        λ b. ap (λ (z : Bool). cond z (undo_of_event r o number) b) (is_zero r.now.broken e)
            ∙ sym (saved_applied r o number e so.0 concerned b),
      )) refl

  now_broken : (r : Row) → 0 < number → concerns r.parameters o.kind ≡ true → ends r ≡ true → ltb 0 (moved r).now.broken ≡ true
  unfolding ended_state broken_row
  now_broken r h concerned e =
      subst (λ (x : Row). ltb 0 x.now.broken ≡ true)
      (sym (step_ended r o number e ∙ ap (λ (z : Bool). row_from r.parameters r.times
      (cond z (broken_state_lem r) (cond (eqb r.now.kept 0) (broken_state_lem r) r.now))) (overdue r o concerned e)))
      (lt-ltb 0 number h)

  -- so too after that part
  pub applied_late : 0 < number → (r : Row) → concerns r.parameters o.kind ≡ true → crowds o r ≡ false
      → (event_row o number (late r) ≡ moved (late r)) × ((b : RowUndo) → event_saves o number (late r) b ≡ saves (late r) b)
  applied_late h r concerned hint =
      split (ends r) (λ z. ends r ≡ z → (event_row o number (cond z (moved r) r) ≡ moved (cond z (moved r) r))
      × ((b : RowUndo) → event_saves o number (cond z (moved r) r) b ≡ saves (cond z (moved r) r) b))
      (λ _ e. applied_moved (moved r) (ap (λ (parameters : Parameters). concerns parameters o.kind) (parameters_stays r o number) ∙ concerned)
      (λ unbroken. both (sym (now_broken r h concerned e) ∙ unbroken)))
      (λ _ e. applied_moved r concerned (λ unbroken. (open_in_time r o unbroken e, hint))) refl

-- one that is not concerned is not crowded
calm_by : (a b : Bool) → cond a false (cond b false false) ≡ false
calm_by true b = refl
calm_by false true = refl
calm_by false false = refl

pub calm : (r : Row) (o : StepInput) → concerns r.parameters o.kind ≡ false → crowds o r ≡ false
calm r o e = rw e (calm_by (ltb 0 r.now.broken) (ltb r.now.due o.time))
