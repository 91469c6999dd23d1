-- What a row that fits the steps says of them. Until its due time a tick leaves it as it is, so that it is open, and a tick past it leaves no
-- continuation; of the times that it keeps all wait or none; and it is broken where no continuation is left.
use Rattle.queries.proofs.Names.{Bool, Broken, Constraint, Deadline, DeadlineWhileOpen, Exact, Fits, Going, List, Open, Past, Row, RowDeadline}
use Rattle.queries.proofs.Names.{RowWaiting, Parameters, State, Step, Valid, Waits, [], ◌++◌, ◌+◌, ◌<◌, ◌∙◌, ◌∷◌, ◌≡◌, ◌≤◌, ◌⊎◌, ap, arith}
use Rattle.queries.proofs.Names.{both}
use Rattle.queries.proofs.Names.{broken_shut, by_cases, clock, clock_tick, closed, closed_tick, cond, deadline_by, dec_lt, endless, false}
use Rattle.queries.proofs.Names.{get_elem?, inl, inr, last_time, le-ltb, lt-ltb, ltb, ltb-false, ltb-true, never, no_row_lem, no_limit, open_of_meets}
use Rattle.queries.proofs.Names.{open_row, other_row, over, own, own_tick, past_of, past_tick, refl, ring_length, row, parameters_of, running}
use Rattle.queries.proofs.Names.{some}
use Rattle.queries.proofs.Names.{split, streams, subst, sym, tick, true, until, waiting, waiting_by, waits_in, ℕ, ⊎_elim}
use Rattle.constraint.proofs.Library.{eqb}
use Rattle.queries.specs.Contract.{RowCause, broken_row, unbroken_row}
use Rattle.queries.specs.Numbers.{cause_in, moment_in}
use Rattle.row.specs.Cause.{Cause, at_close, by_event, overdue}

-- of n times, all or none
waits_are : (b : Bool) (waiting n : ℕ) → Waits b waiting n → waiting ≡ cond b n 0
waits_are true waiting n w = w
waits_are false waiting n w = w.0

module _ (c : Constraint) (exact : Exact c) (steps : List Step) (valid : Valid steps) where
  module _ (words : List ℕ) (s : State) (g : Going c exact steps words s) where
    -- the clock before or at a time, and the due time not before it
    open_until : (later : List Step) → Past later → closed later ≡ false → own (streams c) steps ≡ own (streams c) later → clock later ≤ s.due
        → Open c later
    open_until later past o same soon = exact.is_open past o (exact.same same g.live) (subst (λ (n : ℕ). clock later ≤ n) g.due_is soon)

    pub open_now : closed steps ≡ false → Open c steps
    open_now o = open_until steps (past_of valid) o refl g.in_time

    open_tick : closed steps ≡ false → (t : ℕ) → clock steps < t → t ≤ last_time → t ≤ s.due → Open c (steps ++ (tick t ∷ []))
    open_tick o t later small soon =
        open_until (steps ++ (tick t ∷ [])) (past_tick t steps (past_of valid) small later) (closed_tick t steps ∙ o)
        (sym (own_tick (streams c) t steps)) (rw (clock_tick t steps) soon)

    shut_tick : (t : ℕ) → t ≤ last_time → s.due < t → ¬ Open c (steps ++ (tick t ∷ []))
    shut_tick t small passed = exact.late (past_of valid) g.live (subst (λ (n : ℕ). n < t) g.due_is passed) small

    going_deadline : closed steps ≡ false → DeadlineWhileOpen c steps (cond (ltb s.due last_time) s.due no_limit)
    going_deadline o =
        split (ltb s.due last_time) (λ b. DeadlineWhileOpen c steps (cond b s.due no_limit))
        (λ e. until s.due g.in_time (ltb-true s.due last_time e) (λ t later small. (
          λ is_open. by_cases (dec_lt s.due t) (λ passed. absurd (shut_tick t small passed is_open)) (λ soon. omega (arith, soon)),
          open_tick o t later small,
        )))
        (λ e. endless (λ t later small. open_tick o t later small (omega (arith, ltb-false s.due last_time e))))

  module _ (r : Row) (f : Fits c exact steps r) where
    -- by whether the recording is closed and the row broken
    pub by_state : (P : ℕ → Type 0) (shut none value : ℕ) → ltb 0 shut ≡ closed steps → ((closed steps ≡ true) ⊎ (¬ Open c steps) → P none)
        → (closed steps ≡ false → Going c exact steps r.times r.now → P value)
        → P (cond (ltb 0 shut) none (cond (ltb 0 r.now.broken) none value))
    by_state P shut none value is ends goes =
        rw is (split (closed steps) (λ b. P (cond b none (cond (ltb 0 r.now.broken) none value)))
        (λ e. ends (inl e))
        (λ o. ⊎_elim
        (λ (g : Going c exact steps r.times r.now). rw (le-ltb 0 r.now.broken (omega (arith, g.unbroken))) (goes o g))
        (λ (b : Broken c exact steps r.now). rw (lt-ltb 0 r.now.broken b.counted)
        (ends (inr (broken_shut c r.now.broken valid b.first))))
        f.state))

    -- §15.6, §15.7
    pub fits_deadline : (shut : ℕ) → ltb 0 shut ≡ closed steps → Deadline c steps (deadline_by shut r.now.broken r.now.due)
    fits_deadline shut is =
        by_state (Deadline c steps) shut no_limit _ is over
        (λ o g. running o (open_now r.times r.now g o) (going_deadline r.times r.now g o))

    pub going_waits : Going c exact steps r.times r.now → waiting c steps ≡ cond (waits_in r.parameters.tag) r.now.len 0
    going_waits g =
        waits_are (waits_in (parameters_of c).tag) (waiting c steps) _ (exact.waits (past_of valid) g.live)
        ∙ ap (λ (n : ℕ). cond (waits_in (parameters_of c).tag) n 0) (ring_length r.times r.now.head r.now.len)
        ∙ ap (λ (x : Parameters). cond (waits_in x.tag) r.now.len 0) (sym f.parameters_is)

    -- §15.5
    pub fits_waiting : (rows : List Constraint) (i : ℕ) → get_elem? rows i ≡ some c → (shut : ℕ) → ltb 0 shut ≡ closed steps
        → RowWaiting rows steps i (waiting_by shut r.now.broken r.parameters.tag r.now.len)
    fits_waiting rows i there shut is =
        by_state (RowWaiting rows steps i) shut 0 _ is (other_row c there)
        (λ o g. subst (RowWaiting rows steps i) (going_waits g) (open_row c there o (open_now r.times r.now g o)))

    pub fits_broken : cond (ltb 0 r.now.broken) (¬ Open c steps) (Open c steps)
    fits_broken =
        ⊎_elim
        (λ (g : Going c exact steps r.times r.now).
        rw (le-ltb 0 r.now.broken (omega (arith, g.unbroken)))
        (split (closed steps) (λ b. closed steps ≡ b → Open c steps) (λ _ e. open_of_meets c steps (g.met e))
        (λ _ o. open_now r.times r.now g o) refl))
        (λ (b : Broken c exact steps r.now). rw (lt-ltb 0 r.now.broken b.counted)
        (broken_shut c r.now.broken valid b.first))
        f.state

-- ---- why a row broke

-- the cause is one of three
cause_known : {c : Constraint} {steps : List Step} {n cause moment : ℕ} → Cause c steps n cause moment
    → cond (eqb cause 1) 1 (cond (eqb cause 2) 2 3) ≡ cause
cause_known (overdue before s d at lower upper each) = refl
cause_known (by_event before k t at own is) = refl
cause_known (at_close before at) = refl

-- §15.14, §15.15
pub fits_cause : (c : Constraint) (exact : Exact c) (steps : List Step) → Valid steps → (r : Row) → Fits c exact steps r
    → (rows : List Constraint) (i : ℕ) → get_elem? rows i ≡ some c
    → RowCause rows steps i (cause_in r.now.broken r.now.head) (moment_in r.now.broken r.now.kept)
fits_cause c exact steps valid r f rows i there =
    ⊎_elim
    (λ (g : Going c exact steps r.times r.now).
    let none = le-ltb 0 r.now.broken (omega (arith, g.unbroken)) in
    let shown : cond (ltb 0 r.now.broken) (¬ Open c steps) (Open c steps) = fits_broken c exact steps valid r f in
    let is_open : Open c steps = rw none at shown in
    rw none (unbroken_row c there is_open))
    (λ (b : Broken c exact steps r.now).
    rw (lt-ltb 0 r.now.broken b.counted, cause_known b.why) (broken_row c r.now.broken there b.first b.why))
    f.state

-- ---- a deadline is one number

module _ {c : Constraint} {steps : List Step} where
  while_open_once : (d e : ℕ) → DeadlineWhileOpen c steps d → DeadlineWhileOpen c steps e → d ≡ e
  while_open_once d e (until _ after before each) (until _ after' before' each') =
      by_cases (dec_lt d e)
      (λ h. absurd (omega (arith, (each (d + 1) (omega arith) (omega arith)).0 ((each' (d + 1) (omega arith) (omega arith)).1 (omega arith)))))
      (λ h. by_cases (dec_lt e d)
      (λ g. absurd (omega (arith, (each' (e + 1) (omega arith) (omega arith)).0 ((each (e + 1) (omega arith) (omega arith)).1 (omega arith)))))
      (λ g. omega (arith, h, g)))
  while_open_once d e (until _ after before each) (endless each') =
      absurd (omega (arith, (each (d + 1) (omega arith) (omega arith)).0 (each' (d + 1) (omega arith) (omega arith))))
  while_open_once d e (endless each) (until _ after before each') =
      absurd (omega (arith, (each' (e + 1) (omega arith) (omega arith)).0 (each (e + 1) (omega arith) (omega arith))))
  while_open_once d e (endless each) (endless each') = refl

  -- §15.6, §15.7: a row has one deadline
  pub deadline_once : (d e : ℕ) → Deadline c steps d → Deadline c steps e → d ≡ e
  deadline_once d e (running o is w) (running o' is' w') = while_open_once d e w w'
  deadline_once d e (running o is w) (over (inl shut)) = both (sym shut ∙ o)
  deadline_once d e (running o is w) (over (inr broken)) = absurd (broken is)
  deadline_once d e (over (inl shut)) (running o is w) = both (sym shut ∙ o)
  deadline_once d e (over (inr broken)) (running o is w) = absurd (broken is)
  deadline_once d e (over x) (over y) = refl

pub row_deadline_once : (rows : List Constraint) (steps : List Step) (i d e : ℕ) → RowDeadline rows steps i d → RowDeadline rows steps i e → d ≡ e
row_deadline_once rows steps i d e (row c is x) (row c' is' y) =
    let same : c ≡ c' = cc in deadline_once d e (subst (λ (z : Constraint). Deadline z steps d) same x) y
row_deadline_once rows steps i d e (row c is x) (no_row_lem none) = never (cc)
row_deadline_once rows steps i d e (no_row_lem none) (row c is x) = never (cc)
row_deadline_once rows steps i d e (no_row_lem none) (no_row_lem none') = refl
