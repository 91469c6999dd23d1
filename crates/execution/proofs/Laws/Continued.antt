-- Continuations seen by the row's own events in order: further events of its kinds, at strictly rising times from the clock on, can all be taken,
-- and the first one of every continuation is not before the clock.
use Rattle.constraint.proofs.Library.{List, [], ◌++◌, ◌+◌, ◌<◌, ◌∙◌, ◌∷◌, ◌≡◌, ◌≤◌, ap, append_assoc, arith, cond, eqb, false, refl, true, ℕ}
use Rattle.constraint.proofs.Lists.{Each, each_cons, each_none, split}
use Rattle.constraint.proofs.{Continuations.own_times, Continuations.times_in, History.clock_event, History.closed_event, History.own_append}
use Rattle.constraint.specs.Steps.{Step, among, clock, closed, event, own}
use Rattle.constraint.specs.{Continuation.Continues, Continuation.more, Continuation.stop, Limits.stream_count}
use Rattle.execution.proofs.Laws.Executions.{RisesFrom}

-- an event of one of the kinds is the last of them
pub own_event : (ks : List ℕ) (k t : ℕ) (steps : List Step) → among k ks ≡ true → own ks (steps ++ (event k t ∷ [])) ≡ own ks steps ++ ((k, t) ∷ [])
unfolding own
own_event ks k t steps is = own_append ks steps (event k t ∷ []) ∙ rw is

-- ---- what follows is not before the clock

-- the first event is not before that time
abbrev pub FirstFrom : ℕ → List (ℕ × ℕ) → Type 0
FirstFrom now [] = Unit {0}
FirstFrom now (e ∷ es) = now ≤ e.1

first_earlier : (now later : ℕ) (es : List (ℕ × ℕ)) → now ≤ later → FirstFrom later es → FirstFrom now es
first_earlier now later [] h first = tt
first_earlier now later (e ∷ es) h first = omega arith

pub own_late : (ks : List ℕ) {steps further : List Step} → Continues steps further → FirstFrom (clock steps) (own ks further)
unfolding own
own_late ks stop = tt
own_late ks (more {steps = steps} {further = further} k t o kind order rest) =
    split (among k ks) (λ x. FirstFrom (clock steps) (cond x ((k, t) ∷ own ks further) (own ks further)))
    (λ e. order.0)
    (λ e. first_earlier (clock steps) t (own ks further) order.0 (rw (clock_event k t steps) at (own_late ks rest)))

-- ---- events that can be taken

-- in rising events the last one is after those before it, and before those behind it
rises_from : (free : ℕ) (past : List (ℕ × ℕ)) (e : ℕ × ℕ) (es : List (ℕ × ℕ)) → RisesFrom free (past ++ e ∷ es) → free ≤ e.1
rises_from free [] e es r = r.0
rises_from free (p ∷ past) e es r = omega (arith, r.0, rises_from (p.1 + 1) past e es r.1)

rises_after : (free : ℕ) (past : List (ℕ × ℕ)) (e : ℕ × ℕ) (es : List (ℕ × ℕ)) → RisesFrom free (past ++ e ∷ es) → RisesFrom (e.1 + 1) es
rises_after free [] e es r = r.1
rises_after free (p ∷ past) e es r = rises_after (p.1 + 1) past e es r.1

rises_before : (k free : ℕ) (past : List (ℕ × ℕ)) (e : ℕ × ℕ) (es : List (ℕ × ℕ)) → RisesFrom free (past ++ e ∷ es)
    → Each (λ s. s < e.1) (times_in k past)
unfolding times_in
rises_before k free [] e es r = each_none (λ s. s < e.1)
rises_before k free (p ∷ past) e es r =
    let later : Each (λ s. s < e.1) (times_in k past) = rises_before k (p.1 + 1) past e es r.1 in
    split (eqb p.0 k) (λ x. Each (λ s. s < e.1) (cond x (p.1 ∷ times_in k past) (times_in k past)))
    (λ same. each_cons (λ s. s < e.1) p.1 (times_in k past) (omega (arith, rises_from (p.1 + 1) past e es r.1)) later)
    (λ other. later)

first_after : (t : ℕ) (es : List (ℕ × ℕ)) → RisesFrom (t + 1) es → FirstFrom t es
first_after t [] r = tt
first_after t (e ∷ es) r = omega (arith, r.0)

-- the events as steps, and that each is of one of the kinds
abbrev pub steps_for : List (ℕ × ℕ) → List Step
steps_for [] = []
steps_for (e ∷ es) = event e.0 e.1 ∷ steps_for es

abbrev pub OfKinds : List ℕ → List (ℕ × ℕ) → Type 0
OfKinds ks [] = Unit {0}
OfKinds ks (e ∷ es) = ((e.0 < stream_count) × (among e.0 ks ≡ true)) × OfKinds ks es

pub own_steps : (ks : List ℕ) (es : List (ℕ × ℕ)) → OfKinds ks es → own ks (steps_for es) ≡ es
unfolding own
own_steps ks [] of = refl
own_steps ks (e ∷ es) of = rw of.0.1 (ap (λ (l : List (ℕ × ℕ)). e ∷ l) (own_steps ks es of.1))

pub own_continues : (ks : List ℕ) (es : List (ℕ × ℕ)) (steps : List Step) → closed steps ≡ false → OfKinds ks es
    → RisesFrom 0 (own ks steps ++ es) → FirstFrom (clock steps) es → Continues steps (steps_for es)
own_continues ks [] steps o of rises first = stop
own_continues ks (e ∷ es) steps o of rises first =
    more e.0 e.1 o of.0.0 (first, rw (own_times ks e.0 of.0.1 steps) (rises_before e.0 0 (own ks steps) e es rises))
    (own_continues ks es (steps ++ (event e.0 e.1 ∷ [])) (closed_event e.0 e.1 steps ∙ o) of.1
    (rw (own_event ks e.0 e.1 steps of.0.1, append_assoc (own ks steps) (e ∷ []) es) rises)
    (rw (clock_event e.0 e.1 steps) (first_after e.1 es (rises_after 0 (own ks steps) e es rises))))
