-- Executions seen event by event: which events may still come depends only on the phase, on how long the execution begun has run, and on the
-- last time, so events are those of executions exactly when each is one that may come and none is missing at the end.
use Rattle.constraint.proofs.Library.{List, Option, [], ◌+◌, ◌-◌, ◌∷◌, ◌≡◌, ◌≤◌, ◌⊎◌, ap, arith, inl, inr, none, refl, some, subst, sym, ℕ}
use Rattle.constraint.specs.Meets.{Executes, MeetsExecutionTime, no_event_lem, paused, started, stopped}

-- ---- times that rise strictly

-- from a time on
abbrev pub RisesFrom : ℕ → List (ℕ × ℕ) → Type 0
RisesFrom free [] = Unit {0}
RisesFrom free (e ∷ es) = (free ≤ e.1) × RisesFrom (e.1 + 1) es

-- ---- event by event

-- between two executions; in one that runs and in one that is preempted, with how long it has run up to its last event
pub data Phase : Type 0 where
  idle : Phase
  runs : ℕ → Phase
  waits : ℕ → Phase

-- how long an execution has run at t; `free` is one more than the time of the last event
abbrev pub ran_by : ℕ → ℕ → ℕ → ℕ
ran_by ran free t = ran + (t + 1 - free)

module _ (start stop preempt resume lower upper : ℕ) where
  -- from a phase on these events end between two executions, each of which is as it should be
  abbrev pub Ends : Phase → ℕ → List (ℕ × ℕ) → Type 0
  Ends idle free [] = Unit {0}
  Ends (runs ran) free [] = ⊥
  Ends (waits ran) free [] = ⊥
  Ends idle free (e ∷ es) = (free ≤ e.1) × (e.0 ≡ start) × Ends (runs 0) (e.1 + 1) es
  Ends (runs ran) free (e ∷ es) =
      (free ≤ e.1)
      × (((e.0 ≡ stop) × (lower ≤ ran_by ran free e.1) × (ran_by ran free e.1 ≤ upper) × Ends idle (e.1 + 1) es)
      ⊎ ((e.0 ≡ preempt) × Ends (waits (ran_by ran free e.1)) (e.1 + 1) es))
  Ends (waits ran) free (e ∷ es) = (free ≤ e.1) × (e.0 ≡ resume) × Ends (runs ran) (e.1 + 1) es

  pub ends_rise : (phase : Phase) (free : ℕ) (es : List (ℕ × ℕ)) → Ends phase free es → RisesFrom free es
  ends_rise phase free [] h = tt
  ends_rise idle free (e ∷ es) (from, is, later) = (from, ends_rise (runs 0) (e.1 + 1) es later)
  ends_rise (runs ran) free (e ∷ es) (from, inl (is, long, short, later)) = (from, ends_rise idle (e.1 + 1) es later)
  ends_rise (runs ran) free (e ∷ es) (from, inr (is, later)) = (from, ends_rise (waits (ran_by ran free e.1)) (e.1 + 1) es later)
  ends_rise (waits ran) free (e ∷ es) (from, is, later) = (from, ends_rise (runs ran) (e.1 + 1) es later)

  -- ---- executions end so

  -- an execution that is begun has run since its start, the time preempted not counted; `free` is one more than the time of the last event
  abbrev EndsAs : Option (ℕ × ℕ) → ℕ → List (ℕ × ℕ) → Type 0
  EndsAs none free es = Ends idle free es
  EndsAs (some begun) free es = (ran : ℕ) → ran + begun.0 + begun.1 + 1 ≡ free → Ends (runs ran) free es

  executes_ends : {begun : Option (ℕ × ℕ)} {free : ℕ} {es : List (ℕ × ℕ)} → Executes start stop preempt resume lower upper begun free es
      → EndsAs begun free es
  executes_ends no_event_lem = tt
  executes_ends (started s from rest) = (from, refl, executes_ends rest 0 (omega arith))
  executes_ends (paused {free = free} p r from short rest) = λ ran is.
      (from, inr (refl, (omega arith, refl, executes_ends rest (ran_by ran free p) (omega arith))))
  executes_ends (stopped t from within rest) = λ ran is.
      (from, inl (refl, omega (arith, within.0), omega (arith, within.1), executes_ends rest))

  -- ---- and what ends so is executions

  abbrev Rest : Phase → ℕ → List (ℕ × ℕ) → Type 0
  Rest idle free es = Executes start stop preempt resume lower upper none free es
  Rest (runs ran) free es = (s preempted : ℕ) → ran + s + preempted + 1 ≡ free
      → Executes start stop preempt resume lower upper (some (s, preempted)) free es
  Rest (waits ran) free es =
      (s preempted p : ℕ) → p + 1 ≡ free → ran + s + preempted ≡ p → (before : ℕ) → before ≤ p
      → Executes start stop preempt resume lower upper (some (s, preempted)) before ((preempt, p) ∷ es)

  -- an event of that kind
  of_kind : {kind : ℕ} (e : ℕ × ℕ) → e.0 ≡ kind → (kind, e.1) ≡ e
  of_kind e is = ap (λ (k : ℕ). (k, e.1)) (sym is)

  rest_of : (phase : Phase) (free : ℕ) (es : List (ℕ × ℕ)) → Ends phase free es → Rest phase free es
  rest_of idle free [] h = no_event_lem
  rest_of (runs ran) free [] h = absurd h
  rest_of (waits ran) free [] h = absurd h
  rest_of idle free (e ∷ es) (from, is, later) =
      subst (λ (x : ℕ × ℕ). Executes start stop preempt resume lower upper none free (x ∷ es)) (of_kind e is)
      (started e.1 from (rest_of (runs 0) (e.1 + 1) es later e.1 0 (omega arith)))
  rest_of (runs ran) free (e ∷ es) (from, inl (is, long, short, later)) = λ s q so.
      subst (λ (x : ℕ × ℕ). Executes start stop preempt resume lower upper (some (s, q)) free (x ∷ es)) (of_kind e is)
      (stopped e.1 from (omega arith, omega arith) (rest_of idle (e.1 + 1) es later))
  rest_of (runs ran) free (e ∷ es) (from, inr (is, later)) = λ s q so.
      subst (λ (x : ℕ × ℕ). Executes start stop preempt resume lower upper (some (s, q)) free (x ∷ es)) (of_kind e is)
      (rest_of (waits (ran_by ran free e.1)) (e.1 + 1) es later s q e.1 refl (omega arith) free from)
  rest_of (waits ran) free (e ∷ es) (from, is, later) = λ s q p last so before early.
      subst (λ (x : ℕ × ℕ). Executes start stop preempt resume lower upper (some (s, q)) before ((preempt, p) ∷ x ∷ es)) (of_kind e is)
      (paused p e.1 early (omega arith) (rest_of (runs ran) (e.1 + 1) es later s (q + (e.1 - p)) (omega arith)))

  -- ---- the definition

  -- §5.8
  pub meets_ends : (es : List (ℕ × ℕ)) → MeetsExecutionTime start stop preempt resume lower upper es → Ends idle 0 es
  unfolding MeetsExecutionTime
  meets_ends es m = executes_ends m

  -- §5.8
  pub ends_meets : (es : List (ℕ × ℕ)) → Ends idle 0 es → MeetsExecutionTime start stop preempt resume lower upper es
  unfolding MeetsExecutionTime
  ends_meets es h = rest_of idle 0 es h

  -- ---- what is left to run

  -- an execution that is begun has run less than upper up to its last event
  abbrev pub Room : Phase → Type 0
  Room idle = Unit {0}
  Room (runs ran) = ran + 1 ≤ upper
  Room (waits ran) = ran + 1 ≤ upper

  -- since its stop comes later, also after a preempt
  pub ends_room : (phase : Phase) (free : ℕ) (es : List (ℕ × ℕ)) → Ends phase free es → Room phase
  ends_room idle free [] h = tt
  ends_room (runs ran) free [] h = absurd h
  ends_room (waits ran) free [] h = absurd h
  ends_room idle free (e ∷ es) h = tt
  ends_room (runs ran) free (e ∷ es) (from, inl (is, long, short, later)) = omega arith
  ends_room (runs ran) free (e ∷ es) (from, inr (is, later)) = omega (arith, ends_room (waits (ran_by ran free e.1)) (e.1 + 1) es later)
  ends_room (waits ran) free (e ∷ es) (from, is, later) = ends_room (runs ran) (e.1 + 1) es later

  -- it has run at most upper at its next event
  pub ends_soon : (ran free : ℕ) (e : ℕ × ℕ) (es : List (ℕ × ℕ)) → Ends (runs ran) free (e ∷ es) → ran_by ran free e.1 ≤ upper
  ends_soon ran free e es (from, inl (is, long, short, later)) = short
  ends_soon ran free e es (from, inr (is, later)) = omega (arith, ends_room (waits (ran_by ran free e.1)) (e.1 + 1) es later)
