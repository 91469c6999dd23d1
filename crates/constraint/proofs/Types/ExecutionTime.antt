-- An ExecutionTime looks at the events of its four kinds in their order.
use Rattle.constraint.proofs.Names.{Executes, ExecutionTime, List, Meets, MeetsExecutionTime, [], ◌+◌, ◌∷◌, ◌≡◌, ◌≤◌, ap, arith, at, drop}
use Rattle.constraint.proofs.Names.{event, length, map, no_event_lem, none, own, paused, refl, some, started, stopped, subst, waiting, ℕ}
use Rattle.constraint.proofs.Lawful.{Contingent, Lawful}

pub lawful_execution_time : (start stop preempt resume lower upper : ℕ) → Lawful (ExecutionTime start stop preempt resume lower upper)
unfolding Meets waiting
lawful_execution_time start stop preempt resume lower upper =
    record {
      same = λ a b in_order same earlier m. subst (MeetsExecutionTime start stop preempt resume lower upper) in_order m;
      waits_same = λ a b same. refl;
    }

-- §2.2: the stretch from preempt to resume is no running time
pub execution-time-contingent
    : Contingent (ExecutionTime 0 1 2 3 2 5) (event 0 0 ∷ event 2 4 ∷ event 3 1000 ∷ event 1 1001 ∷ []) (event 0 0 ∷ event 1 1 ∷ [])
unfolding Meets MeetsExecutionTime own
execution-time-contingent =
    record {
      can_be_met = started {free = 0} 0 (omega arith) (paused {free = 1} 4 1000 (omega arith) (omega arith)
          (stopped {s = 0} {preempted = 996} {free = 1001} 1001 (omega arith) (omega arith, omega arith) no_event_lem));
      can_be_missed = λ m. omega (arith, starts_early (0, 0) (1, 1) m refl);
    }
  where
    -- an execution's stop alone is at least 2 after its start
    stops_late : {s preempted free : ℕ} {events : List (ℕ × ℕ)} (e : ℕ × ℕ) → Executes 0 1 2 3 2 5 (some (s, preempted)) free events
        → events ≡ e ∷ [] → s + 2 ≤ e.1
    stops_late e (paused p r before short rest) is = absurd (omega (arith, ap length is))
    stops_late e (stopped t before within rest) is =
        let at_stop : t ≡ e.1 = ap (λ (es : List (ℕ × ℕ)). at (map (λ x. x.1) es) 0) is in omega (arith, within.0)

    starts_early : {free : ℕ} {events : List (ℕ × ℕ)} (e f : ℕ × ℕ) → Executes 0 1 2 3 2 5 none free events → events ≡ e ∷ f ∷ [] → e.1 + 2 ≤ f.1
    starts_early e f no_event_lem is = absurd (omega (arith, ap length is))
    starts_early e f (started s before rest) is =
        let at_start : s ≡ e.1 = ap (λ (es : List (ℕ × ℕ)). at (map (λ x. x.1) es) 0) is in
        omega (arith, stops_late f rest (ap (drop 1) is))
