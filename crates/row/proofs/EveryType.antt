-- Every row type is exact: by the type, what its own laws prove.
use mathlib.Core.Path.{path_j', subst⁻¹_refl}
use Rattle.constraint.proofs.Library.{List, ◌≡◌, get_or, length, refl, subst, subst⁻¹}
use Rattle.constraint.specs.Steps.{Step, times}
use Rattle.constraint.specs.Constraint.{Age, Arbitrary, Burst, Comparison, Constraint, Delay, ExecutionTime, InputSynchronization, Order}
use Rattle.constraint.specs.Constraint.{OutputSynchronization, Pattern, Reaction, Repeat, Repetition, Sporadic, StrongDelay, StrongSynchronization}
use Rattle.constraint.specs.Constraint.{Synchronization}
use Rattle.constraint.specs.Types.{type_of}
use Rattle.row_type.proofs.FieldNumbers.{tag_is}
use Rattle.row.proofs.Exact.{Exact, Sound}
use Rattle.row.proofs.Names.{machine_of, parameters_of, ℕ}
use Rattle.row_type.proofs.Exact as M
use Rattle.delay_order.proofs.Laws.Delay.{delay_keeps, exact_delay}
use Rattle.delay_order.proofs.Laws.StrongDelay.{exact_strong_delay, strong_delay_keeps}
use Rattle.delay_order.proofs.Laws.Unmet.{unmet}
use Rattle.repeat_burst.proofs.Laws.Repeat.{exact_repeat}
use Rattle.hidden_points.proofs.Laws.Sporadic.{exact_sporadic}
use Rattle.repeat_burst.proofs.Laws.Burst.{exact_burst}
use Rattle.delay_order.proofs.Laws.Order.{exact_order}
use Rattle.synchronizations.proofs.Laws.StrongSynchronization.{exact_strong_synchronization, strong_synchronization_keeps}
use Rattle.synchronizations.proofs.Laws.{Counts.Names, LiveGroups.LiveGroups}
use Rattle.row_type.specs.{declared.Change.Change, declared.Registers.Registers}
use Rattle.execution.proofs.Laws.ExecutionTime.{exact_execution_time}
use Rattle.event_chain.proofs.Laws.Reaction.{exact_reaction}
use Rattle.repetition.proofs.Laws.Repetition.{exact_repetition}
use Rattle.synchronizations.proofs.Laws.Synchronization.{exact_synchronization}
use Rattle.event_chain.proofs.Laws.Age.{exact_age}
use Rattle.event_chain.proofs.Laws.OutputSynchronization.{exact_output_synchronization}
use Rattle.event_chain.proofs.Laws.InputSynchronization.{exact_input_synchronization}
use Rattle.patterns.proofs.Laws.PatternWords.{exact_pattern}
use Rattle.repeat_burst.proofs.Laws.ArbitraryWords.{exact_arbitrary}
use Rattle.comparison.proofs.Laws.Comparison.{exact_comparison}

-- by the type
by_type : (c : Constraint) → Sound c → M.Exact c ((machine_of (type_of c)).decide (parameters_of c))
by_type (Delay source target lower upper) = exact_delay source target lower upper
by_type (StrongDelay source target lower upper) = exact_strong_delay source target lower upper
by_type (Repeat event span lower upper) = exact_repeat event span lower upper
by_type (Sporadic event lower upper jitter minimum) = exact_sporadic event lower upper jitter minimum
by_type (Burst event maximum len minimum) = exact_burst event maximum len minimum
by_type (Order source target) = exact_order source target
by_type (StrongSynchronization kinds tolerance) = exact_strong_synchronization kinds tolerance
by_type (ExecutionTime start stop preempt resume lower upper) = exact_execution_time start stop preempt resume lower upper
by_type (Reaction stimulus response minimum maximum) = exact_reaction stimulus response minimum maximum
by_type (Repetition event span lower upper jitter) = exact_repetition event span lower upper jitter
by_type (Synchronization kinds tolerance) = exact_synchronization kinds tolerance
by_type (Age stimulus response minimum maximum) = exact_age stimulus response minimum maximum
by_type (OutputSynchronization stimulus responses tolerance) = exact_output_synchronization stimulus responses tolerance
by_type (InputSynchronization stimuli response tolerance) = exact_input_synchronization stimuli response tolerance
by_type (Pattern event period jitter minimum offsets) = exact_pattern event period jitter minimum offsets
by_type (Arbitrary event pairs) = exact_arbitrary event pairs
by_type (Comparison operator left right) = exact_comparison operator left right

-- a row's numbers have its type
pub every_type_exact : (c : Constraint) → Sound c → Exact c
every_type_exact c sound = subst⁻¹ (λ (t : ℕ). M.Exact c ((machine_of t).decide (parameters_of c))) (tag_is c) (by_type c sound)

-- ---- what the rows keep in which something waits

module _ (steps : List Step) (registers : Registers) (held : List ℕ) where
  -- what is live of a row's numbers is live of its type
  live_of : (c : Constraint) (decide : ℕ → Registers → List ℕ → ℕ → ℕ → Change) {t s : ℕ} (p : t ≡ s) (exact : M.Exact c (decide s))
      → (subst⁻¹ (λ (n : ℕ). M.Exact c (decide n)) p exact).Live steps registers held → exact.Live steps registers held
  live_of c decide {s = s} p exact =
      let Of : ℕ → Type 1 = λ n. M.Exact c (decide n) in
      path_j' (λ t p. (subst⁻¹ Of p exact).Live steps registers held → exact.Live steps registers held)
      (λ live. subst (λ (e : Of s). e.Live steps registers held) {x = subst⁻¹ Of (refl {a = s}) exact} {y = exact}
      (subst⁻¹_refl Of {x = s} exact) live) p

  live_by : (c : Constraint) (sound : Sound c) → (every_type_exact c sound).Live steps registers held → (by_type c sound).Live steps registers held
  unfolding every_type_exact
  live_by c sound = live_of c (λ t. (machine_of t).decide (parameters_of c)) (tag_is c) (by_type c sound)

  -- §6.1: a Delay the sources that are not answered
  pub keeps_delay : (source target lower upper : ℕ) (sound : Sound (Delay source target lower upper))
      → (every_type_exact (Delay source target lower upper) sound).Live steps registers held
      → held ≡ unmet lower upper (times source steps) (times target steps)
  unfolding by_type
  keeps_delay source target lower upper sound live =
      delay_keeps source target lower upper sound steps registers held (live_by (Delay source target lower upper) sound live)

  -- §6.2: a StrongDelay the sources beyond the number of targets
  pub keeps_strong_delay : (source target lower upper : ℕ) (sound : Sound (StrongDelay source target lower upper))
      → (every_type_exact (StrongDelay source target lower upper) sound).Live steps registers held
      → (missing : ℕ) → get_or (times source steps) (length (times target steps)) missing ≡ get_or held 0 missing
  unfolding by_type
  keeps_strong_delay source target lower upper sound live =
      strong_delay_keeps source target lower upper sound steps registers held (live_by (StrongDelay source target lower upper) sound live)

  -- §6.3: a StrongSynchronization the first times of the groups begun and not complete
  pub keeps_strong_synchronization : (ks : List ℕ) (x : ℕ) (sound : Sound (StrongSynchronization ks x))
      → (every_type_exact (StrongSynchronization ks x) sound).Live steps registers held
      → Names (parameters_of (StrongSynchronization ks x)) ks × LiveGroups ks (parameters_of (StrongSynchronization ks x)).upper steps registers held
  unfolding by_type
  keeps_strong_synchronization ks x sound live =
      strong_synchronization_keeps ks x sound steps registers held (live_by (StrongSynchronization ks x) sound live)
