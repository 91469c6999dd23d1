-- What a StrongSynchronization keeps, and that each event keeps it so: the event goes to the first group that lacks its kind, and the oldest
-- group leaves once it lacks none.
use Rattle.constraint.proofs.Library.{Bool, List, [], ◌++◌, ◌+◌, ◌-◌, ◌<◌, ◌∙◌, ◌∷◌, ◌≡◌, ◌≤◌, ap, arith, by_cases, cond, dec_lt, drop, false}
use Rattle.constraint.proofs.Library.{get_or-drop, length, length-drop, ltb, ltb-false, ltb-true, refl, suc, true, ℕ, ℕ_discrete}
use Rattle.constraint.proofs.{History.Accepts, History.Past, Lists.Each, Lists.Rising, Lists.at_left, Lists.at_next, Lists.rising_by}
use Rattle.constraint.specs.{Limits.no_limit, Steps.Step, Steps.at, Steps.clock, Steps.event, Steps.times}
use Rattle.synchronizations.proofs.Laws.Columns.{column, columns_added}
use Rattle.synchronizations.proofs.Laws.Counts.{Names, above_each, above_lacks, count_is, count_left, count_none, four_counts}
use Rattle.synchronizations.proofs.Laws.Counts.{with_other, with_own}
use Rattle.synchronizations.proofs.Laws.Groups.{Behind, Groups, groups_begun, groups_joined, groups_left, groups_none, longer_own}
use Rattle.synchronizations.proofs.Laws.Groups.{oldest_first}
use Rattle.synchronizations.specs.Kinds.{register_of}
use Rattle.synchronizations.specs.StrongSynchronization.{complete, counted, decide_strong_synchronization, without_oldest}
use Rattle.row_type.proofs.{Exact.ByOutcome, Exact.GoesOn, Oldest.due_reached, Oldest.due_within}
use Rattle.row_type.specs.Parts.{due_oldest, no_registers, none_left, plus, waits}
use Rattle.row_type.specs.{declared.Change.Change, declared.Registers.Registers, declared.Parameters.Parameters}
use Rattle.ring.specs.declared.Edit.TheVariants.{Drop, Push}

-- what the row keeps: the groups of the recorded events, and how many of those begun and not complete have an event of each kind
pub record LiveGroups (ks : List ℕ) (tolerance : ℕ) (steps : List Step) (registers : Registers) (firsts : List ℕ) : Type 0 where
  pub done : ℕ
  pub groups : Groups (length ks) tolerance done (column ks steps) firsts
  pub behind : Behind (length ks) done (column ks steps)
  pub counts : (j : ℕ) → j < length ks → length (column ks steps j) ≡ done + at (four_counts registers) j

-- ---- Start

pub live_none : {parameters : Parameters} {ks : List ℕ} → Names parameters ks → (tolerance : ℕ) → LiveGroups ks tolerance [] no_registers []
unfolding times
live_none {parameters} {ks} names tolerance =
    record {
      done = 0;
      groups = groups_none (length ks) tolerance (column ks []) (λ j. refl);
      behind = (0, omega (arith, names.several), refl);
      counts = λ j h. omega (arith, count_none names j h);
    }

-- ---- Events

-- times that rise strictly are not more than the last allows
rising_short : (xs : List ℕ) (m : ℕ) → Rising xs → Each (λ x. x ≤ m) xs → length xs ≤ suc m
rising_short xs m rising small =
    by_cases (dec_lt 0 (length xs))
    (λ h. omega (arith, rising_by xs rising 0 (length xs - 1) (omega arith), small (0 + (length xs - 1)) (omega arith)))
    (λ h. omega arith)

-- its due time, and whether it is kept
abbrev pub due : ℕ → Registers → List ℕ → ℕ
due tolerance registers firsts = due_oldest tolerance firsts

abbrev pub kept : Registers → List ℕ → Bool
kept registers firsts = none_left firsts

module _ {parameters : Parameters} {ks : List ℕ} (names : Names parameters ks)
    (tolerance : ℕ) (steps : List Step) (registers : Registers) (firsts : List ℕ) (k t : ℕ)
    (past : Past steps) (live : LiveGroups ks tolerance steps registers firsts) (own : k < length ks) (accepts : Accepts steps (event (at ks k) t))
    (in_time : t ≤ due_oldest tolerance firsts) where
  abbrev after : List Step
  after = steps ++ (event (at ks k) t ∷ [])

  abbrev more : Registers
  more = counted parameters registers (at ks k)

  rising : (j : ℕ) → Rising (column ks steps j)
  rising j = past.rising (at ks j)

  recorded : (j : ℕ) → Each (λ s. s ≤ t) (column ks steps j)
  recorded j i l = omega (arith, past.past (at ks j) i l, accepts.in_order.0)

  own_longer : length (column ks after k) ≡ suc (length (column ks steps k))
  own_longer = longer_own (columns_added ks names.fit steps k t own)

  other_same : (j : ℕ) → j < length ks → ¬ (j ≡ k) → length (column ks after j) ≡ length (column ks steps j)
  other_same j h apart = ap length ((columns_added ks names.fit steps k t own).other j h apart)

  counts_after : (j : ℕ) → j < length ks → length (column ks after j) ≡ live.done + at (four_counts more) j
  counts_after j h =
      by_cases (ℕ_discrete j k)
      (λ e. rw e (omega (arith, own_longer, live.counts k own, with_own names registers k counted_is own, count_is names registers k own, few)))
      (λ e. omega (arith, other_same j h e, live.counts j h, with_other names registers k counted_is j own h e))
    where
      counted_is : ℕ
      counted_is = plus (register_of parameters registers (at ks k)) 1

      few : at (four_counts registers) k < no_limit
      few = omega (arith, live.counts k own, rising_short (column ks steps k) (clock steps) (rising k) (past.past (at ks k)), past.small)

  -- an event that goes to a group begun before, which may complete the oldest
  groups_after : at (four_counts registers) k < length firsts → Groups (length ks) tolerance live.done (column ks after) firsts
  groups_after fits =
      groups_joined live.groups rising recorded own (columns_added ks names.fit steps k t own) (omega (arith, live.counts k own))
      (due_within tolerance t firsts in_time (omega arith))

  event_joins : at (four_counts registers) k < length firsts → complete parameters more ≡ false → LiveGroups ks tolerance after more firsts
  event_joins fits e =
      let (j, h, none) = above_lacks names more 0 e in
      record { done = live.done; groups = groups_after fits; behind = (j, h, omega (arith, counts_after j h)); counts = counts_after }

  event_completes : at (four_counts registers) k < length firsts → complete parameters more ≡ true
      → LiveGroups ks tolerance after (without_oldest more) (drop 1 firsts)
  event_completes fits e =
      record {
        done = suc live.done;
        groups = groups_left (groups_after fits) full;
        behind = (k, own, alone live.behind);
        counts = λ j h. omega (arith, full j h, counts_after j h, count_left names more j h);
      }
    where
      full : (j : ℕ) → j < length ks → live.done < length (column ks after j)
      full j h = omega (arith, counts_after j h, above_each names more 0 e j h)

      alone : Behind (length ks) live.done (column ks steps) → length (column ks after k) ≡ suc live.done
      alone (j, h, lacks) =
          by_cases (ℕ_discrete j k) (λ same. own_longer ∙ ap suc (rw (← same) lacks))
          (λ apart. absurd (omega (arith, full j h, other_same j h apart)))

  -- an event of a kind that all groups have
  event_begins : at (four_counts registers) k ≡ length firsts → LiveGroups ks tolerance after more (firsts ++ (t ∷ []))
  event_begins e =
      record {
        done = live.done;
        groups = groups_begun live.groups rising recorded own (columns_added ks names.fit steps k t own) (omega (arith, live.counts k own));
        behind = still live.behind;
        counts = counts_after;
      }
    where
      other : (j : ℕ) × (j < length ks) × (¬ (j ≡ k))
      other = by_cases (ℕ_discrete k 0) (λ e. (1, names.several, λ f. omega arith)) (λ e. (0, omega (arith, names.several), λ f. omega arith))

      still : Behind (length ks) live.done (column ks steps) → Behind (length ks) live.done (column ks after)
      still (j, h, lacks) =
          by_cases (ℕ_discrete j k)
          (λ same. let (i, l, apart) = other in
          let none : length (column ks steps k) ≡ live.done = rw (← same) lacks in
          (i, l, omega (arith, other_same i l apart, live.counts k own, live.groups.complete i l, live.groups.begun i l)))
          (λ apart. (j, h, other_same j h apart ∙ lacks))

  -- what the row keeps after a change that it goes on with
  abbrev Goes : Change → Type 0
  Goes = GoesOn (LiveGroups ks tolerance after) (due tolerance) kept firsts t

  joins_cases : (B : Type 0) (completes : Bool) → at (four_counts registers) k < length firsts → complete parameters more ≡ completes
      → ByOutcome B Goes (cond completes (waits tolerance firsts (Drop 1) (without_oldest more)) (waits tolerance firsts (Drop 0) more))
  joins_cases B true fits f =
      record {
        live = event_completes fits f;
        due_is = refl;
        kept_is = refl;
        in_time = due_reached tolerance t (drop 1 firsts) accepts.time_small (λ l. omega (
          arith,
          due_within tolerance t firsts in_time (omega arith),
          get_or-drop 1 firsts 0 0,
          oldest_first live.groups rising (1 + 0) (omega (arith, length-drop 1 firsts)),
        ));
      }
  joins_cases B false fits f = record { live = event_joins fits f; due_is = refl; kept_is = refl; in_time = in_time }

  event_cases : (B : Type 0) (joins completes : Bool) → ltb (register_of parameters registers (at ks k)) (length firsts) ≡ joins
      → complete parameters more ≡ completes
      → ByOutcome B Goes
      (cond joins (cond completes (waits tolerance firsts (Drop 1) (without_oldest more)) (waits tolerance firsts (Drop 0) more))
      (waits tolerance firsts (Push 0 t) more))
  event_cases B true completes e f =
      joins_cases B completes
      (omega (arith, ltb-true (register_of parameters registers (at ks k)) (length firsts) e, count_is names registers k own)) f
  event_cases B false completes e f =
      let last : at (four_counts registers) k ≡ length firsts = omega (
        arith,
        ltb-false (register_of parameters registers (at ks k)) (length firsts) e,
        count_is names registers k own,
        live.counts k own,
        live.groups.begun k own,
      ) in
      record {
        live = event_begins last;
        due_is = refl;
        kept_is = refl;
        in_time = due_reached tolerance t (firsts ++ (t ∷ [])) accepts.time_small (λ l. by_cases (dec_lt 0 (length firsts))
            (λ some. omega (arith, at_left firsts (t ∷ []) 0 some, due_within tolerance t firsts in_time some))
            (λ none. omega (arith, at_next firsts t [] 0 (omega arith))));
      }

  -- no event breaks the row
  pub event_does : (B : Type 0) → parameters.upper ≡ tolerance
      → ByOutcome B Goes (decide_strong_synchronization parameters registers firsts (at ks k) t)
  unfolding decide_strong_synchronization
  event_does B is = rw is (event_cases B (ltb (register_of parameters registers (at ks k)) (length firsts)) (complete parameters more) refl refl)
