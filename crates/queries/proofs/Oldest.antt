-- The oldest that waits is the first time that a row keeps: a Delay and a StrongDelay keep the sources that wait, in their order, and a
-- StrongSynchronization the first times of its groups and how many of these have an event of each kind.
use Rattle.queries.proofs.Names.{Bool, Constraint, Fits, Going, List, Parameters, Past, Row, Sound, Step, Valid, Waits, [], ◌++◌}
use Rattle.queries.proofs.Names.{◌%◌, ◌+◌, ◌<◌, ◌∙◌, ◌∷◌, ◌≡◌, ◌≤◌, ap, arith, by_cases, closed, cond, dec_lt, eq-eqb, eqb, every_type_exact}
use Rattle.queries.proofs.Names.{false, get_or, get_elem?, last_kind, last_time, le-ltb, length, lt-ltb, ltb, ltb-false, ltb-true, min, no_limit}
use Rattle.queries.proofs.Names.{parameters_of, past_of}
use Rattle.queries.proofs.Names.{refl, some, split, subst, subst₂, suc, sym, true, waiting, waiting_by, waits_in, zero, ℕ}
use Rattle.constraint.proofs.Library.{List·getD-eq-default, false≢true, ne_eqb, replicate}
use Rattle.constraint.proofs.Lists.{Each, each_tail, get_d_within}
use Rattle.constraint.specs.Constraint.{Age, Arbitrary, Burst, Comparison, Delay, ExecutionTime, InputSynchronization, Order, OutputSynchronization}
use Rattle.constraint.specs.Constraint.{Pattern, Reaction, Repeat, Repetition, Sporadic, StrongDelay, StrongSynchronization, Synchronization}
use Rattle.constraint.specs.{Steps.at, Steps.times, Waiting.answered}
use Rattle.delay_order.proofs.Laws.Unmet.{unmet}
use Rattle.queries.proofs.Rows.{by_state, going_waits, open_now}
use Rattle.queries.specs.Contract.{RowOldest, open_oldest, other_oldest}
use Rattle.queries.specs.Numbers.{first_counted, oldest_by, oldest_kind, oldest_stream_by}
use Rattle.queries.specs.Oldest.{complete_groups, first_of_group, first_unanswered, group_start, no_stream, oldest, oldest_stream}
use Rattle.ring.specs.Ring.{ring, time_at}
use Rattle.row.proofs.EveryType.{keeps_delay, keeps_strong_delay, keeps_strong_synchronization}
use Rattle.row_type.proofs.{FieldNumbers.tag_is, SeveralKinds.kinds_small}
use Rattle.row_type.specs.{Parameters.no_kind, Parts.front, declared.Registers.Registers}
use Rattle.synchronizations.proofs.Laws.Columns.{least_each, least_most}
use Rattle.synchronizations.proofs.Laws.{Counts.Names, LiveGroups.LiveGroups}

-- ---- the first of some times

first_of : (l : List ℕ) → get_or l 0 no_limit ≡ oldest_by (length l) (front l)
first_of [] = refl
first_of (t ∷ l) = rw (lt-ltb 0 (suc (length l)) (omega arith))

-- a row's first time stands where its ring begins
ring_front : (words : List ℕ) (head n : ℕ) → oldest_by n (front (ring words head n)) ≡ oldest_by n (time_at words head 0)
unfolding ring
ring_front words head zero = refl
ring_front words head (suc n) = let place : (head % 64 + 0 % 64) % 64 ≡ head % 64 = omega arith in rw place

-- a number that is not 0
pub above_zero : (n : ℕ) → ¬ (n ≡ 0) → 0 < n
above_zero zero not = absurd (not refl)
above_zero (suc n) not = omega arith

-- ---- sources

first_unmet : (lower upper : ℕ) (sources targets : List ℕ)
    → first_unanswered lower upper sources targets ≡ get_or (unmet lower upper sources targets) 0 no_limit
unfolding first_unanswered
first_unmet lower upper [] targets = refl
first_unmet lower upper (s ∷ sources) targets =
    split (answered lower upper s targets)
    (λ b. cond b (first_unanswered lower upper sources targets) s
    ≡ get_or (cond b (unmet lower upper sources targets) (s ∷ unmet lower upper sources targets)) 0 no_limit)
    (λ e. first_unmet lower upper sources targets) (λ e. refl)

-- the source's stream, by how many wait
of_source : (n source : ℕ) → source ≤ last_kind → cond (eqb n 0) no_stream source ≡ oldest_stream_by n source
of_source n source small =
    by_cases (dec_lt 0 n)
    (λ l. let same : source ≡ min source no_stream = omega arith in rw (ne_eqb n 0 (omega arith), lt-ltb 0 n l) same)
    (λ l. rw (eq-eqb n 0 (omega arith), le-ltb 0 n (omega arith)))

-- ---- groups

abbrev counts_of : Registers → List ℕ
counts_of registers = registers.first ∷ registers.second ∷ registers.third ∷ registers.fourth ∷ []

module _ (tolerance : ℕ) (steps : List Step) (registers : Registers) where
  -- as many groups are complete as the kind with the fewest events has
  complete_is : (ks firsts : List ℕ) (live : LiveGroups ks tolerance steps registers firsts) → complete_groups ks steps ≡ live.done
  complete_is [] firsts live = let (j, h, lacks) = live.behind in absurd (omega arith)
  complete_is (k ∷ ks) firsts live =
      let count : ℕ → ℕ = λ x. length (times x steps) in
      let (j, h, lacks) = live.behind in
      omega (arith, least_most count k ks live.done live.groups.complete, least_each count k ks j h)

  -- the oldest of them begins at the first time that is kept
  start_is : (ks firsts : List ℕ) → Past steps → (live : LiveGroups ks tolerance steps registers firsts)
      → group_start live.done ks steps ≡ get_or firsts 0 no_limit
  start_is [] firsts past live = let (j, h, lacks) = live.behind in absurd (omega arith)
  start_is (k ∷ ks) [] past live =
      let event : ℕ → ℕ = λ x. get_or (times x steps) live.done no_limit in
      let none : (j : ℕ) → j < length (k ∷ ks) → event (at (k ∷ ks) j) ≡ no_limit =
      λ j h. List·getD-eq-default (times (at (k ∷ ks) j) steps) no_limit (omega (arith, live.groups.begun j h)) in
      omega (
        arith,
        least_most event k ks no_limit (λ j h. omega (arith, none j h)),
        least_each event k ks 0 (omega arith),
        none 0 (omega arith),
      )
  start_is (k ∷ ks) (f ∷ firsts) past live =
      let event : ℕ → ℕ = λ x. get_or (times x steps) live.done no_limit in
      let same : live.done + 0 ≡ live.done = omega arith in
      let (p, in_range, there, is-first) = live.groups.first 0 (omega arith) in
      let column : ℕ → List ℕ = λ j. times (at (k ∷ ks) j) steps in
      let small : f ≤ last_time = omega (arith, is-first, past.past (at (k ∷ ks) p) (live.done + 0) there, past.small) in
      let first : event (at (k ∷ ks) p) ≡ f =
      get_d_within (column p) live.done no_limit 0 (omega arith) ∙ ap (λ (n : ℕ). at (column p) n) (sym same) ∙ is-first in
      let later : (j : ℕ) → j < length (k ∷ ks) → f ≤ event (at (k ∷ ks) j) = λ j h.
      by_cases (dec_lt live.done (length (column j)))
      (λ l. let after : f ≤ at (column j) live.done =
      subst (λ (n : ℕ). f ≤ at (column j) n) same (live.groups.after j 0 h (omega arith)) in
      omega (arith, after, get_d_within (column j) live.done no_limit 0 l))
      (λ l. omega (arith, List·getD-eq-default (column j) no_limit {n = live.done} (omega arith))) in
      omega (arith, least_most event k ks f later, least_each event k ks p in_range, first)

  -- of groups that are all complete no kind has one more
  none_begun : (ks : List ℕ) (place : ℕ) → Each (λ k. length (times k steps) ≤ place) ks → first_of_group place ks steps ≡ no_stream
  unfolding first_of_group
  none_begun [] place each = refl
  none_begun (k ∷ ks) place each =
      rw (le-ltb place (length (times k steps)) (each 0 (omega arith)))
      (none_begun ks place (each_tail (λ k. length (times k steps) ≤ place) k ks each))

  -- a kind has an event in the oldest group where its count is not 0
  first_counted_lem : (ks more counts : List ℕ) (place : ℕ) → ((j : ℕ) → j < length ks → length (times (at ks j) steps) ≡ place + at counts j)
      → (p : ℕ) → p < length ks → 0 < at counts p → first_of_group place ks steps ≡ first_counted (ks ++ more) counts
  unfolding first_of_group
  first_counted_lem [] more counts place is p h above = absurd (omega arith)
  first_counted_lem (k ∷ ks) more [] place is p h above = absurd (omega (arith, above))
  first_counted_lem (k ∷ ks) more (n ∷ counts) place is zero h above =
      rw (lt-ltb place (length (times k steps)) (omega (arith, is 0 (omega arith), above)), lt-ltb 0 n above) refl
  first_counted_lem (k ∷ ks) more (n ∷ counts) place is (suc p) h above =
      split (ltb 0 n) (λ b. ltb 0 n ≡ b → cond (ltb place (length (times k steps))) k (first_of_group place ks steps)
      ≡ cond b k (first_counted (ks ++ more) counts))
      (λ _ e. rw (lt-ltb place (length (times k steps)) (omega (arith, is 0 (omega arith), ltb-true 0 n e))) refl)
      (λ _ e. rw (le-ltb place (length (times k steps)) (omega (arith, is 0 (omega arith), ltb-false 0 n e)))
      (first_counted_lem ks more counts place (λ j l. is (suc j) (omega arith)) p (omega arith) above)) refl

  kind_small : (ks : List ℕ) (place : ℕ) → Each (λ k. k ≤ last_kind) ks → first_of_group place ks steps ≤ no_stream
  unfolding first_of_group
  kind_small [] place each = omega arith
  kind_small (k ∷ ks) place each =
      split (ltb place (length (times k steps))) (λ b. cond b k (first_of_group place ks steps) ≤ no_stream)
      (λ _. omega (arith, each 0 (omega arith))) (λ _. kind_small ks place (each_tail (λ k. k ≤ last_kind) k ks each))

  stream_is : (p : Parameters) (ks firsts : List ℕ) → Names p ks → p.tag ≡ 7 → (live : LiveGroups ks tolerance steps registers firsts)
      → first_of_group live.done ks steps ≡ oldest_stream_by (length firsts) (oldest_kind p registers)
  stream_is p ks [] names tag live = none_begun ks live.done (λ j h. omega (arith, live.groups.begun j h))
  stream_is p ks (f ∷ firsts) names tag live =
      let (j, in_range, there, is-first) = live.groups.first 0 (omega arith) in
      let found : first_of_group live.done ks steps
      ≡ first_counted (p.first ∷ p.second ∷ p.third ∷ p.fourth ∷ []) (counts_of registers) =
      first_counted_lem ks (replicate names.absent no_kind) (counts_of registers) live.done live.counts j in_range
      (omega (arith, live.counts j in_range))
      ∙ sym (ap (λ (l : List ℕ). first_counted l (counts_of registers)) names.padded) in
      rw (lt-ltb 0 (suc (length firsts)) (omega arith), eq-eqb p.tag 7 tag)
      (found ∙ within _ (subst (λ (n : ℕ). n ≤ no_stream) found (kind_small ks live.done (kinds_small ks names.fit))))
    where
      within : (n : ℕ) → n ≤ no_stream → n ≡ min n no_stream
      within n l = omega arith

-- ---- by the type

-- what is said of the oldest: the first time that the row keeps, and its kind, where something waits
abbrev Says : Constraint → List Step → Registers → List ℕ → Type 0
Says c steps registers kept =
    (oldest c steps ≡ oldest_by (waiting c steps) (front kept))
    × (oldest_stream c steps ≡ oldest_stream_by (waiting c steps) (oldest_kind (parameters_of c) registers))

-- the first of as many times as wait
by_count : (c : Constraint) (steps : List Step) (kept : List ℕ) → waiting c steps ≡ length kept
    → get_or kept 0 no_limit ≡ oldest_by (waiting c steps) (front kept)
by_count c steps kept waits = first_of kept ∙ ap (λ (n : ℕ). oldest_by n (front kept)) (sym waits)

timed : (b : Bool) {waiting n : ℕ} → b ≡ true → Waits b waiting n → waiting ≡ n
timed true e w = w
timed false e w = absurd (false≢true e)

module _ (steps : List Step) (registers : Registers) (kept : List ℕ) (past : Past steps) where
  says_delay : (source target lower upper : ℕ) (sound : Sound (Delay source target lower upper))
      → (every_type_exact (Delay source target lower upper) sound).Live steps registers kept
      → Says (Delay source target lower upper) steps registers kept
  unfolding oldest oldest_stream
  says_delay source target lower upper sound live =
      let c = Delay source target lower upper in (
        first_unmet lower upper (times source steps) (times target steps)
            ∙ ap (λ (l : List ℕ). get_or l 0 no_limit) (sym (keeps_delay steps registers kept source target lower upper sound live))
            ∙ by_count c steps kept ((every_type_exact c sound).waits past live),
        of_source (waiting c steps) source (kinds_small (source ∷ target ∷ []) sound.kinds_fit 0 (omega arith)),
      )

  says_strong_delay : (source target lower upper : ℕ) (sound : Sound (StrongDelay source target lower upper))
      → (every_type_exact (StrongDelay source target lower upper) sound).Live steps registers kept
      → Says (StrongDelay source target lower upper) steps registers kept
  unfolding oldest oldest_stream
  says_strong_delay source target lower upper sound live =
      let c = StrongDelay source target lower upper in (
        keeps_strong_delay steps registers kept source target lower upper sound live no_limit
            ∙ by_count c steps kept ((every_type_exact c sound).waits past live),
        of_source (waiting c steps) source (kinds_small (source ∷ target ∷ []) sound.kinds_fit 0 (omega arith)),
      )

  says_strong_synchronization : (ks : List ℕ) (x : ℕ) (sound : Sound (StrongSynchronization ks x))
      → (every_type_exact (StrongSynchronization ks x) sound).Live steps registers kept → Says (StrongSynchronization ks x) steps registers kept
  unfolding oldest oldest_stream
  says_strong_synchronization ks x sound live =
      let c = StrongSynchronization ks x in
      let (names, groups) = keeps_strong_synchronization steps registers kept ks x sound live in
      let waits = timed (waits_in (parameters_of c).tag) (ap waits_in (tag_is c)) ((every_type_exact c sound).waits past live) in
      let done = complete_is (parameters_of c).upper steps registers ks kept groups in (
        ap (λ (n : ℕ). group_start n ks steps) done ∙ start_is (parameters_of c).upper steps registers ks kept past groups
            ∙ by_count c steps kept waits,
        ap (λ (n : ℕ). first_of_group n ks steps) done
            ∙ stream_is (parameters_of c).upper steps registers (parameters_of c) ks kept names (tag_is c) groups
            ∙ ap (λ (n : ℕ). oldest_stream_by n (oldest_kind (parameters_of c) registers)) (sym waits),
      )

  says : (c : Constraint) (sound : Sound c) → (every_type_exact c sound).Live steps registers kept → Says c steps registers kept
  unfolding oldest oldest_stream waiting
  says (Delay source target lower upper) sound live = says_delay source target lower upper sound live
  says (StrongDelay source target lower upper) sound live = says_strong_delay source target lower upper sound live
  says (StrongSynchronization ks x) sound live = says_strong_synchronization ks x sound live
  says (Repeat event span lower upper) sound live = (refl, refl)
  says (Sporadic event lower upper jitter minimum) sound live = (refl, refl)
  says (Burst event maximum len minimum) sound live = (refl, refl)
  says (Order source target) sound live = (refl, refl)
  says (ExecutionTime start stop preempt resume lower upper) sound live = (refl, refl)
  says (Reaction stimulus response minimum maximum) sound live = (refl, refl)
  says (Repetition event span lower upper jitter) sound live = (refl, refl)
  says (Synchronization kinds tolerance) sound live = (refl, refl)
  says (Age stimulus response minimum maximum) sound live = (refl, refl)
  says (OutputSynchronization stimulus responses tolerance) sound live = (refl, refl)
  says (InputSynchronization stimuli response tolerance) sound live = (refl, refl)
  says (Pattern event period jitter minimum offsets) sound live = (refl, refl)
  says (Arbitrary event pairs) sound live = (refl, refl)
  says (Comparison operator left right) sound live = (refl, refl)

-- ---- in a row that fits the steps

module _ (c : Constraint) (sound : Sound c) (steps : List Step) (valid : Valid steps) (r : Row) (f : Fits c (every_type_exact c sound) steps r) where
  abbrev time : ℕ
  time = time_at r.times r.now.head 0

  abbrev kind : ℕ
  kind = oldest_kind r.parameters r.now.registers

  -- all of the times wait, or none
  at_head : (b : Bool) → oldest_by (cond b r.now.len 0) (front (ring r.times r.now.head r.now.len))
      ≡ oldest_by (cond b r.now.len 0) time
  at_head true = ring_front r.times r.now.head r.now.len
  at_head false = refl

  goes_oldest : (rows : List Constraint) (i : ℕ) → get_elem? rows i ≡ some c → closed steps ≡ false
      → Going c (every_type_exact c sound) steps r.times r.now
      → RowOldest rows steps i (oldest_by (cond (waits_in r.parameters.tag) r.now.len 0) time)
      (oldest_stream_by (cond (waits_in r.parameters.tag) r.now.len 0) kind)
  goes_oldest rows i there o g =
      let exact = every_type_exact c sound in
      let kept = ring r.times r.now.head r.now.len in
      let said = says steps r.now.registers kept (past_of valid) c sound g.live in
      let waits = going_waits c exact steps valid r f g in
      subst₂ (RowOldest rows steps i)
      (said.0 ∙ ap (λ (n : ℕ). oldest_by n (front kept)) waits ∙ at_head (waits_in r.parameters.tag))
      (said.1 ∙ ap (λ (n : ℕ). oldest_stream_by n (oldest_kind (parameters_of c) r.now.registers)) waits
      ∙ ap (λ (p : Parameters). oldest_stream_by (cond (waits_in r.parameters.tag) r.now.len 0) (oldest_kind p r.now.registers))
      (sym f.parameters_is))
      (open_oldest c there o (open_now c exact steps valid r.times r.now g o))

  -- §15.18, §15.19
  pub fits_oldest : (rows : List Constraint) (i : ℕ) → get_elem? rows i ≡ some c → (shut : ℕ) → ltb 0 shut ≡ closed steps
      → RowOldest rows steps i (oldest_by (waiting_by shut r.now.broken r.parameters.tag r.now.len) time)
      (oldest_stream_by (waiting_by shut r.now.broken r.parameters.tag r.now.len) kind)
  fits_oldest rows i there shut is =
      by_state c (every_type_exact c sound) steps valid r f (λ n. RowOldest rows steps i (oldest_by n time) (oldest_stream_by n kind)) shut 0 _ is
      (other_oldest c there) (goes_oldest rows i there)
