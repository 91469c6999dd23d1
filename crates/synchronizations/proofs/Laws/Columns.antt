-- The recorded events of a row's kinds as groups: some continuation completes each group at its last moment, as long as the oldest group's
-- last moment has not passed; once it has, none does.
use Rattle.constraint.proofs.Continuations.{SameTimes, continues_late}
use Rattle.constraint.proofs.History.{clock_event, clock_tick, closed_event, times_append, times_other, times_own, times_tick, with_time}
use Rattle.constraint.proofs.Library.{List, [], ◌++◌, ◌+◌, ◌-◌, ◌<◌, ◌∙◌, ◌∷◌, ◌≡◌, ◌≤◌, append_assoc, append-nil, arith, by_cases, dec_lt, false}
use Rattle.constraint.proofs.Library.{length, length-append, map, subst, suc, sym, zero, ℕ, ℕ_discrete}
use Rattle.constraint.proofs.Lists.{Each, Rising, at_left, at_right, each_append, each_cons, each_none, each_tail, rising_snoc}
use Rattle.constraint.specs.Steps.{Step, at, clock, closed, event, tick, times}
use Rattle.constraint.specs.{Accepted.KindsFit, Continuation.Continues, Continuation.EventInOrder, Continuation.more, Continuation.stop}
use Rattle.constraint.specs.{Limits.stream_count, Meets.MeetsStrongSynchronization, Waiting.begun_incomplete, Waiting.largest, Waiting.least}
use Rattle.synchronizations.proofs.Laws.Groups.{Added, Behind, Groups, groups_before, groups_joined, groups_left, longer_old, longer_own}
use Rattle.synchronizations.proofs.Laws.Groups.{oldest_first}
use Rattle.row_type.proofs.SeveralKinds.{kinds_apart, kinds_stream}

-- the times of the j-th of these kinds
abbrev pub column : List ℕ → List Step → ℕ → List ℕ
column ks steps j = times (at ks j) steps

-- ---- Events

pub columns_added : (ks : List ℕ) → KindsFit ks → (steps : List Step) (k t : ℕ) → k < length ks
    → Added (length ks) k t (column ks steps) (column ks (steps ++ (event (at ks k) t ∷ [])))
columns_added ks fit steps k t own =
    record {
      own = times_own (at ks k) t steps;
      other = λ j h apart. times_other (at ks j) (at ks k) t steps
          (kinds_apart ks fit k j own h (λ e. apart (sym e)));
    }

-- ---- Ticks

module _ (ks : List ℕ) (tolerance : ℕ) (a b : List Step) (same : SameTimes ks a b) where
  pub groups_same : {done : ℕ} {firsts : List ℕ} → Groups (length ks) tolerance done (column ks a) firsts
      → Groups (length ks) tolerance done (column ks b) firsts
  groups_same {done} {firsts} g =
      record {
        complete = λ j h. rw (← same j h) (g.complete j h);
        begun = λ j h. rw (← same j h) (g.begun j h);
        first = λ i h. let (p, in_range, there, is-first) = g.first i h in
            (p, in_range, rw (← same p in_range) there, rw (← same p in_range) is-first);
        after = λ j i h. rw (← same j h) (g.after j i h);
        spread = λ j k i h l. rw (← same j h, ← same k l) (g.spread j k i h l);
      }

  pub behind_same : {done : ℕ} → Behind (length ks) done (column ks a) → Behind (length ks) done (column ks b)
  behind_same (j, h, lacks) = (j, h, rw (← same j h) lacks)

-- after the last moment of the oldest group, an event that it lacks comes too late
pub groups_late : (ks : List ℕ) (tolerance t : ℕ) (steps further : List Step) {done : ℕ} {firsts : List ℕ}
    → Groups (length ks) tolerance done (column ks steps) firsts
    → Behind (length ks) done (column ks steps) → 0 < length firsts → at firsts 0 + tolerance < t → Continues (steps ++ (tick t ∷ [])) further
    → ¬ MeetsStrongSynchronization ks tolerance (steps ++ (tick t ∷ []) ++ further)
unfolding MeetsStrongSynchronization
groups_late ks tolerance t steps further {done} {firsts} g (j, h, lacks) begun late follows meets =
    let (p, in_range, there, is-first) = g.first 0 begun in
    let (even, near) = rw (all j, all p) at (meets j p h in_range) in
    let left : 0 < length (rest j) = omega (arith, length-append (now j) (rest j), length-append (now p) (rest p)) in
    let oldest : at (now p ++ rest p) (length (now j) + 0) ≡ at firsts 0 = rw lacks (at_left (now p) (rest p) (done + 0) there ∙ is-first) in
    omega (
      arith,
      near (length (now j) + 0) (omega (arith, length-append (now j) (rest j))),
      at_right (now j) (rest j) 0,
      clock_tick t steps,
      continues_late follows (at ks j) 0 left,
    )
  where
    now : ℕ → List ℕ
    now x = column ks steps x

    rest : ℕ → List ℕ
    rest x = column ks further x

    all : (x : ℕ) → column ks (steps ++ (tick t ∷ []) ++ further) x ≡ now x ++ rest x
    all x = times_append (at ks x) (steps ++ (tick t ∷ [])) further ∙ rw (times_tick (at ks x) t steps)

-- ---- Open

-- where all groups are complete, the definition is met
pub groups_meet : (ks : List ℕ) (tolerance : ℕ) (steps : List Step) {done : ℕ} → Groups (length ks) tolerance done (column ks steps) []
    → MeetsStrongSynchronization ks tolerance steps
unfolding MeetsStrongSynchronization
groups_meet ks tolerance steps g j k h l =
    let even : length (column ks steps j) ≡ length (column ks steps k) = omega
    (arith, g.complete j h, g.complete k l, g.begun j h, g.begun k l) in
    (even, λ i m. g.spread j k i h l m (omega arith))

-- the times of each kind rise strictly and none is after the clock
abbrev pub Ordered : List Step → Type 0
Ordered steps = (k : ℕ) → Rising (times k steps) × Each (λ t. t ≤ clock steps) (times k steps)

ordered_event : (k t : ℕ) (steps : List Step) → Ordered steps → EventInOrder steps k t → Ordered (steps ++ (event k t ∷ []))
ordered_event k t steps ordered order j = (
  with_time j k t steps Rising
      (λ e. rising_snoc (times j steps) t (ordered j).0 (subst (λ (i : ℕ). Each (λ s. s < t) (times i steps)) e order.1)) (ordered j).0,
  rw (clock_event k t steps) (with_time j k t steps (Each (λ s. s ≤ t))
      (λ e. each_append (λ s. s ≤ t) (times j steps) (t ∷ []) before (each_cons (λ s. s ≤ t) t [] (omega arith) (each_none (λ s. s ≤ t)))) before),
)
  where
    before : Each (λ s. s ≤ t) (times j steps)
    before i h = omega (arith, (ordered j).1 i h, order.0)

-- steps after which no group has missed its last moment
pub record Pending (ks : List ℕ) (tolerance done : ℕ) (firsts : List ℕ) (steps : List Step) : Type 0 where
  pub goes_on : closed steps ≡ false
  pub ordered : Ordered steps
  pub groups : Groups (length ks) tolerance done (column ks steps) firsts
  pub in_time : 0 < length firsts → clock steps ≤ at firsts 0 + tolerance

-- some continuation of the steps leads to what is asked
abbrev pub Reaches : (List Step → Type 0) → List Step → Type 0
Reaches Asked steps = (further : List Step) × Continues steps further × Asked (steps ++ further)

pub reaches_before : (Asked : List Step → Type 0) (steps : List Step) (k t : ℕ) → closed steps ≡ false → k < stream_count → EventInOrder steps k t
    → Reaches Asked (steps ++ (event k t ∷ [])) → Reaches Asked steps
reaches_before Asked steps k t goes_on small order (further, follows, asked) =
    (event k t ∷ further, more k t goes_on small order follows, subst Asked (append_assoc steps (event k t ∷ []) further) asked)

module _ (ks : List ℕ) (fit : KindsFit ks) (tolerance : ℕ) where
  abbrev pub Completes : List Step → Type 0
  Completes = Reaches (MeetsStrongSynchronization ks tolerance)

  -- an event that the oldest group lacks, at its last moment
  abbrev lacking : ℕ → ℕ → Step
  lacking f k = event (at ks k) (f + tolerance)

  module _ (done f : ℕ) (fs : List ℕ) (steps : List Step) (pending : Pending ks tolerance done (f ∷ fs) steps) where
    lacking_in_order : (k : ℕ) → k < length ks → length (column ks steps k) ≡ done → EventInOrder steps (at ks k) (f + tolerance)
    lacking_in_order k h lacks = (
      pending.in_time (omega arith),
      λ i l. groups_before pending.groups (λ j. (pending.ordered (at ks j)).0) k i 0 h l (omega arith) (omega arith),
    )

    pending_event : (k : ℕ) → k < length ks → length (column ks steps k) ≡ done → Pending ks tolerance done (f ∷ fs) (steps ++ (lacking f k ∷ []))
    pending_event k h lacks =
        record {
          goes_on = closed_event (at ks k) (f + tolerance) steps ∙ pending.goes_on;
          ordered = ordered_event (at ks k) (f + tolerance) steps pending.ordered (lacking_in_order k h lacks);
          groups = groups_joined pending.groups (λ j. (pending.ordered (at ks j)).0)
              (λ j i l. omega (arith, (pending.ordered (at ks j)).1 i l, pending.in_time (omega arith))) h
              (columns_added ks fit steps k (f + tolerance) h) (omega arith) (omega arith);
          in_time = λ l. rw (clock_event (at ks k) (f + tolerance) steps) (omega arith);
        }

    pending_left : ((j : ℕ) → j < length ks → done < length (column ks steps j)) → Pending ks tolerance (suc done) fs steps
    pending_left full =
        record {
          goes_on = pending.goes_on;
          ordered = pending.ordered;
          groups = groups_left pending.groups full;
          in_time = λ l. omega
              (arith, pending.in_time (omega arith), oldest_first pending.groups (λ j. (pending.ordered (at ks j)).0) 1 (omega arith));
        }

  -- each kind below the m-th that the oldest group lacks gets its event
  completes_oldest : (m done f : ℕ) (fs : List ℕ) (steps : List Step) → m ≤ length ks → Pending ks tolerance done (f ∷ fs) steps
      → ((j : ℕ) → m ≤ j → j < length ks → done < length (column ks steps j))
      → ((after : List Step) → Pending ks tolerance (suc done) fs after → Completes after) → Completes steps
  completes_oldest zero done f fs steps h pending full rest = rest steps (pending_left done f fs steps pending (λ j. full j (omega arith)))
  completes_oldest (suc m) done f fs steps h pending full rest =
      by_cases (dec_lt done (length (column ks steps m)))
      (λ has. completes_oldest m done f fs steps (omega arith) pending
      (λ j l g. by_cases (ℕ_discrete j m) (λ e. rw e has) (λ e. full j (omega arith) g)) rest)
      (λ has. let lacks : length (column ks steps m) ≡ done = omega (arith, pending.groups.complete m h) in
      let added = columns_added ks fit steps m (f + tolerance) h in
      reaches_before (MeetsStrongSynchronization ks tolerance) steps (at ks m) (f + tolerance) pending.goes_on (kinds_stream ks fit m h)
      (lacking_in_order done f fs steps pending m h lacks)
      (completes_oldest m done f fs (steps ++ (lacking f m ∷ [])) (omega arith) (pending_event done f fs steps pending m h lacks)
      (λ j l g. by_cases (ℕ_discrete j m)
      (λ e. rw e (omega (arith, longer_own added)))
      (λ e. (longer_old added j done g (full j (omega arith) g)).0))
      rest))

  pub completes : (firsts : List ℕ) (done : ℕ) (steps : List Step) → Pending ks tolerance done firsts steps → Completes steps
  completes [] done steps pending = ([], stop, rw (append-nil steps) (groups_meet ks tolerance steps pending.groups))
  completes (f ∷ fs) done steps pending =
      completes_oldest (length ks) done f fs steps (omega arith) pending (λ j h g. absurd (omega arith)) (λ after. completes fs (suc done) after)

-- ---- Waiting

module _ (f : ℕ → ℕ) where
  largest_most : (ks : List ℕ) (m : ℕ) → Each (λ k. f k ≤ m) ks → largest (map f ks) ≤ m
  unfolding largest
  largest_most [] m e = omega arith
  largest_most (k ∷ ks) m e = omega (arith, e 0 (omega arith), largest_most ks m (each_tail (λ k. f k ≤ m) k ks e))

  largest_each : (ks : List ℕ) → Each (λ k. f k ≤ largest (map f ks)) ks
  unfolding largest
  largest_each [] i h = absurd (omega arith)
  largest_each (k ∷ ks) zero h = omega arith
  largest_each (k ∷ ks) (suc i) h = omega (arith, largest_each ks i (omega arith))

  pub least_most : (k : ℕ) (ks : List ℕ) (m : ℕ) → Each (λ k. m ≤ f k) (k ∷ ks) → m ≤ least (map f (k ∷ ks))
  unfolding least
  least_most k [] m e = e 0 (omega arith)
  least_most k (j ∷ ks) m e = omega (arith, e 0 (omega arith), least_most j ks m (each_tail (λ k. m ≤ f k) k (j ∷ ks) e))

  pub least_each : (k : ℕ) (ks : List ℕ) → Each (λ j. least (map f (k ∷ ks)) ≤ f j) (k ∷ ks)
  unfolding least
  least_each k [] zero h = omega arith
  least_each k [] (suc i) h = absurd (omega arith)
  least_each k (j ∷ ks) zero h = omega arith
  least_each k (j ∷ ks) (suc i) h = omega (arith, least_each j ks i (omega arith))

pub groups_wait : (ks : List ℕ) (tolerance : ℕ) (steps : List Step) {done : ℕ} {firsts : List ℕ}
    → Groups (length ks) tolerance done (column ks steps) firsts
    → Behind (length ks) done (column ks steps) → begun_incomplete ks steps ≡ length firsts
unfolding begun_incomplete
groups_wait [] tolerance steps g (j, h, lacks) = absurd (omega arith)
groups_wait (k ∷ ks) tolerance steps {done} {firsts} g (j, h, lacks) =
    omega (
      arith,
      newest,
      largest_most count (k ∷ ks) (done + length firsts) g.begun,
      least_most count k ks done
          g.complete,
      least_each count k ks j h,
    )
  where
    count : ℕ → ℕ
    count k = length (times k steps)

    newest : done + length firsts ≤ largest (map count (k ∷ ks))
    newest =
        by_cases (dec_lt 0 (length firsts))
        (λ l. let (p, in_range, there, is-first) = g.first (length firsts - 1) (omega arith) in omega
        (arith, largest_each count (k ∷ ks) p in_range))
        (λ l. omega (arith, largest_each count (k ∷ ks) j h))

-- ---- Close

pub groups_left_over : (ks : List ℕ) (tolerance : ℕ) (steps : List Step) {done : ℕ} {firsts : List ℕ}
    → Groups (length ks) tolerance done (column ks steps) firsts
    → Behind (length ks) done (column ks steps) → 0 < length firsts → ¬ MeetsStrongSynchronization ks tolerance steps
unfolding MeetsStrongSynchronization
groups_left_over ks tolerance steps g (j, h, lacks) begun meets =
    let (p, in_range, there, is-first) = g.first 0 begun in
    omega (arith, (meets j p h in_range).0)
