-- Constraints with lists ask and count what constraints with a variant for each n did: `Former` has those variants, with what each asked and how many
-- waited, and both are the same by definition.
use Rattle.constraint.proofs.Names.{Burst, Constraint, Delay, ExecutionTime, List, Meets, MeetsBurst, MeetsDelay, MeetsExecutionTime}
use Rattle.constraint.proofs.Names.{MeetsOrder, MeetsReaction, MeetsRepeat, MeetsRepetition, MeetsSporadic, MeetsStrongDelay}
use Rattle.constraint.proofs.Names.{MeetsStrongSynchronization, MeetsSynchronization, Order, Reaction, Repeat, Repetition, Sporadic, Step}
use Rattle.constraint.proofs.Names.{StrongDelay, StrongSynchronization, Synchronization, [], ◌-◌, ◌∷◌, ◌≡◌, ◌≤◌, begun_incomplete, clock}
use Rattle.constraint.proofs.Names.{last_colour, length, own, refl, stream, times, unanswered, waiting, ℕ}

-- a row of types 1 to 11, with a variant for each n
pub data Former : Type 0 where
  delay : (source target lower upper : ℕ) → Former
  strong_delay : (source target lower upper : ℕ) → Former
  repeat : (event span lower upper : ℕ) → Former
  sporadic : (event lower upper jitter minimum : ℕ) → Former
  burst : (event maximum len minimum : ℕ) → Former
  order : (source target : ℕ) → Former
  strong_synchronization_2 : (a b tolerance : ℕ) → Former
  strong_synchronization_3 : (a b c tolerance : ℕ) → Former
  strong_synchronization_4 : (a b c d tolerance : ℕ) → Former
  execution_time : (start stop preempt resume lower upper : ℕ) → Former
  reaction : (stimulus response minimum maximum : ℕ) → Former
  repetition : (event span lower upper jitter : ℕ) → Former
  synchronization_2 : (a b tolerance : ℕ) → Former
  synchronization_3 : (a b c tolerance : ℕ) → Former
  synchronization_4 : (a b c d tolerance : ℕ) → Former

-- the constraint that it stands for
abbrev pub meaning : Former → Constraint
meaning (delay a b x y) = Delay a b x y
meaning (strong_delay a b x y) = StrongDelay a b x y
meaning (repeat a b x y) = Repeat a b x y
meaning (sporadic a x y z w) = Sporadic a x y z w
meaning (burst a b x y) = Burst a b x y
meaning (order a b) = Order a b
meaning (strong_synchronization_2 a b x) = StrongSynchronization (a ∷ b ∷ []) x
meaning (strong_synchronization_3 a b c x) = StrongSynchronization (a ∷ b ∷ c ∷ []) x
meaning (strong_synchronization_4 a b c d x) = StrongSynchronization (a ∷ b ∷ c ∷ d ∷ []) x
meaning (execution_time a b c d x y) = ExecutionTime a b c d x y
meaning (reaction a b x y) = Reaction a b x y
meaning (repetition a b x y z) = Repetition a b x y z
meaning (synchronization_2 a b x) = Synchronization (a ∷ b ∷ []) x
meaning (synchronization_3 a b c x) = Synchronization (a ∷ b ∷ c ∷ []) x
meaning (synchronization_4 a b c d x) = Synchronization (a ∷ b ∷ c ∷ d ∷ []) x

-- what it asked
abbrev pub FormerMeets : Former → List Step → Type 0
FormerMeets (delay source target lower upper) steps = MeetsDelay lower upper (times source steps) (times target steps)
FormerMeets (strong_delay source target lower upper) steps = MeetsStrongDelay lower upper (times source steps) (times target steps)
FormerMeets (repeat event span lower upper) steps = MeetsRepeat span lower upper (times event steps) (clock steps)
FormerMeets (sporadic event lower upper jitter minimum) steps = MeetsSporadic lower upper jitter minimum (times event steps) (clock steps)
FormerMeets (burst event maximum len minimum) steps = MeetsBurst maximum len minimum (times event steps)
FormerMeets (order source target) steps = MeetsOrder (times source steps) (times target steps)
FormerMeets (strong_synchronization_2 a b tolerance) steps = MeetsStrongSynchronization (a ∷ b ∷ []) tolerance steps
FormerMeets (strong_synchronization_3 a b c tolerance) steps = MeetsStrongSynchronization (a ∷ b ∷ c ∷ []) tolerance steps
FormerMeets (strong_synchronization_4 a b c d tolerance) steps = MeetsStrongSynchronization (a ∷ b ∷ c ∷ d ∷ []) tolerance steps
FormerMeets (execution_time start stop preempt resume lower upper) steps =
    MeetsExecutionTime start stop preempt resume lower upper (own (start ∷ stop ∷ preempt ∷ resume ∷ []) steps)
FormerMeets (reaction stimulus response minimum maximum) steps =
    (colour : ℕ) → colour ≤ last_colour → MeetsReaction minimum maximum (times (stream stimulus colour) steps) (times (stream response colour) steps)
FormerMeets (repetition event span lower upper jitter) steps = MeetsRepetition span lower upper jitter (times event steps)
FormerMeets (synchronization_2 a b tolerance) steps = MeetsSynchronization (a ∷ b ∷ []) tolerance steps
FormerMeets (synchronization_3 a b c tolerance) steps = MeetsSynchronization (a ∷ b ∷ c ∷ []) tolerance steps
FormerMeets (synchronization_4 a b c d tolerance) steps = MeetsSynchronization (a ∷ b ∷ c ∷ d ∷ []) tolerance steps

-- how many waited
abbrev pub former_waiting : Former → List Step → ℕ
former_waiting (delay source target lower upper) steps = unanswered lower upper (times source steps) (times target steps)
former_waiting (strong_delay source target lower upper) steps = length (times source steps) - length (times target steps)
former_waiting (strong_synchronization_2 a b tolerance) steps = begun_incomplete (a ∷ b ∷ []) steps
former_waiting (strong_synchronization_3 a b c tolerance) steps = begun_incomplete (a ∷ b ∷ c ∷ []) steps
former_waiting (strong_synchronization_4 a b c d tolerance) steps = begun_incomplete (a ∷ b ∷ c ∷ d ∷ []) steps
former_waiting (repeat event span lower upper) steps = 0
former_waiting (sporadic event lower upper jitter minimum) steps = 0
former_waiting (burst event maximum len minimum) steps = 0
former_waiting (order source target) steps = 0
former_waiting (execution_time start stop preempt resume lower upper) steps = 0
former_waiting (reaction stimulus response minimum maximum) steps = 0
former_waiting (repetition event span lower upper jitter) steps = 0
former_waiting (synchronization_2 a b tolerance) steps = 0
former_waiting (synchronization_3 a b c tolerance) steps = 0
former_waiting (synchronization_4 a b c d tolerance) steps = 0

-- §2.2
pub meets_same : (c : Former) (steps : List Step) → Meets (meaning c) steps ≡ FormerMeets c steps
unfolding Meets
meets_same (delay a b x y) steps = refl
meets_same (strong_delay a b x y) steps = refl
meets_same (repeat a b x y) steps = refl
meets_same (sporadic a x y z w) steps = refl
meets_same (burst a b x y) steps = refl
meets_same (order a b) steps = refl
meets_same (strong_synchronization_2 a b x) steps = refl
meets_same (strong_synchronization_3 a b c x) steps = refl
meets_same (strong_synchronization_4 a b c d x) steps = refl
meets_same (execution_time a b c d x y) steps = refl
meets_same (reaction a b x y) steps = refl
meets_same (repetition a b x y z) steps = refl
meets_same (synchronization_2 a b x) steps = refl
meets_same (synchronization_3 a b c x) steps = refl
meets_same (synchronization_4 a b c d x) steps = refl

-- §6.1 to §6.4
pub waiting_same : (c : Former) (steps : List Step) → waiting (meaning c) steps ≡ former_waiting c steps
unfolding waiting
waiting_same (delay a b x y) steps = refl
waiting_same (strong_delay a b x y) steps = refl
waiting_same (repeat a b x y) steps = refl
waiting_same (sporadic a x y z w) steps = refl
waiting_same (burst a b x y) steps = refl
waiting_same (order a b) steps = refl
waiting_same (strong_synchronization_2 a b x) steps = refl
waiting_same (strong_synchronization_3 a b c x) steps = refl
waiting_same (strong_synchronization_4 a b c d x) steps = refl
waiting_same (execution_time a b c d x y) steps = refl
waiting_same (reaction a b x y) steps = refl
waiting_same (repetition a b x y z) steps = refl
waiting_same (synchronization_2 a b x) steps = refl
waiting_same (synchronization_3 a b c x) steps = refl
waiting_same (synchronization_4 a b c d x) steps = refl
