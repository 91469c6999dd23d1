-- The constraints (§4.5; 01, table): a line for each type, with its fields. The code does not use this type: a record of numbers stands for it.
use Rattle.std.specs.Prelude.{ℕ, List}

-- §4.5; 01, table; CR 2, 6, 10: a row of a table: one TADL2 timing constraint
pub data Constraint : Type 0 where
  Delay : (source target lower upper : ℕ) → Constraint
  StrongDelay : (source target lower upper : ℕ) → Constraint
  Repeat : (event span lower upper : ℕ) → Constraint
  Sporadic : (event lower upper jitter minimum : ℕ) → Constraint
  Burst : (event maximum len minimum : ℕ) → Constraint
  Order : (source target : ℕ) → Constraint
  StrongSynchronization : (kinds : List ℕ) (tolerance : ℕ) → Constraint
  ExecutionTime : (start stop preempt resume lower upper : ℕ) → Constraint
  Reaction : (stimulus response minimum maximum : ℕ) → Constraint
  Repetition : (event span lower upper jitter : ℕ) → Constraint
  Synchronization : (kinds : List ℕ) (tolerance : ℕ) → Constraint
  Age : (stimulus response minimum maximum : ℕ) → Constraint
  OutputSynchronization : (stimulus : ℕ) (responses : List ℕ) (tolerance : ℕ) → Constraint
  InputSynchronization : (stimuli : List ℕ) (response : ℕ) (tolerance : ℕ) → Constraint
  Pattern : (event period jitter minimum : ℕ) (offsets : List ℕ) → Constraint
  Arbitrary : (event : ℕ) (pairs : List (ℕ × ℕ)) → Constraint
  Comparison : (operator left right : ℕ) → Constraint
