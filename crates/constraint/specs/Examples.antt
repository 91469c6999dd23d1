-- The contract's examples 1 to 12, 14 and 15 (§10.1 to §10.12, §10.14, §10.15; 01, examples; CR 3, 9): a row, requests with their answers, and
-- what the row reads after them.
use Rattle.std.specs.Prelude.{List, [], ◌∷◌, map}
use Rattle.constraint.specs.Run.{Request, asks, withdraws}
use Rattle.constraint.specs.Answer.{Answer}
use Rattle.constraint.specs.Answer.{Taken, Refused}
use Rattle.constraint.specs.declared.Call.{Call}
use Rattle.constraint.specs.declared.Call.TheVariants.{Event, Tick, Close}
use Rattle.constraint.specs.Constraint.{Constraint, Delay, StrongDelay, Repeat, Sporadic, Order, StrongSynchronization}
use Rattle.constraint.specs.declared.Verdict.{Verdict}
use Rattle.constraint.specs.declared.Verdict.TheVariants.{Open, Kept, Broken}

-- a row, requests, the answer to each, and what the row reads in the end
pub record Example : Type 0 where
  pub constraint : Constraint
  pub requests : List Request
  pub answers : List Answer
  pub verdict : Verdict

-- an example in which every call is taken
abbrev pub reads : Constraint → List Call → Verdict → Example
reads c calls v = record { constraint = c; requests = map asks calls; answers = map (λ call. Taken) calls; verdict = v }

-- §10.1 to §10.12, §10.14, §10.15: the examples of the contract
abbrev pub examples : List Example
examples =
    -- §10.1: a target in time
    reads (Delay 0 1 2 3) (Event 0 10 ∷ Event 1 12 ∷ Close ∷ []) Kept
    -- §10.2: the last moment, and the one after it
    ∷ reads (Delay 0 1 2 3) (Event 0 10 ∷ Tick 13 ∷ []) Open
    ∷ reads (Delay 0 1 2 3) (Event 0 10 ∷ Tick 13 ∷ Tick 14 ∷ []) (Broken 3)
    -- §10.3: a close before the answer
    ∷ reads (Delay 0 1 2 3) (Event 0 10 ∷ Close ∷ []) (Broken 2)
    -- §10.4: the target given before its source, at the same time
    ∷ reads (Delay 0 1 0 3) (Event 1 10 ∷ Event 0 10 ∷ Close ∷ []) Kept
    -- §10.5: a target that still may get its source, until the clock moves
    ∷ reads (StrongDelay 0 1 0 3) (Event 1 10 ∷ []) Open
    ∷ reads (StrongDelay 0 1 0 3) (Event 1 10 ∷ Tick 11 ∷ []) (Broken 2)
    -- §10.6: a target that cannot get its source
    ∷ reads (StrongDelay 0 1 1 3) (Event 1 10 ∷ []) (Broken 1)
    -- §10.7: three in a row that are too close
    ∷ reads (Repeat 0 2 4 5) (Event 0 1 ∷ Event 0 3 ∷ Event 0 6 ∷ Event 0 7 ∷ []) Open
    ∷ reads (Repeat 0 2 4 5) (Event 0 1 ∷ Event 0 3 ∷ Event 0 6 ∷ Event 0 7 ∷ Event 0 9 ∷ []) (Broken 5)
    -- §10.8: silence, in a Repeat
    ∷ reads (Repeat 0 1 4 4) (Event 0 0 ∷ Tick 100 ∷ Close ∷ []) (Broken 2)
    -- §10.9: hidden points that drift no further than they may
    ∷ reads (Sporadic 0 5 5 2 0) (Event 0 2 ∷ Event 0 9 ∷ Event 0 14 ∷ []) Open
    ∷ reads (Sporadic 0 5 5 2 0) (Event 0 2 ∷ Event 0 9 ∷ Event 0 16 ∷ []) (Broken 3)
    -- §10.10: hidden points that are not below 0
    ∷ reads (Sporadic 0 10 10 5 0) (Event 0 2 ∷ Event 0 10 ∷ []) Open
    ∷ reads (Sporadic 0 10 10 5 0) (Event 0 2 ∷ Event 0 9 ∷ []) (Broken 2)
    -- §10.11: order within one time
    ∷ reads (Order 0 1) (Event 1 5 ∷ Event 0 5 ∷ Close ∷ []) Kept
    ∷ reads (Order 0 1) (Event 1 5 ∷ Tick 6 ∷ []) (Broken 2)
    -- §10.12: groups that overlap, and a group that comes too late
    ∷ reads (StrongSynchronization (0 ∷ 1 ∷ []) 2) (Event 0 5 ∷ Event 0 6 ∷ Event 1 7 ∷ Event 1 8 ∷ Close ∷ []) Kept
    ∷ reads (StrongSynchronization (0 ∷ 1 ∷ []) 2) (Event 0 5 ∷ Event 0 6 ∷ Tick 8 ∷ []) (Broken 3)
    -- §10.14: a step that is withdrawn once, and the one before it that may not be
    ∷ record {
      constraint = Delay 0 1 2 3;
      requests = asks (Event 0 10) ∷ asks (Event 1 11) ∷ withdraws ∷ withdraws ∷ asks (Event 1 12) ∷ asks Close ∷ [];
      answers = Taken ∷ Taken ∷ Taken ∷ Refused 21 ∷ Taken ∷ Taken ∷ [];
      verdict = Kept;
    }
    -- §10.15: the step that broke the row, withdrawn
    ∷ record {
      constraint = Delay 0 1 2 3;
      requests = asks (Event 0 10) ∷ asks (Tick 14) ∷ withdraws ∷ [];
      answers = Taken ∷ Taken ∷ Taken ∷ [];
      verdict = Open;
    }
    ∷ []
