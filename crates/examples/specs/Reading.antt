-- What is promised of a list of examples: the answers are these, and the row reads so by the definitions, and by the monitor.
use Rattle.std.specs.Prelude.{◌≡◌, List, [], ◌∷◌, ◌++◌, map}
use Rattle.std.proofs.Math.Option.{some}
use Rattle.constraint.specs.Run.{asks, Left, none_left, Run}
use Rattle.constraint.specs.Continuation.{Reads}
use Rattle.constraint.specs.Promise.{ReadsRow}
use Rattle.constraint.specs.Answer.{Answer}
use Rattle.constraint.specs.Answer.{Taken}
use Rattle.constraint.specs.declared.Call.{Call}
use Rattle.constraint.specs.declared.Call.TheVariants.{Tick}
use Rattle.constraint.specs.Constraint.{Constraint}
use Rattle.constraint.specs.declared.Verdict.{Verdict}
use Rattle.constraint.specs.declared.Verdict.TheVariants.{Open, Broken}
use Rattle.constraint.specs.Examples.{Example}
use Rattle.examples.specs.Vectors.{crowded_rows, crowded_calls, crowded_answers}
use Rattle.monitor.specs.Machine.{verdict_of}
use Rattle.monitor.specs.Contract.{after}

-- the requests get these answers; the row reads so by the definitions after the steps that are left, and by the monitor
pub record ReadsSo (e : Example) : Type 0 where
  pub left : Left
  pub answered : Run (e.constraint ∷ []) none_left e.requests e.answers left
  pub defined : Reads e.constraint left.steps e.verdict
  pub monitored : verdict_of (after (e.constraint ∷ []) e.requests) 0 ≡ some e.verdict

-- §10.1 to §10.12, §10.14, §10.15: each example of a list
abbrev pub AllRead : List Example → Type 0
AllRead [] = Unit {0}
AllRead (e ∷ later) = ReadsSo e × AllRead later

-- calls over two rows get these answers, and the rows read so after them
abbrev pub BothRead : List Constraint → List Call → List Answer → Verdict → Verdict → Type 0
BothRead rows calls answers first second =
    (left : Left) × Run rows none_left (map asks calls) answers left × ReadsRow rows left.steps 0 (some first)
    × ReadsRow rows left.steps 1 (some second)

-- §5.3.5: a refused step breaks no row; the tick to its time breaks the one that fell silent
pub record CrowdedSilence : Type 0 where
  pub refused : BothRead crowded_rows crowded_calls crowded_answers Open Open
  pub ticked : BothRead crowded_rows (crowded_calls ++ (Tick 65 ∷ [])) (crowded_answers ++ (Taken ∷ [])) Open (Broken 66)
