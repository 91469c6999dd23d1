-- What a call gives, from its number and the monitor behind the reference.
use Rattle.std.specs.Prelude.{ℕ, zero, suc}
use Rattle.constraint.specs.Answer.{Answer}
use Rattle.constraint.specs.Answer.{Taken, Refused}
use Rattle.monitor.specs.declared.Monitor.{Monitor}
use Rattle.monitor.specs.Stepped.{Stepped}

-- 0: taken; any other number: refused with it
abbrev pub answer_from : ℕ → Answer
answer_from zero = Taken
answer_from (suc n) = Refused (suc n)

abbrev pub stepped_from : ℕ → Monitor → Stepped
stepped_from number m = record { answer = answer_from number; monitor = m }
