-- The loop takes off the last digit: those of what is left, and those stored, are those of the number. What is not yet stored is blank.
use Rattle.constraint.proofs.Library.{◌++◌, ◌<◌, ◌^◌, ◌≡◌, ◌≤◌, drop, length}
use Rattle.constraint.proofs.Library.{ℕ}
use Rattle.constraint.specs.{Report.blank, Report.decimal, Report.digits, Steps.at}
use Rattle.text.proofs.digits_of.Given as goal

abbrev pub invariant-loop-left : goal.invariant-loop-left
invariant-loop-left l =
    (0 < l.start) × (l.start ≤ 20) × (l.left < 10 ^ l.start) × (length l.bytes ≡ 20) × (digits l.start l.left ++ drop l.start l.bytes ≡ decimal l.x)
    × ((k : ℕ) → k < l.start → at l.bytes k ≡ blank)

abbrev pub decreases-loop-left : goal.decreases-loop-left
decreases-loop-left l = l.start
