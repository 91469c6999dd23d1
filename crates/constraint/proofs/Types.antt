-- What is true of every type, seen type by type: its definition looks only at the row's own events and the clock.
pub mod Delay
pub mod StrongDelay
pub mod Repeat
pub mod Sporadic
pub mod Burst
pub mod Order
pub mod StrongSynchronization
pub mod ExecutionTime
pub mod Reaction
pub mod Repetition
pub mod Synchronization
pub mod Age
pub mod OutputSynchronization
pub mod InputSynchronization
pub mod Pattern
pub mod Arbitrary
pub mod Comparison
use Rattle.constraint.proofs.{Lawful.Lawful, Names.Constraint}
use Rattle.constraint.proofs.Types.Delay.{lawful_delay}
use Rattle.constraint.proofs.Types.StrongDelay.{lawful_strong_delay}
use Rattle.constraint.proofs.Types.Repeat.{lawful_repeat}
use Rattle.constraint.proofs.Types.Sporadic.{lawful_sporadic}
use Rattle.constraint.proofs.Types.Burst.{lawful_burst}
use Rattle.constraint.proofs.Types.Order.{lawful_order}
use Rattle.constraint.proofs.Types.StrongSynchronization.{lawful_strong_synchronization}
use Rattle.constraint.proofs.Types.ExecutionTime.{lawful_execution_time}
use Rattle.constraint.proofs.Types.Reaction.{lawful_reaction}
use Rattle.constraint.proofs.Types.Repetition.{lawful_repetition}
use Rattle.constraint.proofs.Types.Synchronization.{lawful_synchronization}
use Rattle.constraint.proofs.Types.Age.{lawful_age}
use Rattle.constraint.proofs.Types.OutputSynchronization.{lawful_output_synchronization}
use Rattle.constraint.proofs.Types.InputSynchronization.{lawful_input_synchronization}
use Rattle.constraint.proofs.Types.Pattern.{lawful_pattern}
use Rattle.constraint.proofs.Types.Arbitrary.{lawful_arbitrary}
use Rattle.constraint.proofs.Types.Comparison.{lawful_comparison}

pub lawful : (c : Constraint) → Lawful c
lawful (Constraint.Delay a b x y) = lawful_delay a b x y
lawful (Constraint.StrongDelay a b x y) = lawful_strong_delay a b x y
lawful (Constraint.Repeat a b x y) = lawful_repeat a b x y
lawful (Constraint.Sporadic a x y z w) = lawful_sporadic a x y z w
lawful (Constraint.Burst a b x y) = lawful_burst a b x y
lawful (Constraint.Order a b) = lawful_order a b
lawful (Constraint.StrongSynchronization ks x) = lawful_strong_synchronization ks x
lawful (Constraint.ExecutionTime a b c d x y) = lawful_execution_time a b c d x y
lawful (Constraint.Reaction a b x y) = lawful_reaction a b x y
lawful (Constraint.Repetition a b x y z) = lawful_repetition a b x y z
lawful (Constraint.Synchronization ks x) = lawful_synchronization ks x
lawful (Constraint.Age a b x y) = lawful_age a b x y
lawful (Constraint.OutputSynchronization a ks x) = lawful_output_synchronization a ks x
lawful (Constraint.InputSynchronization ks a x) = lawful_input_synchronization ks a x
lawful (Constraint.Pattern a x y z xs) = lawful_pattern a x y z xs
lawful (Constraint.Arbitrary a ps) = lawful_arbitrary a ps
lawful (Constraint.Comparison a x y) = lawful_comparison a x y
