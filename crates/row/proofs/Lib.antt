-- Every row type is exact, and what a step makes of a row of any type.
mod Names
pub mod Exact
pub mod EveryType
pub mod OwnKinds
pub mod Steps
pub mod Independent
pub mod Undo
mod Machines
pub mod Nothing
pub mod Overflow
pub mod StepParts
pub mod SlotsUsed
pub mod EncodedRow
pub mod UndoComplete
