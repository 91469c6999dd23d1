-- The machine of a row: what the code computes, as functions on numbers and lists.
pub mod RowStep
pub mod Machine
pub mod Undo
pub mod StepParts
pub mod Stored
pub mod Cause
