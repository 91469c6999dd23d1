-- Why the monitor's machine keeps the promise, and the laws that the proofs of its code share.
mod Names
pub mod FittingRows
pub mod StepRefinement
pub mod Demand
pub mod Withdrawing
pub mod Theorem
pub mod Beside
pub mod Independent
pub mod Answers
pub mod First
pub mod Filled
pub mod RowVerdicts
