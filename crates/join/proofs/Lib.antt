-- Why the joined recording is valid and is what the walk writes.
mod Names
pub mod Merging
pub mod Bytes
pub mod Records
pub mod Heads
pub mod Walking
pub mod Bounds
pub mod Passing
pub mod Answers
pub mod Holding
pub mod Theorem
