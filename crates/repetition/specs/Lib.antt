-- The machine of Repetition.
pub mod Repetition
