-- The laws of Repetition, each over every span at once.
pub mod Within
pub mod Chains
pub mod Kept
pub mod Repetition
