-- Why the numbers are what the definitions say.
mod Names
pub mod Rows
pub mod Oldest
pub mod RowPresent
pub mod Crowded
pub mod Theorem
pub mod Places
pub mod Coloured
pub mod Zeros
