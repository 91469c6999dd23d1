-- The machine of a row that no event concerns.
pub mod Comparison
