-- The laws of the row type.
pub mod Comparison
