-- What is promised of the contract's examples (crate constraint, Examples).
pub mod Reading
pub mod Vectors
