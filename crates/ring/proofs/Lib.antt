-- What is true of a queue, and what the proofs of code share.
mod Names
pub mod Laws
pub mod Shared
