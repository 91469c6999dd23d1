-- What is true of the definitions: laws that every crate above cites.
mod Names
pub mod Library
pub mod Lists
pub mod Refusals
pub mod Streams
pub mod History
pub mod Lawful
pub mod Types
pub mod Lengths
pub mod Continuations
pub mod Verdicts
pub mod Waitings
pub mod Counting
pub mod Judged
pub mod LastQuestion
pub mod FittingKinds
pub mod Accepted
pub mod Editions
pub mod Runs
pub mod Withdrawals
pub mod AsBefore
pub mod LongerClocks
pub mod Sanity
pub mod SameMeaning
