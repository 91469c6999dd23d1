-- Why the promise holds after every list of the exported calls.
mod Names
mod Words
mod Reading
mod Reached
mod Recorded
mod TakenRecords
mod WithdrawnStep
pub mod LentExact
pub mod Session
pub mod Apart
