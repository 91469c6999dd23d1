-- What is promised of every list of the exported calls on lent memory.
pub mod Readers
pub mod Monitors
pub mod LentExact
pub mod Session
pub mod Apart
