-- Why the words are the definition's, and the monitor's where no stamp is late.
mod Names
pub mod Laws
pub mod Progress
pub mod Rows
pub mod Answers
pub mod Agreement
