-- The laws of each type.
pub mod Words
mod ByColour
mod ByPairs
pub mod ByWords
pub mod Events
pub mod Firsts
mod Colour
pub mod Reaction
pub mod Age
pub mod OutputSynchronization
pub mod InputSynchronization
