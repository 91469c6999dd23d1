-- The machines of rows of coloured kinds.
pub mod Marked
pub mod Coloured
pub mod Pairs
pub mod Reaction
pub mod Age
pub mod OutputSynchronization
pub mod InputSynchronization
pub mod FirstOwed
