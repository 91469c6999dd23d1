-- The laws of each row type, and what they share.
pub mod Points
pub mod Sporadic
