-- The laws of each row type, and what they share.
pub mod Answers
pub mod Unmet
pub mod Paired
pub mod Delay
pub mod StrongDelay
pub mod Order
