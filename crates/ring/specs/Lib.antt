-- What a queue holds.
pub mod Ring
