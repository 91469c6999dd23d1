-- What a host asks of a monitor while it runs: the numbers that answer, and what they promise.
pub mod Deadlines
pub mod Oldest
pub mod Numbers
pub mod Contract
pub mod Zeros
