-- Why the first stretch that breaks a row is found.
pub mod Taking
pub mod Starts
pub mod Runs
pub mod Places
pub mod Gathering
pub mod Answers
