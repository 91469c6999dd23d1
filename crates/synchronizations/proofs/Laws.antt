-- The laws of the row types, and what they are made of.
pub mod Groups
pub mod Columns
pub mod Places
pub mod Counts
pub mod LiveGroups
pub mod StrongSynchronization
pub mod Windows
pub mod Synchronization
