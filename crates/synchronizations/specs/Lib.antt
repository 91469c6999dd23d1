-- The machines of rows of several kinds whose events belong together.
pub mod Kinds
pub mod StrongSynchronization
pub mod Synchronization
