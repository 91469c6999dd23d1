-- The laws of rows as data.
pub mod ByType
pub mod Bodies
pub mod Standing
pub mod FieldByField
pub mod Lines
pub mod Stores
pub mod Judging
pub mod Tables
pub mod Accepting
pub mod Exits
