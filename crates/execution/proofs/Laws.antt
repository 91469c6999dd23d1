-- The laws of the row type, and what they are made of.
pub mod Executions
pub mod Continued
pub mod ExecutionTime
