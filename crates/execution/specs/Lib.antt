-- The machine of rows of four kinds whose events come in phases.
pub mod ExecutionTime
