-- Why the machine of ExecutionTime is exact, and fits a row.
pub mod Laws
