-- Why the machine of Comparison is exact, and fits a row.
pub mod Laws
