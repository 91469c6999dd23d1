-- Why the machine of Sporadic is exact, and fits a row.
pub mod Laws
