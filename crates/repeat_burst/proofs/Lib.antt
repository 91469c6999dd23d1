-- Why the machine of Repeat and Burst is exact, and fits a row.
pub mod Laws
