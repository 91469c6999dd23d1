-- Why the machine of Repetition is exact, and fits a row.
pub mod Laws
