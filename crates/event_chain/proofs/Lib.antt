-- Why the machine of rows of coloured kinds is exact, and fits a row.
pub mod Laws
