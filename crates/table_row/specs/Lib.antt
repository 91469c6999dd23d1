-- What the code's record of a row stands for, and the rows of a table record.
pub mod Records
pub mod Tables
