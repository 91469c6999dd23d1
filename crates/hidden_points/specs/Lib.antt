-- The machine of rows of one kind whose events have hidden points.
pub mod Sporadic
