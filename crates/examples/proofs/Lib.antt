-- Why the examples read as they say.
pub mod Fitting
pub mod Examples
