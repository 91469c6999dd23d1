-- What a row that is read back is, and what the calls promise.
pub mod Back
pub mod Contract
