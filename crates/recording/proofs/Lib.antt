-- Laws of a recording's records.
pub mod Records
mod Times
