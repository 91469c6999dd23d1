-- The laws of the table's bytes.
mod Names
pub mod Shapes
pub mod Same
pub mod Places
pub mod ReadUnique
pub mod RoundTrip
pub mod AcceptedRows
pub mod Progress
pub mod Stores
pub mod Written
pub mod RoundTripCode
pub mod Scanning
pub mod Appending
pub mod RawRows
pub mod RawRoundTrip
