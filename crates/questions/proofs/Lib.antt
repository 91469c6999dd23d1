-- What is true of places, for the proofs that read or write there, and of the default.
pub mod Places
