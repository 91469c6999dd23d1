-- What the call for a host promises.
pub mod Stretches
