-- What the reader of late stamps computes and promises.
pub mod Machine
pub mod Words
