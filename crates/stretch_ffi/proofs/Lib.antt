mod StretchNumbers
pub mod Decoded
pub mod Editions
