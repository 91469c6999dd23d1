-- The laws of each row type.
pub mod Repeat
pub mod Burst
pub mod Arbitrary
pub mod ArbitraryWords
pub mod ArbitraryExamples
pub mod ArbitraryRepeats
