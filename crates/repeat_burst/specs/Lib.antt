-- The machine of rows of one kind that keep the times of their last events.
pub mod Repeat
pub mod Arbitrary
