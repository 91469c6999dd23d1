-- What each row type proves of its machine, and what several types share.
mod Names
pub mod FieldNumbers
pub mod RowNumbers
pub mod Exact
pub mod FitsRow
pub mod SeveralKinds
pub mod OneKind
pub mod TwoKinds
pub mod Sums
pub mod Oldest
mod Renewed
pub mod Spans
pub mod Tests
