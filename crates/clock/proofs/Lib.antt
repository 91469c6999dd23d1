-- Why the clock answers as the questions say, and how records are read over it one after the other.
pub mod Laws
