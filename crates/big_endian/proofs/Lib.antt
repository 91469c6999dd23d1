-- Laws of numbers as bytes, of shifts, and of bytes stored in a list.
pub mod Numbers
pub mod Shifts
pub mod Stores
