-- What every row type is made of, as functions on numbers and lists.
pub mod Parameters
pub mod Parts
pub mod Words
pub mod Machine
