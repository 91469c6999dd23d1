-- What the record reader promises.
pub mod Record
