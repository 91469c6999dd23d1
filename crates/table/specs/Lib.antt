-- What the reader and the writer of tables promise.
pub mod Reading
pub mod Writing
pub mod Rows
pub mod Raw
pub mod Scan
pub mod Appending
pub mod ReadAnswer
pub mod WriteAnswer
pub mod AddAnswer
