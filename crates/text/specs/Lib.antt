-- What a text holds, and the lines of a report.
pub mod Content
pub mod Lines
