-- What a call asks and what it changes beside the rows.
pub mod Questions
