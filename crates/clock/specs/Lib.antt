-- What the clock of a recording promises.
pub mod Clock
