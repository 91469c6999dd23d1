-- Why the machines of rows of a source kind and a target kind are exact, and fit a row.
pub mod Laws
