-- A monitor lent by its owner: where its words stand, and what calls make of them.
pub mod Layout
pub mod Steps
pub mod Contract
