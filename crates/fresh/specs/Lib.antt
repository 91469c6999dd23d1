-- A lent monitor made fresh over a table.
pub mod Fresh
